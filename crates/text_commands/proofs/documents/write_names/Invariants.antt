use Rattle.text_commands.proofs.Names.{IsUpTo, names_text, outlet, plain}
use Rattle.text_commands.proofs.Facts.{names_rest}
use Rattle.text_commands.proofs.documents.write_names.Given as goal

abbrev pub invariant-loop-index : goal.invariant-loop-index
invariant-loop-index g l =
    IsUpTo (outlet (g.K.Sink.written l.fn.out) (g.K.Sink.faults l.fn.out) (g.K.Sink.wants l.fn.out)) (outlet (g.K.Sink.written l.out) (g.K.Sink.faults l.out) (g.K.Sink.wants l.out))
    (names_rest l.store l.docs l.index) (names_text (plain l.store l.docs))
