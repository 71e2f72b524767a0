use Rattle.query_commands.proofs.Names.{drop, flat_map, IsUpTo, outlet, tuple_line}
use Rattle.query_commands.proofs.all_listing.write_tuples.Given as goal

abbrev pub invariant-loop-tuple : goal.invariant-loop-tuple
invariant-loop-tuple g l =
    IsUpTo (outlet (g.K.Sink.written l.fn.out) (g.K.Sink.faults l.fn.out) (g.K.Sink.wants l.fn.out)) (outlet (g.K.Sink.written l.out) (g.K.Sink.faults l.out) (g.K.Sink.wants l.out))
    (flat_map (tuple_line l.vars) (drop l.tuple-index l.tuples)) (flat_map (tuple_line l.vars) l.tuples)
