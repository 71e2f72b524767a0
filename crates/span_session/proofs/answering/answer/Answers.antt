use Rattle.span_session.proofs.Names.{IsConsistent, rules, subst, sym}
use Rattle.span_session.proofs.Remaining.{in_memory}
use Rattle.span_session.proofs.answering.answer.Goals as goal

pub save_file-requires : goal.save_file-requires
save_file-requires g c = subst IsConsistent (sym c.settle.ensures) c.requires.session

pub returns-in-SaveFile-clause-done : goal.returns-in-SaveFile-clause-done
returns-in-SaveFile-clause-done g c = rw (c.in-SaveFile.is, ← c.settle.ensures) (c.save_file.ensures.done _ _ _)

pub returns-in-SaveFile-clause-stopped : goal.returns-in-SaveFile-clause-stopped
returns-in-SaveFile-clause-stopped g c = rw (c.in-SaveFile.is, ← c.settle.ensures) (c.save_file.ensures.stopped _ _ _)

pub answer_in_memory-requires-clause-in_memory : goal.answer_in_memory-requires-clause-in_memory
answer_in_memory-requires-clause-in_memory g c =
    let is = in_memory c.args.command c.requires.answering c.in_default.not-LoadFile c.in_default.not-ShareFile c.in_default.not-WriteFile c.in_default.not-SaveFile c.in_default.not-OpenFile in search rules
