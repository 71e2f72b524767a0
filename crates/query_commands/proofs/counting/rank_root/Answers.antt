use Rattle.query_commands.proofs.Names.{at}
use Rattle.std.proofs.lemmas.Result.{IfOk-weaker}
use Rattle.query_commands.proofs.Facts.{named_is, told_of}
use Rattle.query_commands.proofs.counting.rank_root.Goals as goal

pub returns-in-Ok-clause-ok : goal.returns-in-Ok-clause-ok
returns-in-Ok-clause-ok g c =
    let named = rw c.bytes.ensures.value at c.in-Ok.ensures.rank in
    IfOk-weaker c.number_reply.result _ _ (λ answer replied q is. rw (named_is named q is) (told_of _ _ _ _ named.holds replied)) c.number_reply.ensures
