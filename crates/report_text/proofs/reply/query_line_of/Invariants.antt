use Rattle.std.proofs.Common.{◌≡◌, ◌++◌, ◌∷◌, [], drop}
use Rattle.std.specs.List.{flat_map}
use Rattle.report_text.specs.Reply.{after_space, query_text}
use Rattle.report_text.proofs.reply.query_line_of.Given as goal

abbrev pub invariant-loop-v : goal.invariant-loop-v
invariant-loop-v l = l.line.items ++ (flat_map after_space (drop l.v l.vars) ++ 10 ∷ []) ≡ query_text l.name l.vars
