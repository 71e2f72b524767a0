use Rattle.std.proofs.Common.{◌≡◌, ◌<◌, ℕ, get_or}
use Rattle.state_tables.specs.StateSet.{words_of}
use Rattle.span_enum.proofs.states.States.least.Given as goal

abbrev pub invariant-loop-index : goal.invariant-loop-index
invariant-loop-index g l = (k : ℕ) → k < l.index → get_or (words_of g.row.N l.self) k 0 ≡ 0
