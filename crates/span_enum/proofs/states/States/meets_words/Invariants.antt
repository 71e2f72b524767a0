use Rattle.std.proofs.Common.{◌≡◌, ◌<◌, ℕ, bit_and, get_or}
use Rattle.state_tables.specs.StateSet.{words_of}
use Rattle.span_enum.proofs.states.States.meets_words.Given as goal

abbrev pub invariant-loop-index : goal.invariant-loop-index
invariant-loop-index g l = (k : ℕ) → k < l.index → bit_and (get_or l.set k 0) (get_or (words_of g.row.N l.self) k 0) ≡ 0
