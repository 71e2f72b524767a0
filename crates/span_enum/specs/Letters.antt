-- The steps of an automaton over the bytes of a text and over its end.
use Rattle.std.specs.Prelude.{ℕ, ◌==◌, List, Option, Some, None, if◌then◌else◌}
use Rattle.std.specs.List.{list_any}
use Rattle.span_types.specs.Words.{Marked}
use Rattle.marker_dfa.specs.Deterministic.{DeterministicAutomaton, next_of, ends_of, path}

-- state 0, if the mark is in the list
abbrev pub end_in : List ℕ → ℕ → Option ℕ
end_in ms m = if list_any (λ x. x == m) ms then Some 0 else None

-- the step over a letter: the letter 256 is the end of the text, which leads to state 0 with exactly the marks with which a text may end
unfoldable pub step_of : DeterministicAutomaton → ℕ → ℕ → ℕ → Option ℕ
step_of a p m b = if b == 256 then end_in (ends_of a p) m else next_of a p m b

-- the state after some marked letters, if any
abbrev pub reached : DeterministicAutomaton → ℕ → Marked → Option ℕ
reached a p w = path (step_of a) w p
