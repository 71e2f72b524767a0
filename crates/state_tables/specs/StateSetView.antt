-- The field of `StateSet` as contracts see it.
use Rattle.std.specs.Prelude.{ℕ, length}
use Rattle.state_tables.specs.StateSet.{number_of_words}
use Rattle.state_tables.specs.declared.state_set.StateSet.{StateSet}

-- the set as a number
abbrev pub set_of : StateSet → ℕ
set_of s = number_of_words s.words.now

-- the number of its words
abbrev pub width_of : StateSet → ℕ
width_of s = length s.words.now
