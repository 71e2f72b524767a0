-- How many words of 64 bits a set of an automaton's states has.
use Rattle.std.specs.Prelude.{ℕ, ◌≤◌}
use Rattle.span_enum.specs.declared.answers.Width.{Width}
use Rattle.span_enum.specs.declared.answers.Width.TheVariants.{One, Two, Sixteen}

-- each of this many states has a bit
abbrev pub IsWidthFor : Width → ℕ → Type 0
IsWidthFor One states = states ≤ 64
IsWidthFor Two states = states ≤ 128
IsWidthFor Sixteen states = states ≤ 1024
