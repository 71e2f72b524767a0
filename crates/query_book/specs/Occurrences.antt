-- The number of reachable sets of a formula's occurrences of byte sets.
use Rattle.std.specs.Prelude.{ℕ, suc}
use Rattle.span_types.specs.FormulaTree.{FormulaTree, sets}
use Rattle.formula_law.specs.Accepts.{Steps}
use Rattle.marker_dfa.specs.Reached as occurrences

-- Count(f) is more than n: there are more than n reachable sets
abbrev pub CountIsAbove : ℕ → FormulaTree → Type 0
CountIsAbove n f = occurrences.CountIsAbove n (suc (sets f)) (Steps f)
