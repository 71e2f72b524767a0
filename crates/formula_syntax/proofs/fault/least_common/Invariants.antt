use Rattle.std.proofs.Common.{◌≡◌, ◌<◌, ℕ, false, None, Bool}
use Rattle.std.specs.Prelude.{slice_index_or, ◌&&◌}
use Rattle.span_types.specs.FormulaTree.{least_below}
use Rattle.formula_syntax.proofs.fault.least_common.Given as goal

abbrev pub invariant-loop-v : goal.invariant-loop-v
invariant-loop-v l = (p : ℕ → Bool) → ((v : ℕ) → v < 8 → (slice_index_or l.a v false && slice_index_or l.b v false) ≡ p v) → least_below l.v p ≡ None
