use Rattle.std.proofs.Common.{◌≡◌, ◌<◌, ℕ, Some, slice_get}
use Rattle.marker_dfa.proofs.found.index_among.Given as goal

abbrev pub invariant-loop-index : goal.invariant-loop-index
invariant-loop-index l = record {
  same : l.other-items ≡ l.fn.sets.items;
  none : (r : ℕ) → r < l.index → slice_get l.other-items r ≡ Some l.fn.set → ⊥;
}
