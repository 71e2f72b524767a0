use Rattle.std.proofs.Common.{◌≡◌, ℕ, length, get_or}
use Rattle.table_grow.proofs.filler.Filler.new.Given as goal

abbrev pub invariant-loop-i : goal.invariant-loop-i
invariant-loop-i l = record {
  count : length l.places.items ≡ l._i;
  empty : (k : ℕ) → get_or l.places.items k 0 ≡ 0;
}
