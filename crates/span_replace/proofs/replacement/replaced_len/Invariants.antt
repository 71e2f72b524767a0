use Rattle.std.proofs.Common.{◌≡◌, ℕ, ◌+◌, ◌-◌, ◌*◌, ◌≤◌, List, length, drop}
use Rattle.span_replace.specs.Replaced.{AreApartFrom, replaced, replaced_from}
use Rattle.span_replace.proofs.replacement.replaced_len.Given as goal

abbrev pub invariant-loop-span : goal.invariant-loop-span
invariant-loop-span l = record {
  start : 1 ≤ l.at;
  apart : AreApartFrom l.at l.len (drop l.span-index l.spans);
  small : l.done ≤ l.span-index * l.by + (l.at - 1);
  length_is : (s w : List ℕ) → length s ≡ l.len → length w ≡ l.by → l.done + length (replaced_from l.at s (drop l.span-index l.spans) w) ≡ length (replaced s l.spans w);
}
