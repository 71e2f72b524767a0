-- Each distinct table once.
use Rattle.std.proofs.Common.{◌≡◌, ℕ, ◌+◌, ◌<◌, ◌^◌, ap, arith, inl, inr, List, [], ◌∷◌, ◌++◌, length, length-append, get_or, Some, Result, Ok, Err, slice_get}
use Rattle.std.specs.Prelude.{IfOk, OnErr, OnOk}
use Rattle.std.proofs.Math.ListN.{get_or-append}
use Rattle.std.proofs.lemmas.Option.{get_or_from_slice_get, slice_get_within}
use Rattle.path_counts.specs.Counting.{CountRow, IsComposed, IsCountTableOf}
use Rattle.distinct_items.specs.Search.{IsAbsent, TakesIn}
use Rattle.distinct_items.proofs.Adding.{AreDistinctItems-added, all-added}
use Rattle.count_tables.specs.Dictionary.{AreKept}
use Rattle.count_tables.specs.Remembered.{Extends}

-- a kept table that is read
pub kept-read : (kept : List (List CountRow)) (n : ℕ) (t : List CountRow) → slice_get kept n ≡ Some t → (n < length kept) × (get_or kept n [] ≡ t)
kept-read kept n t h = (slice_get_within kept n t h, get_or_from_slice_get kept n t [] h)

pub read-ok : {E : Type 0} (r : Result ℕ E) (kept : List (List CountRow)) (t : List CountRow) → IfOk r (λ n. slice_get kept n ≡ Some t) → IfOk r (λ n. (n < length kept) × (get_or kept n [] ≡ t))
read-ok (Ok n) kept t h = kept-read kept n t h
read-ok (Err e) kept t h = h

-- a composition of two kept tables that are read
pub composed-read : (kept : List (List CountRow)) (left right : ℕ) (x y t : List CountRow) → slice_get kept left ≡ Some x → slice_get kept right ≡ Some y → IsComposed x y t → IsComposed (get_or kept left []) (get_or kept right []) t
composed-read kept left right x y t first second is = rw (get_or_from_slice_get kept left x [] first, get_or_from_slice_get kept right y [] second) is

-- a further table
module _ (n : ℕ) (kept : List (List CountRow)) (t : List CountRow) (is : AreKept n kept) (shape : IsCountTableOf n t) (absent : IsAbsent kept t) (room : length kept + 1 < 2 ^ 32) where
  longer : length (kept ++ t ∷ []) ≡ length kept + 1
  longer = length-append kept (t ∷ [])

  more : AreKept n (kept ++ t ∷ [])
  more = record {
    narrow = omega (arith, longer, room);
    shapes = all-added (IsCountTableOf n) [] kept t is.shapes shape;
    distinct = AreDistinctItems-added kept t is.distinct absent;
  }

pub extends-same : (kept new : List (List CountRow)) → new ≡ kept → Extends kept new
extends-same kept new e = record { more = λ i lt. rw e lt; same = λ i lt. ap (λ ts. get_or ts i []) e }

extends-push : (kept : List (List CountRow)) (t : List CountRow) → Extends kept (kept ++ t ∷ [])
extends-push kept t = record {
  more = λ i lt. omega (arith, lt, length-append kept (t ∷ []));
  same = λ i lt. get_or-append kept (t ∷ []) [] i lt;
}

-- a table is kept, where there was memory
pub AreKept-keep : {E : Type 0} (r : Result ℕ E) (n : ℕ) (kept new : List (List CountRow)) (t : List CountRow) → AreKept n kept → IsCountTableOf n t → length kept + 1 < 2 ^ 32
    → OnOk r (TakesIn kept new t) → OnErr r (new ≡ kept) → AreKept n new × Extends kept new
AreKept-keep (Ok i) n kept new t is shape room taken err = elim taken [
  | inl e ↦ (rw e is, extends-same kept new e)
  | inr e ↦ (rw e.0 (more n kept t is shape e.1 room), rw e.0 (extends-push kept t))
]
AreKept-keep (Err x) n kept new t is shape room taken err = (rw err is, extends-same kept new err)
