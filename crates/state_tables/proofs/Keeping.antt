-- Each distinct table once.
use Rattle.std.proofs.Common.{zero, suc, ◌≡◌, ℕ, ◌+◌, ◌<◌, ◌^◌, Bool, true, ◌&&◌, nat_eq, refl, sym, subst, arith, inl, inr, List, [], ◌∷◌, ◌++◌, length, length-append, get_or, Option, Some, None, Result, Ok, Err, slice_get}
use Rattle.std.specs.Prelude.{IfOk, OnErr, OnOk}
use Rattle.std.specs.Option.{option_eq}
use Rattle.std.proofs.lemmas.Bool.{eq-eqb}
use Rattle.distinct_items.specs.Search.{IsAbsent, TakesIn}
use Rattle.distinct_items.proofs.Adding.{AreDistinctItems-added, all-added}
use Rattle.state_tables.specs.Table.{Row, IsTableOf}
use Rattle.state_tables.specs.Same.{row_eq, table_eq}
use Rattle.state_tables.specs.Dictionary.{Dictionary, IsDictionary}

option-self : (o : Option ℕ) → option_eq nat_eq o o ≡ true
option-self None = refl
option-self (Some q) = eq-eqb q q refl

and-both : (x y : Bool) → x ≡ true → y ≡ true → (x && y) ≡ true
and-both x y p q = cc

-- a table is equal to itself
pub table-self : (t : List Row) → table_eq t t ≡ true
table-self [] = refl
table-self (r ∷ t) = and-both (row_eq r r) (table_eq t t) (and-both (option_eq nat_eq r.unmarked r.unmarked) (nat_eq r.marked r.marked) (option-self r.unmarked) (eq-eqb r.marked r.marked refl)) (table-self t)

-- a kept table that is read
pub kept-read : (kept : List (List Row)) (n : ℕ) (t : List Row) → slice_get kept n ≡ Some t → (n < length kept) × (get_or kept n [] ≡ t)
kept-read [] n t h = cc
kept-read (x ∷ kept) zero t h = (omega arith, cc)
kept-read (x ∷ kept) (suc n) t h = let rest = kept-read kept n t h in (omega (arith, rest.0), rest.1)

pub read-ok : {E : Type 0} (r : Result ℕ E) (kept : List (List Row)) (t : List Row) → IfOk r (λ n. slice_get kept n ≡ Some t) → IfOk r (λ n. (n < length kept) × (get_or kept n [] ≡ t))
read-ok (Ok n) kept t h = kept-read kept n t h
read-ok (Err e) kept t h = h

-- the same tables
same : (d : Dictionary) (kept : List (List Row)) → IsDictionary d → kept ≡ d.kept → IsDictionary (record d { kept = kept })
same d kept is e = subst (λ (ts : List (List Row)). IsDictionary (record d { kept = ts })) (sym e) is

-- a further table
module _ (d : Dictionary) (t : List Row) (is : IsDictionary d) (shape : IsTableOf d.states t) (absent : IsAbsent d.kept t) (room : length d.kept + 1 < 2 ^ 32) where
  longer : length (d.kept ++ t ∷ []) ≡ length d.kept + 1
  longer = length-append d.kept (t ∷ [])

  more : IsDictionary (record d { kept = d.kept ++ t ∷ [] })
  more = record {
    few = is.few;
    narrow = omega (arith, longer, room);
    numbers_kept = λ id h. omega (arith, is.numbers_kept id h, longer);
    shapes = all-added (IsTableOf d.states) [] d.kept t is.shapes shape;
    distinct = AreDistinctItems-added d.kept t is.distinct absent;
  }

-- a table is kept, if memory allows
pub IsDictionary-keep : {E : Type 0} (r : Result ℕ E) (d : Dictionary) (kept : List (List Row)) (t : List Row) → IsDictionary d → IsTableOf d.states t → length d.kept + 1 < 2 ^ 32
    → OnOk r (TakesIn d.kept kept t) → OnErr r (kept ≡ d.kept) → IsDictionary (record d { kept = kept })
IsDictionary-keep (Ok n) d kept t is shape room taken err = elim taken [
  | inl e ↦ same d kept is e
  | inr e ↦ subst (λ (ts : List (List Row)). IsDictionary (record d { kept = ts })) (sym e.0) (more d t is shape e.1 room)
]
IsDictionary-keep (Err x) d kept t is shape room taken err = same d kept is err
