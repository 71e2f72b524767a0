-- Rows whose counts are parts of one list.
use Rattle.std.proofs.Common.{◌≡◌, ℕ, suc, ◌+◌, ◌-◌, ◌≤◌, List, [], ◌∷◌, ◌++◌, length, take, drop, refl, ap, ◌∙◌, arith}
use Rattle.std.specs.Prelude.{slice_range}
use Rattle.std.proofs.lemmas.List.{drop-append-le, length-append, length-drop, map-append, take-append-le, take_all}
use Rattle.std.proofs.lemmas.List.Elements.{All-head, All-tail}
use Rattle.path_counts.specs.declared.count.Count.{Count}
use Rattle.path_counts.specs.declared.row_list.Row.{Row}
use Rattle.path_counts.specs.Counting.{CountRow}
use Rattle.path_counts.specs.Flat.{AreWithin, IsWithin, row_of, rows_of}

part-kept : (counts more : List Count) (a b : ℕ) → a ≤ b → b ≤ length counts → slice_range (counts ++ more) a b ≡ slice_range counts a b
part-kept counts more a b le within =
    let long = length-drop a counts in
    ap (take (b - a)) (drop-append-le a counts more (omega (arith, le, within))) ∙ take-append-le (b - a) (drop a counts) more (omega (arith, long, le, within))

part-new : (counts more : List Count) → slice_range (counts ++ more) (length counts) (length counts + length more) ≡ more
part-new [] more = take_all (0 + length more - 0) more (omega arith)
part-new (c ∷ counts) more = ap (λ n. take n (drop (length counts) (counts ++ more))) (less (length counts) (length more)) ∙ part-new counts more
  where
    less : (i j : ℕ) → suc i + j - suc i ≡ i + j - i
    less i j = omega arith

-- more counts behind leave the rows as they are
pub rows-kept : (rows : List Row) (counts more : List Count) → AreWithin rows counts → rows_of rows (counts ++ more) ≡ rows_of rows counts
rows-kept [] counts more h = refl
rows-kept (r ∷ rows) counts more h =
    let first = All-head (IsWithin counts) r rows h in
    let here : row_of (counts ++ more) r ≡ row_of counts r = ap (λ (cs : List Count). record { unmarked = r.unmarked; counts = cs }) (part-kept counts more r.start r.end first.order first.within) in
    ap (λ x. x ∷ rows_of rows (counts ++ more)) here ∙ ap (λ xs. row_of counts r ∷ xs) (rows-kept rows counts more (All-tail (IsWithin counts) r rows h))

-- a row is appended, whose counts are those behind
pub rows-pushed : (rows : List Row) (counts more : List Count) (r : Row) → AreWithin rows counts → r.start ≡ length counts → r.end ≡ length (counts ++ more)
    → rows_of (rows ++ r ∷ []) (counts ++ more) ≡ rows_of rows counts ++ record { unmarked = r.unmarked; counts = more } ∷ []
rows-pushed rows counts more r h start end =
    let last : r.end ≡ length counts + length more = end ∙ length-append counts more in
    let part : slice_range (counts ++ more) r.start r.end ≡ more =
    ap (λ a. slice_range (counts ++ more) a r.end) start ∙ ap (slice_range (counts ++ more) (length counts)) last ∙ part-new counts more in
    let new : CountRow = record { unmarked = r.unmarked; counts = more } in
    let here : row_of (counts ++ more) r ≡ new = ap (λ (cs : List Count). record { unmarked = r.unmarked; counts = cs }) part in
    map-append (row_of (counts ++ more)) rows (r ∷ [])
    ∙ ap (λ (xs : List CountRow). xs ++ row_of (counts ++ more) r ∷ []) (rows-kept rows counts more h)
    ∙ ap (λ (x : CountRow). rows_of rows counts ++ x ∷ []) here
