-- Tables are made row by row.
use Rattle.std.proofs.Common.{◌≡◌, ℕ, ◌+◌, ◌<◌, ◌≤◌, ◌^◌, List, [], ◌∷◌, ◌++◌, length, sym, ap, subst, arith, inl, inr, Option, Some, None, IfSome}
use Rattle.std.proofs.lemmas.Bool.{cases_eq, cases_lt}
use Rattle.std.proofs.lemmas.List.{get_or_append_left, get_or_push, length-append}
use Rattle.std.proofs.lemmas.List.Elements.{All-nil}
use Rattle.std.proofs.Math.ListN.{get_or-eq_default}
use Rattle.path_counts.specs.Paths.{most}
use Rattle.path_counts.specs.Counting.{AreCounts, CountRow, IsCountTableOf, counts_at, no_row, row_at, unmarked_at}
use Rattle.path_counts.proofs.Lists.{pairs-nil}

-- what holds of each row, and of one more
pub rows-push : (P : ℕ → CountRow → Type 0) (rows : List CountRow) (i : ℕ) (row : CountRow) → length rows ≡ i → ((p : ℕ) → p < i → P p (row_at rows p)) → P i row
    → (p : ℕ) → p < i + 1 → P p (row_at (rows ++ row ∷ []) p)
rows-push P rows i row long before here p lt = elim (cases_eq p i) [
  | inl e ↦
      let at : row_at (rows ++ row ∷ []) i ≡ row = get_or_push rows row no_row i long in
      subst (λ k. P k (row_at (rows ++ row ∷ []) k)) (sym e) (subst (P i) (sym at) here)
  | inr ne ↦
      let below : p < i = grind (arith, lt, ne) in
      subst (P p) (sym (get_or_append_left rows (row ∷ []) no_row p (omega (arith, below, long)))) (before p below)
]

no-counts : (n : ℕ) → AreCounts n []
no-counts n = record {
  rising = pairs-nil (λ x y. x.state < y.state);
  within = All-nil (λ c. c.state < n);
  some = All-nil (λ c. 0 < c.number);
  low = All-nil (λ c. c.number ≤ most);
}

some-is : (o : Option ℕ) (n q : ℕ) → IfSome o (λ r. r < n) → o ≡ Some q → q < n
some-is None n q h e = cc
some-is (Some r) n q h e = let same : r ≡ q = cc in omega (arith, h, same)

-- the shape of a table, from that of each of its rows
pub shape-of : (n : ℕ) (t : List CountRow) → length t ≡ n → n < 2 ^ 16 → ((p : ℕ) → p < n → IfSome (unmarked_at t p) (λ q. q < n)) → ((p : ℕ) → p < n → AreCounts n (counts_at t p)) → IsCountTableOf n t
shape-of n t long few unmarked counts = record {
  states = long;
  few = few;
  unmarked_within = λ p q e. elim (cases_lt p n) [
    | inl lt ↦ some-is (unmarked_at t p) n q (unmarked p lt) e
    | inr le ↦ absurd (none p q (omega (arith, le, long)) e)
  ];
  counts = λ p. elim (cases_lt p n) [
    | inl lt ↦ counts p lt
    | inr le ↦ subst (λ r. AreCounts n r.counts) (sym (past p (omega (arith, le, long)))) (no-counts n)
  ];
}
  where
    past : (p : ℕ) → length t ≤ p → row_at t p ≡ no_row
    past p le = get_or-eq_default t no_row le

    none : (p q : ℕ) → length t ≤ p → unmarked_at t p ≡ Some q → ⊥
    none p q le e = let is : unmarked_at t p ≡ None = ap (λ r. r.unmarked) (past p le) in cc

pub pushed-length : (rows : List CountRow) (row : CountRow) → length (rows ++ row ∷ []) ≡ length rows + 1
pushed-length rows row = length-append rows (row ∷ [])
