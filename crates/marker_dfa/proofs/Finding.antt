-- Where a mark leads.
use Rattle.std.proofs.Common.{◌≡◌, ◌==◌, ℕ, zero, suc, ◌<◌, Bool, true, false, refl, sym, ◌≤◌, ◌⊎◌, inl, inr, ap, subst, ◌∙◌, arith, List, [], ◌∷◌, length, Option, Some, None, Result, Ok, Err, Ordering, if◌then◌else◌, get_or, slice_get, AllPairs}
use Rattle.std.proofs.lemmas.Bool.Decides.{nat_tests}
use Rattle.std.specs.List.Sorted.{IsBinarySearchResult, IsNonDecreasingBy, IsSearchInRange}
use Rattle.std.specs.Option.{option_copied}
use Rattle.std.specs.Ordering.{nat_cmp, ordering_index}
use Rattle.std.specs.Result.{MatchResult}
use Rattle.std.proofs.lemmas.Cmp.{ranked}
use Rattle.std.proofs.lemmas.List.Sorted.{IsNonDecreasingBy-from_default}
use Rattle.std.specs.Slice.{IsItemAt}
use Rattle.std.specs.Borrow.{Bor}
use Rattle.std.proofs.lemmas.Option.{slice_get_past, slice_get-get_or}
use Rattle.marker_dfa.specs.declared.dfa.Cell.{Cell}
use Rattle.marker_dfa.specs.Deterministic.{find_target, marks_in}

pub missing : (ms ts : List ℕ) (m : ℕ) → ((j : ℕ) → j < length ms → get_or ms j 0 ≡ m → ⊥) → find_target ms ts m ≡ None
missing [] ts m h = refl
missing (n ∷ ms) [] m h = refl
missing (n ∷ ms) (t ∷ ts) m h =
    let rest = missing ms ts m (λ j l e. h (suc j) (omega (arith, l)) e) in
    let ne : n ≡ m → ⊥ = h zero (omega arith) in
    go (n == m) (λ e. ne (grind (arith, nat_tests))) rest
  where
    go : (b : Bool) → (b ≡ true → ⊥) → find_target ms ts m ≡ None → (if b then Some t else find_target ms ts m) ≡ None
    go true f r = absurd (f refl)
    go false f r = r

pub found : (ms ts : List ℕ) (m k : ℕ) → ((j : ℕ) → j < k → get_or ms j 0 ≡ m → ⊥) → k < length ms → get_or ms k 0 ≡ m → find_target ms ts m ≡ slice_get ts k
found [] ts m k h lt e = absurd (omega (arith, lt))
found (n ∷ ms) [] m k h lt e = refl
found (n ∷ ms) (t ∷ ts) m zero h lt e = yes_case (n == m) (grind (arith, nat_tests))
  where
    yes_case : (b : Bool) → b ≡ true → (if b then Some t else find_target ms ts m) ≡ Some t
    yes_case true f = refl
    yes_case false f = absurd (cc)
found (n ∷ ms) (t ∷ ts) m (suc k) h lt e =
    let rest = found ms ts m k (λ j l q. h (suc j) (omega (arith, l)) q) (omega (arith, lt)) e in
    let ne : n ≡ m → ⊥ = h zero (omega arith) in
    go (n == m) (λ q. ne (grind (arith, nat_tests))) rest
  where
    go : (b : Bool) → (b ≡ true → ⊥) → find_target ms ts m ≡ slice_get ts k → (if b then Some t else find_target ms ts m) ≡ slice_get ts k
    go true f r = absurd (f refl)
    go false f r = r

-- what is copied out of a list is its element
pub copied_get : (r : Option (Bor ℕ)) (xs : List ℕ) (i : ℕ) → IsItemAt xs i r → option_copied r ≡ slice_get xs i
copied_get None xs i h = sym (slice_get_past xs i h.3)
copied_get (Some x) xs i h = sym (slice_get-get_or xs i x.now h.3.0 ∙ ap Some (sym h.1))

order : (x y : ℕ) → (x < y) ⊎ (y ≤ x)
order x y = grind arith

-- along descending marks, how a mark compares with them rises
rises : (ms : List ℕ) (m : ℕ) → AllPairs (λ x y. y < x) ms → IsNonDecreasingBy (λ y. ordering_index (nat_cmp m y)) ms
rises ms m fall = IsNonDecreasingBy-from_default (λ y. ordering_index (nat_cmp m y)) ms 0 (λ i j le lt. higher (get_or ms i 0) (get_or ms j 0) (falls i j le lt (order i j)))
  where
    higher : (x y : ℕ) → y ≤ x → ordering_index (nat_cmp m x) ≤ ordering_index (nat_cmp m y)
    higher x y le = grind (arith, nat_tests)

    falls : (i j : ℕ) → i ≤ j → j < length ms → (i < j) ⊎ (j ≤ i) → get_or ms j 0 ≤ get_or ms i 0
    falls i j le lt (inl l) = omega (arith, fall i j 0 l lt)
    falls i j le lt (inr g) = let same : i ≡ j = omega (arith, le, g) in omega (arith, ap (λ k. get_or ms k 0) same)

-- what a binary search finds in descending marks
searched : (ms ts : List ℕ) (m : ℕ) (r : Result ℕ ℕ) → AllPairs (λ x y. y < x) ms → IsSearchInRange r (length ms) → IsBinarySearchResult (λ y. nat_cmp m y) ms r
    → MatchResult r (λ i. find_target ms ts m ≡ slice_get ts i) (λ _. find_target ms ts m ≡ None)
searched ms ts m (Ok i) fall in_range at =
    let here : m ≡ get_or ms i 0 = ranked m (get_or ms i 0) Ordering.Equal (sym (at 0)) in
    found ms ts m i (λ j l e. let below : get_or ms i 0 < get_or ms j 0 = fall j i 0 l in_range in omega (arith, below, here, e)) in_range (sym here)
searched ms ts m (Err i) fall in_range parted =
    let split = parted (rises ms m fall) in
    missing ms ts m (λ j l e. other j l e (order j i) (λ k lt. split.0 k 0 (omega arith) lt) (λ k le lt. split.1 k 0 le lt))
  where
    other : (j : ℕ) → j < length ms → get_or ms j 0 ≡ m → (j < i) ⊎ (i ≤ j) → ((k : ℕ) → k < i → nat_cmp m (get_or ms k 0) ≡ Ordering.Less) → ((k : ℕ) → i ≤ k → k < length ms → nat_cmp m (get_or ms k 0) ≡ Ordering.Greater) → ⊥
    other j l e (inl lt) less greater = let more : m < get_or ms j 0 = ranked m (get_or ms j 0) Ordering.Less (sym (less j lt)) in omega (arith, more, e)
    other j l e (inr le) less greater = let more : get_or ms j 0 < m = ranked m (get_or ms j 0) Ordering.Greater (sym (greater j le l)) in omega (arith, more, e)

pub found_by : (ms ts : List ℕ) (m : ℕ) (r : Result ℕ ℕ) (i : ℕ) → r ≡ Ok i → AllPairs (λ x y. y < x) ms → IsSearchInRange r (length ms) → IsBinarySearchResult (λ y. nat_cmp m y) ms r → find_target ms ts m ≡ slice_get ts i
found_by ms ts m r i e fall bound position = subst (λ (o : Result ℕ ℕ). MatchResult o (λ i. find_target ms ts m ≡ slice_get ts i) (λ _. find_target ms ts m ≡ None)) e (searched ms ts m r fall bound position)

pub missing_by : (ms ts : List ℕ) (m : ℕ) (r : Result ℕ ℕ) (i : ℕ) → r ≡ Err i → AllPairs (λ x y. y < x) ms → IsSearchInRange r (length ms) → IsBinarySearchResult (λ y. nat_cmp m y) ms r → find_target ms ts m ≡ None
missing_by ms ts m r i e fall bound position = subst (λ (o : Result ℕ ℕ). MatchResult o (λ i. find_target ms ts m ≡ slice_get ts i) (λ _. find_target ms ts m ≡ None)) e (searched ms ts m r fall bound position)

-- the marks of a cell fall where those of its state and byte do
pub cell_falls : (o : Option Cell) (c : Cell) → o ≡ Some c → AllPairs (λ x y. y < x) (marks_in o) → AllPairs (λ x y. y < x) c.marks.items
cell_falls o c e h = subst (λ (p : Option Cell). AllPairs (λ x y. y < x) (marks_in p)) e h
