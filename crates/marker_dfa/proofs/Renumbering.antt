-- The representatives, their numbers and their rows, while they are collected.
use Rattle.std.proofs.Common.{◌≡◌, ℕ, zero, suc, ◌+◌, ◌<◌, ◌≤◌, ◌⊎◌, inl, inr, refl, sym, ap, subst, ◌∙◌, arith, List, [], ◌∷◌, ◌++◌, length, Some, slice_get, get_or, set, replicate, length-append, length-set}
use Rattle.std.proofs.lemmas.Bool.{cases_lt}
use Rattle.std.proofs.lemmas.List.{get_or-replicate, length-replicate}
use Rattle.std.proofs.lemmas.Option.{slice_get-get_or}
use Rattle.marker_dfa.proofs.Lists.{get_push, get_within, one_value, push_get, push_last, set_cases, set_here, set_there}
use Rattle.marker_dfa.specs.declared.dfa.Row.{Row}
use Rattle.marker_dfa.specs.Merging.{AreNumbered, AreRowsUnder, IsRowUnder}

-- a list of results for the first elements of another
pub record AreMade {X Y : Type 0} (Made : X → Y → Type 0) (xs : List X) (n : ℕ) (ys : List Y) : Type 0 where
  pub size : length ys ≡ n
  pub each : (i : ℕ) (x : X) (y : Y) → slice_get xs i ≡ Some x → slice_get ys i ≡ Some y → Made x y

pub made_start : {X Y : Type 0} (Made : X → Y → Type 0) (xs : List X) → AreMade Made xs 0 []
made_start Made xs = record { size = refl; each = λ i x y h k. absurd (cc) }

-- one more result
pub made_more : {X Y : Type 0} (Made : X → Y → Type 0) (xs : List X) (n : ℕ) (ys : List Y) (x : X) (y : Y) → slice_get xs n ≡ Some x → Made x y → AreMade Made xs n ys → AreMade Made xs (n + 1) (ys ++ y ∷ [])
made_more {X} {Y} Made xs n ys x y at made h = record {
  size = omega (arith, length-append ys (y ∷ []), h.size);
  each = λ i a b p q. go i a b p (get_push ys y b i q);
}
  where
    go : (i : ℕ) (a : X) (b : Y) → slice_get xs i ≡ Some a → (slice_get ys i ≡ Some b) ⊎ ((i ≡ length ys) × (y ≡ b)) → Made a b
    go i a b p (inl q) = h.each i a b p q
    go i a b p (inr q) =
        let same : x ≡ a = one_value xs n x a at (ap (slice_get xs) (sym (q.0 ∙ h.size)) ∙ p) in
        subst (λ (z : X). Made z b) same (subst (λ (z : Y). Made x z) q.1 made)

-- the row is that of a state, with new numbers of its targets
abbrev pub IsRowOf : List ℕ → List Row → ℕ → Row → Type 0
IsRowOf numbers old q s = (r : Row) → slice_get old q ≡ Some r → IsRowUnder numbers r s

pub rows_end : (kept numbers : List ℕ) (old new : List Row) (n : ℕ) → length kept ≡ n → AreMade (IsRowOf numbers old) kept n new → AreRowsUnder kept numbers old new
rows_end kept numbers old new n e h = record { even = h.size ∙ sym e; rows = λ k q r s a b c. h.each k q s a c r b }

-- the element at an index of a loop, in another name of its list
pub item_at : {X : Type 0} (items xs : List X) (k : ℕ) (x : X) → items ≡ xs → k < length items → x ≡ get_or items k x → slice_get xs k ≡ Some x
item_at items xs k x same lt is = ap (λ l. slice_get l k) (sym same) ∙ slice_get-get_or items k x lt ∙ ap Some (sym is)

-- the same at numbers
pub number_at : (items xs : List ℕ) (k : ℕ) → items ≡ xs → k < length items → slice_get xs k ≡ Some (get_or items k 0)
number_at items xs k same lt = ap (λ l. slice_get l k) (sym same) ∙ slice_get-get_or items k 0 lt

pub row_of_state : (numbers : List ℕ) (old : List Row) (q : ℕ) (r s : Row) → slice_get old q ≡ Some r → IsRowUnder numbers r s → IsRowOf numbers old q s
row_of_state numbers old q r s at under t e = subst (λ (x : Row). IsRowUnder numbers x s) (one_value old q r t at e) under

-- the representatives among the first n states, after that of the start
pub record KeptSoFar (into : List ℕ) (start n : ℕ) (kept numbers : List ℕ) : Type 0 where
  pub size : length numbers ≡ length into
  pub few : length kept ≤ n + 1
  pub fewer : start < n → length kept ≤ n
  pub first : slice_get kept 0 ≡ Some start
  pub below : (k r : ℕ) → slice_get kept k ≡ Some r → (r < n) ⊎ (r ≡ start)
  pub number : (q k : ℕ) → (q < n) ⊎ (q ≡ start) → slice_get into q ≡ Some q → slice_get numbers q ≡ Some k → slice_get kept k ≡ Some q
  pub back : (k r : ℕ) → slice_get kept k ≡ Some r → (slice_get into r ≡ Some r) × (slice_get numbers r ≡ Some k)

pub kept_start : (into numbers : List ℕ) (start : ℕ) → numbers ≡ replicate (length into) 0 → slice_get into start ≡ Some start → KeptSoFar into start 0 (start ∷ []) numbers
kept_start into numbers start zeros own = record {
  size = size;
  few = omega arith;
  fewer = λ lt. absurd (omega (arith, lt));
  first = refl;
  below = below;
  number = λ q k c i h. number q k h c;
  back = back;
}
  where
    size : length numbers ≡ length into
    size = ap length zeros ∙ length-replicate (length into) 0

    zero_at : (q : ℕ) → q < length into → slice_get numbers q ≡ Some 0
    zero_at q lt = slice_get-get_or numbers q 0 (omega (arith, lt, size)) ∙ ap Some (ap (λ (l : List ℕ). get_or l q 0) zeros ∙ get_or-replicate (length into) q 0 0 lt)

    below : (k r : ℕ) → slice_get (start ∷ []) k ≡ Some r → (r < 0) ⊎ (r ≡ start)
    below zero r h = inr (cc)
    below (suc k) r h = absurd (cc)

    number : (q k : ℕ) → slice_get numbers q ≡ Some k → (q < 0) ⊎ (q ≡ start) → slice_get (start ∷ []) k ≡ Some q
    number q k h (inl lt) = absurd (omega (arith, lt))
    number q k h (inr e) =
        let zero_is : 0 ≡ k = one_value numbers q 0 k (zero_at q (omega (arith, get_within numbers q k h, size))) h in
        ap (slice_get (start ∷ [])) (sym zero_is) ∙ ap Some (sym e)

    back : (k r : ℕ) → slice_get (start ∷ []) k ≡ Some r → (slice_get into r ≡ Some r) × (slice_get numbers r ≡ Some k)
    back zero r h =
        let e : start ≡ r = cc in
        (subst (λ (q : ℕ). slice_get into q ≡ Some q) e own, zero_at r (omega (arith, get_within into start start own, e)))
    back (suc k) r h = absurd (cc)

-- a state that represents no other is passed, and so is that of the start
pub kept_pass : (into : List ℕ) (start n : ℕ) (kept numbers : List ℕ) → (slice_get into n ≡ Some n → n ≡ start) → KeptSoFar into start n kept numbers → KeptSoFar into start (n + 1) kept numbers
kept_pass into start n kept numbers none h = record {
  size = h.size;
  few = omega (arith, h.few);
  fewer = λ lt. omega (arith, h.few);
  first = h.first;
  below = λ k r g. below r (h.below k r g);
  number = λ q k c i g. number q k i g (passed q c);
  back = h.back;
}
  where
    below : (r : ℕ) → (r < n) ⊎ (r ≡ start) → (r < n + 1) ⊎ (r ≡ start)
    below r (inl lt) = inl (omega (arith, lt))
    below r (inr e) = inr e

    passed : (q : ℕ) → (q < n + 1) ⊎ (q ≡ start) → (q < n) ⊎ ((q ≡ n) ⊎ (q ≡ start))
    passed q c = grind arith

    number : (q k : ℕ) → slice_get into q ≡ Some q → slice_get numbers q ≡ Some k → (q < n) ⊎ ((q ≡ n) ⊎ (q ≡ start)) → slice_get kept k ≡ Some q
    number q k i g (inl lt) = h.number q k (inl lt) i g
    number q k i g (inr (inl e)) = h.number q k (inr (e ∙ none (subst (λ (p : ℕ). slice_get into p ≡ Some p) e i))) i g
    number q k i g (inr (inr e)) = h.number q k (inr e) i g

-- one more representative
pub kept_more : (into : List ℕ) (start n : ℕ) (kept numbers : List ℕ) → slice_get into n ≡ Some n → (n ≡ start → ⊥) → KeptSoFar into start n kept numbers → KeptSoFar into start (n + 1) (kept ++ n ∷ []) (set numbers n (length kept))
kept_more into start n kept numbers own other h = record {
  size = length-set numbers n (length kept) ∙ h.size;
  few = omega (arith, grown, h.few);
  fewer = λ lt. fewer (before lt);
  first = push_get kept n start 0 h.first;
  below = λ k r g. below k r (get_push kept n r k g);
  number = λ q k c i g. number q k i (passed q c) (set_cases numbers n (length kept) q k there g);
  back = λ k r g. back k r (get_push kept n r k g);
}
  where
    there : n < length numbers
    there = omega (arith, get_within into n n own, h.size)

    grown : length (kept ++ n ∷ []) ≡ length kept + 1
    grown = length-append kept (n ∷ [])

    before : start < n + 1 → start < n
    before lt = by (cases_lt start n)
      where
        by : (start < n) ⊎ (n ≤ start) → start < n
        by (inl l) = l
        by (inr l) = absurd (other (omega (arith, l, lt)))

    fewer : start < n → length (kept ++ n ∷ []) ≤ n + 1
    fewer lt = omega (arith, grown, h.fewer lt)

    below : (k r : ℕ) → (slice_get kept k ≡ Some r) ⊎ ((k ≡ length kept) × (n ≡ r)) → (r < n + 1) ⊎ (r ≡ start)
    below k r (inl g) = widen (h.below k r g)
      where
        widen : (r < n) ⊎ (r ≡ start) → (r < n + 1) ⊎ (r ≡ start)
        widen (inl lt) = inl (omega (arith, lt))
        widen (inr e) = inr e
    below k r (inr g) = inl (omega (arith, g.1))

    passed : (q : ℕ) → (q < n + 1) ⊎ (q ≡ start) → (q ≡ n) ⊎ ((q < n) ⊎ (q ≡ start))
    passed q c = grind arith

    number : (q k : ℕ) → slice_get into q ≡ Some q → (q ≡ n) ⊎ ((q < n) ⊎ (q ≡ start)) → ((q ≡ n) × (length kept ≡ k)) ⊎ ((q ≡ n → ⊥) × (slice_get numbers q ≡ Some k)) → slice_get (kept ++ n ∷ []) k ≡ Some q
    number q k i c (inl g) = ap (slice_get (kept ++ n ∷ [])) (sym g.1) ∙ push_last kept n ∙ ap Some (sym g.0)
    number q k i (inl e) (inr g) = absurd (g.0 e)
    number q k i (inr c) (inr g) = push_get kept n q k (h.number q k c i g.1)

    apart : (r : ℕ) → (r < n) ⊎ (r ≡ start) → r ≡ n → ⊥
    apart r (inl lt) e = omega (arith, lt, e)
    apart r (inr s) e = other (sym e ∙ s)

    back : (k r : ℕ) → (slice_get kept k ≡ Some r) ⊎ ((k ≡ length kept) × (n ≡ r)) → (slice_get into r ≡ Some r) × (slice_get (set numbers n (length kept)) r ≡ Some k)
    back k r (inl g) =
        let b = h.back k r g in
        (b.0, set_there numbers n (length kept) r k (apart r (h.below k r g)) b.1)
    back k r (inr g) =
        (subst (λ (p : ℕ). slice_get into p ≡ Some p) g.1 own, ap (slice_get (set numbers n (length kept))) (sym g.1) ∙ set_here numbers n (length kept) there ∙ ap Some (sym g.0))

pub kept_pushed : (into : List ℕ) (start n x size : ℕ) (kept numbers more changed : List ℕ) → slice_get into n ≡ Some x → x ≡ n → (x ≡ start → ⊥) → size ≡ length kept → more ≡ kept ++ x ∷ [] → changed ≡ set numbers n size → KeptSoFar into start n kept numbers → KeptSoFar into start (n + 1) more changed
kept_pushed into start n x size kept numbers more changed at own other sized more_is changed_is h =
    let kept_is : more ≡ kept ++ n ∷ [] = more_is ∙ ap (λ (r : ℕ). kept ++ r ∷ []) own in
    let numbers_is : changed ≡ set numbers n (length kept) = changed_is ∙ ap (set numbers n) sized in
    subst (λ (l : List ℕ). KeptSoFar into start (n + 1) l changed) (sym kept_is) (subst (λ (l : List ℕ). KeptSoFar into start (n + 1) (kept ++ n ∷ []) l) (sym numbers_is) (kept_more into start n kept numbers (at ∙ ap Some own) (λ e. other (own ∙ e)) h))

-- the number of a representative
abbrev pub IsNumberOf : List ℕ → ℕ → ℕ → Type 0
IsNumberOf numbers r k = slice_get numbers r ≡ Some k

-- the index of the representative of each state
pub numbered : (into kept firsts numbers : List ℕ) (n : ℕ) → length into ≡ n → ((q r : ℕ) → slice_get into q ≡ Some r → slice_get into r ≡ Some r) → length kept ≤ length into → slice_get kept 0 ≡ slice_get into 0 → ((q k : ℕ) → slice_get into q ≡ Some q → slice_get firsts q ≡ Some k → slice_get kept k ≡ Some q) → ((k r : ℕ) → slice_get kept k ≡ Some r → (slice_get into r ≡ Some r) × (slice_get firsts r ≡ Some k)) → AreMade (IsNumberOf firsts) into n numbers → AreNumbered into kept numbers
numbered into kept firsts numbers n all own few start number back h = record {
  size = size;
  few = few;
  start = start;
  number = λ q k r at i. number r k (own q r i) (h.each q r k i at);
  back = λ k r at. (let b = back k r at in (b.0, there k r b.0 b.1));
}
  where
    size : length numbers ≡ length into
    size = h.size ∙ sym all

    there : (k r : ℕ) → slice_get into r ≡ Some r → slice_get firsts r ≡ Some k → slice_get numbers r ≡ Some k
    there k r i f =
        let at : slice_get numbers r ≡ Some (get_or numbers r 0) = slice_get-get_or numbers r 0 (omega (arith, get_within into r r i, size)) in
        at ∙ ap Some (one_value firsts r _ k (h.each r r (get_or numbers r 0) i at) f)
