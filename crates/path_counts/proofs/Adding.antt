-- Numbers added up by state.
use Rattle.std.proofs.Common.{◌≡◌, ℕ, ◌+◌, ◌*◌, ◌<◌, ◌≤◌, ◌==◌, Bool, true, false, List, [], ◌∷◌, ◌++◌, All, length, get_or, set, drop, refl, sym, ap, ◌∙◌, arith, inl, inr, drop-cons, add-one, zero-add, get_or-set_other, get_or-set_same}
use Rattle.std.specs.Prelude.{if◌then◌else◌, IfSome, Option, Some, None}
use Rattle.std.proofs.lemmas.Bool.{cases_eq, ne_eqb}
use Rattle.std.proofs.lemmas.List.Elements.{All-head, All-push, All-tail, All-weaker}
use Rattle.std.proofs.lemmas.List.Quantifiers.{all_pairs_push}
use Rattle.std.proofs.lemmas.Bool.Decides.{eqb_tells}
use Rattle.std.proofs.lemmas.List.{drop_all}
use Rattle.path_counts.specs.declared.count.Count.{Count}
use Rattle.path_counts.specs.Paths.{most, stopped}
use Rattle.path_counts.specs.Counting.{AreCounts, number_in, number_onward}
use Rattle.path_counts.proofs.Caps.{stop-sum_left, stop-sum_right}

-- a number is added to that of a state
pub added : (sums : List ℕ) (state n q x : ℕ) → state < length sums
    → stopped (get_or (set sums state (stopped (get_or sums state 0 + n))) q 0 + x) ≡ stopped (get_or sums q 0 + ((if state == q then n else 0) + x))
added sums state n q x lt = elim (eqb_tells state q) [
  | inl e ↦
      let at : get_or (set sums state (stopped (get_or sums state 0 + n))) state 0 ≡ stopped (get_or sums state 0 + n) = get_or-set_same sums state (stopped (get_or sums state 0 + n)) 0 lt in
      ap (λ k. stopped (get_or (set sums state (stopped (get_or sums state 0 + n))) k 0 + x)) (sym e.1)
      ∙ ap (λ k. stopped (k + x)) at
      ∙ stop-sum_left most (get_or sums state 0 + n) x
      ∙ ap (λ k. stopped (get_or sums k 0 + n + x)) e.1
      ∙ ap stopped (regroup (get_or sums q 0) n x)
      ∙ ap (λ z. stopped (get_or sums q 0 + ((if z then n else 0) + x))) (sym e.0)
  | inr e ↦
      let other : get_or (set sums state (stopped (get_or sums state 0 + n))) q 0 ≡ get_or sums q 0 = get_or-set_other sums state q (stopped (get_or sums state 0 + n)) 0 (λ k. e.1 (sym k)) in
      ap (λ k. stopped (k + x)) other
      ∙ ap (λ k. stopped (get_or sums q 0 + k)) (sym (zero-first x))
      ∙ ap (λ z. stopped (get_or sums q 0 + ((if z then n else 0) + x))) (sym e.0)
]
  where
    regroup : (i j k : ℕ) → i + j + k ≡ i + (j + k)
    regroup i j k = omega arith

    zero-first : (k : ℕ) → 0 + k ≡ k
    zero-first k = omega arith

-- the same, where the number itself was stopped
pub added-stopped : (sums : List ℕ) (state n q x : ℕ) → state < length sums
    → stopped (get_or (set sums state (stopped (get_or sums state 0 + stopped n))) q 0 + x) ≡ stopped (get_or sums q 0 + ((if state == q then n else 0) + x))
added-stopped sums state n q x lt =
    ap (λ k. stopped (get_or (set sums state k) q 0 + x)) (stop-sum_right most (get_or sums state 0) n) ∙ added sums state n q x lt

times-if : (z : Bool) (times n : ℕ) → (if z then times * n else 0) ≡ times * (if z then n else 0)
times-if true times n = refl
times-if false times n = omega arith

spread : (i j k : ℕ) → i * j + i * k ≡ i * (j + k)
spread i j k = omega arith

-- one count of a list, times a number
pub count-step : (old sums new : List ℕ) (cs : List Count) (i times product q : ℕ) (d : Count) → i < length cs → (get_or cs i d).state < length sums → product ≡ stopped (times * (get_or cs i d).number)
    → new ≡ set sums (get_or cs i d).state (stopped (get_or sums (get_or cs i d).state 0 + product))
    → stopped (get_or sums q 0 + times * number_in (drop i cs) q) ≡ stopped (get_or old q 0 + times * number_in cs q)
    → stopped (get_or new q 0 + times * number_in (drop (i + 1) cs) q) ≡ stopped (get_or old q 0 + times * number_in cs q)
count-step old sums new cs i times product q d lt within p e before =
    let c = get_or cs i d in
    ap (λ ns. stopped (get_or ns q 0 + times * number_in (drop (i + 1) cs) q)) e
    ∙ ap (λ n. stopped (get_or (set sums c.state (stopped (get_or sums c.state 0 + n))) q 0 + times * number_in (drop (i + 1) cs) q)) p
    ∙ added-stopped sums c.state (times * c.number) q (times * number_in (drop (i + 1) cs) q) within
    ∙ ap (λ k. stopped (get_or sums q 0 + (k + times * number_in (drop (i + 1) cs) q))) (times-if (c.state == q) times c.number)
    ∙ ap (λ k. stopped (get_or sums q 0 + k)) (spread times (if c.state == q then c.number else 0) (number_in (drop (i + 1) cs) q))
    ∙ ap (λ k. stopped (get_or sums q 0 + times * ((if c.state == q then c.number else 0) + number_in (drop k cs) q))) (add-one i)
    ∙ ap (λ ds. stopped (get_or sums q 0 + times * number_in ds q)) (sym (drop-cons cs i d lt))
    ∙ before

-- no count is left
pub count-end : (old sums : List ℕ) (cs : List Count) (i times q : ℕ) → length cs ≤ i → get_or sums q 0 ≤ most
    → stopped (get_or sums q 0 + times * number_in (drop i cs) q) ≡ stopped (get_or old q 0 + times * number_in cs q) → get_or sums q 0 ≡ stopped (get_or old q 0 + times * number_in cs q)
count-end old sums cs i times q past low before =
    whole (get_or sums q 0) times low ∙ ap (λ ds. stopped (get_or sums q 0 + times * number_in ds q)) (sym (drop_all i cs past)) ∙ before
  where
    whole : (n k : ℕ) → n ≤ most → n ≡ stopped (n + k * 0)
    whole n k le = omega arith

-- ---- counts are collected state by state
pub number_in-push : (cs : List Count) (c : Count) (q : ℕ) → number_in (cs ++ c ∷ []) q ≡ number_in cs q + (if c.state == q then c.number else 0)
number_in-push [] c q = omega arith
number_in-push (d ∷ cs) c q = omega (arith, number_in-push cs c q)

pub number_in-past : (cs : List Count) (i q : ℕ) → All (λ c. c.state < i) cs → i ≤ q → number_in cs q ≡ 0
number_in-past [] i q h le = refl
number_in-past (c ∷ cs) i q h le =
    let below : c.state < i = All-head (λ d. d.state < i) c cs h in
    let other : c.state == q ≡ false = ne_eqb c.state q (λ e. omega (arith, e, below, le)) in
    ap (λ z. (if z then c.number else 0) + number_in cs q) other ∙ omega (arith, number_in-past cs i q (All-tail (λ d. d.state < i) c cs h) le)

pub counts-more : (i : ℕ) (cs : List Count) → AreCounts i cs → AreCounts (i + 1) cs
counts-more i cs h = record {
  rising = h.rising;
  within = All-weaker (λ c. c.state < i) (λ c. c.state < i + 1) (λ c lt. omega (arith, lt)) cs h.within;
  some = h.some;
  low = h.low;
}

pub counts-push : (i n : ℕ) (cs : List Count) → AreCounts i cs → 0 < n → n ≤ most → AreCounts (i + 1) (cs ++ record { state = i; number = n } ∷ [])
counts-push i n cs h some low =
    let c : Count = record { state = i; number = n } in
    let more = counts-more i cs h in
    let at : c.state < i + 1 = omega arith in
    record {
      rising = all_pairs_push (λ x y. x.state < y.state) cs c h.rising h.within;
      within = All-push (λ d. d.state < i + 1) cs c more.within at;
      some = All-push (λ d. 0 < d.number) cs c h.some some;
      low = All-push (λ d. d.number ≤ most) cs c h.low low;
    }

-- the numbers below i, and then that of i
pub numbers-push : (old : List ℕ) (i n : ℕ) (cs : List Count) → AreCounts i cs → n ≡ get_or old i 0 → ((q : ℕ) → q < i → number_in cs q ≡ get_or old q 0)
    → (q : ℕ) → q < i + 1 → number_in (cs ++ record { state = i; number = n } ∷ []) q ≡ get_or old q 0
numbers-push old i n cs h is before q lt =
    number_in-push cs (record { state = i; number = n }) q
    ∙ elim (eqb_tells i q) [
      | inl e ↦
          ap (λ z. number_in cs q + (if z then n else 0)) e.0 ∙ ap (λ k. k + n) (number_in-past cs i q h.within (omega (arith, e.1))) ∙ omega (arith, is, ap (λ k. get_or old k 0) e.1)
      | inr e ↦
          let below : q < i = grind (arith, lt, e.1) in
          ap (λ z. number_in cs q + (if z then n else 0)) e.0 ∙ omega (arith, before q below)
    ]

pub numbers-skip : (old : List ℕ) (i : ℕ) (cs : List Count) → AreCounts i cs → get_or old i 0 ≡ 0 → ((q : ℕ) → q < i → number_in cs q ≡ get_or old q 0)
    → (q : ℕ) → q < i + 1 → number_in cs q ≡ get_or old q 0
numbers-skip old i cs h is before q lt = elim (eqb_tells i q) [
  | inl e ↦ number_in-past cs i q h.within (omega (arith, e.1)) ∙ sym is ∙ ap (λ k. get_or old k 0) e.1
  | inr e ↦ let below : q < i = grind (arith, lt, e.1) in before q below
]

-- ---- a state, if any
pub some-within : (o : Option ℕ) (n : ℕ) → ((q : ℕ) → o ≡ Some q → q < n) → IfSome o (λ q. q < n)
some-within None n h = tt
some-within (Some q) n h = h q refl

-- the numbers before place i are 0, and the others as they were
pub clear-step : (sums : List ℕ) (i q : ℕ) → i < length sums → ((k : ℕ) → k < i → get_or sums k 0 ≡ 0) → q < i + 1 → get_or (set sums i 0) q 0 ≡ 0
clear-step sums i q lt before below = elim (cases_eq q i) [
  | inl e ↦ ap (λ k. get_or (set sums i 0) k 0) e ∙ get_or-set_same sums i 0 0 lt
  | inr ne ↦ let lower : q < i = grind (arith, below, ne) in get_or-set_other sums i q 0 0 ne ∙ before q lower
]

pub rest-step : (sums : List ℕ) (i q : ℕ) → i + 1 ≤ q → get_or (set sums i 0) q 0 ≡ get_or sums q 0
rest-step sums i q le = get_or-set_other sums i q 0 0 (λ e. omega (arith, e, le))

pub clear-skip : (sums : List ℕ) (i q : ℕ) → get_or sums i 0 ≡ 0 → ((k : ℕ) → k < i → get_or sums k 0 ≡ 0) → q < i + 1 → get_or sums q 0 ≡ 0
clear-skip sums i q none before below = elim (cases_eq q i) [
  | inl e ↦ ap (λ k. get_or sums k 0) e ∙ none
  | inr ne ↦ let lower : q < i = grind (arith, below, ne) in before q lower
]

-- a number is added to that of a state, and no further one
pub added-at : (sums : List ℕ) (state n q : ℕ) → state < length sums → get_or sums q 0 ≤ most
    → get_or (set sums state (stopped (get_or sums state 0 + n))) q 0 ≡ stopped (get_or sums q 0 + (if state == q then n else 0))
added-at sums state n q lt low = elim (eqb_tells state q) [
  | inl e ↦
      ap (λ k. get_or (set sums state (stopped (get_or sums state 0 + n))) k 0) (sym e.1) ∙ get_or-set_same sums state (stopped (get_or sums state 0 + n)) 0 lt
      ∙ ap (λ k. stopped (get_or sums k 0 + n)) e.1 ∙ ap (λ z. stopped (get_or sums q 0 + (if z then n else 0))) (sym e.0)
  | inr e ↦
      get_or-set_other sums state q (stopped (get_or sums state 0 + n)) 0 (λ k. e.1 (sym k)) ∙ whole (get_or sums q 0) low
      ∙ ap (λ z. stopped (get_or sums q 0 + (if z then n else 0))) (sym e.0)
]
  where
    whole : (k : ℕ) → k ≤ most → k ≡ stopped (k + 0)
    whole k le = omega arith

-- ---- a row of two texts joined, and of a byte
pub sums-two : (x a b c i j : ℕ) → x ≡ stopped (b + j) → b ≡ stopped (a + i) → a ≡ 0 → c ≡ x → c ≡ stopped (i + j)
sums-two x a b c i j e f g h = h ∙ e ∙ ap (λ k. stopped (k + j)) f ∙ stop-sum_left most (a + i) j ∙ ap (λ k. stopped (k + i + j)) g ∙ ap (λ k. stopped (k + j)) (zero-add i)

pub sums-one : (x a c i : ℕ) → x ≡ stopped (a + i) → a ≡ 0 → c ≡ x → c ≡ stopped i
sums-one x a c i e g h = h ∙ e ∙ ap (λ k. stopped (k + i)) g ∙ ap stopped (zero-add i)

-- ---- numbers times what goes on from their states
pub onward-step : (cs : List Count) (after : List ℕ) (i sum product total : ℕ) (d : Count) → i < length cs → product ≡ stopped ((get_or cs i d).number * get_or after (get_or cs i d).state 0) → total ≡ stopped (sum + product)
    → stopped (sum + number_onward (drop i cs) after) ≡ stopped (number_onward cs after) → stopped (total + number_onward (drop (i + 1) cs) after) ≡ stopped (number_onward cs after)
onward-step cs after i sum product total d lt p e before =
    let c = get_or cs i d in
    let rest = number_onward (drop (i + 1) cs) after in
    let one = c.number * get_or after c.state 0 in
    ap (λ k. stopped (k + rest)) e ∙ stop-sum_left most (sum + product) rest ∙ ap (λ k. stopped (sum + k + rest)) p
    ∙ regroup sum (stopped one) rest ∙ stop-sum_right_left sum one rest
    ∙ ap (λ k. stopped (sum + (one + number_onward (drop k cs) after))) (add-one i)
    ∙ ap (λ ds. stopped (sum + number_onward ds after)) (sym (drop-cons cs i d lt)) ∙ before
  where
    regroup : (x y z : ℕ) → stopped (x + y + z) ≡ stopped (y + (x + z))
    regroup x y z = let same : x + y + z ≡ y + (x + z) = omega arith in ap stopped same

    stop-sum_right_left : (x y z : ℕ) → stopped (stopped y + (x + z)) ≡ stopped (x + (y + z))
    stop-sum_right_left x y z = stop-sum_left most y (x + z) ∙ (let same : y + (x + z) ≡ x + (y + z) = omega arith in ap stopped same)

pub onward-end : (cs : List Count) (after : List ℕ) (i sum : ℕ) → length cs ≤ i → sum ≤ most → stopped (sum + number_onward (drop i cs) after) ≡ stopped (number_onward cs after) → sum ≡ stopped (number_onward cs after)
onward-end cs after i sum past low before = whole sum low ∙ ap (λ ds. stopped (sum + number_onward ds after)) (sym (drop_all i cs past)) ∙ before
  where
    whole : (n : ℕ) → n ≤ most → n ≡ stopped (n + 0)
    whole n le = omega arith
