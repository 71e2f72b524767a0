-- Sums over the states as sums over their classes.
use Rattle.std.proofs.Common.{zero, suc, ◌≡◌, ℕ, ◌+◌, ◌*◌, ◌^◌, ◌<◌, ◌≤◌, ◌%◌, inl, inr, refl, ap, sym, ◌∙◌, arith, List, [], ◌∷◌, length, map, take, get_or, set, cond, nat_eq, add-one, get_or-set_same, get_or-set_other}
use Rattle.std.proofs.Math.Nat.{add-mod, add-mul, mod-add-mod}
use Rattle.std.proofs.lemmas.Bool.{cases_eq, eq-eqb, ne_eqb}
use Rattle.std.proofs.lemmas.List.{get_or-map, length-map}
use Rattle.std.proofs.lemmas.Nat.{mul-mod_first}
use Rattle.state_tables.specs.Weights.{weight_of, weighted}
use Rattle.state_tables.specs.Partition.{HasWeights}
use Rattle.state_tables.proofs.Weights.{weighted-map, weighted-take}

-- 1 for class k and 0 for the others
abbrev pub one_at : ℕ → ℕ → ℕ
one_at k c = cond (nat_eq c k) 1 0

-- the sum of the numbers of the first n classes
abbrev pub sum_below : (ℕ → ℕ) → ℕ → ℕ
sum_below f zero = 0
sum_below f (suc n) = sum_below f n + f n

-- ---- one class
one-same : (k c : ℕ) → c ≡ k → one_at k c ≡ 1
one-same k c e = ap (λ b. cond b 1 0) (eq-eqb c k e)

one-other : (k c : ℕ) → (c ≡ k → ⊥) → one_at k c ≡ 0
one-other k c ne = ap (λ b. cond b 1 0) (ne_eqb c k ne)

-- ---- sums over the states
-- a class that isn't among the first n adds nothing
sum-beside : (f g : ℕ → ℕ) (w c n : ℕ) → n ≤ c → sum_below (λ k. (w * one_at k c + g k) * f k) n ≡ sum_below (λ k. g k * f k) n
sum-beside f g w c zero le = refl
sum-beside f g w c (suc n) le =
    let none : one_at n c ≡ 0 = one-other n c (λ e. omega (arith, e, le)) in
    let here : w * 0 + g n ≡ g n = omega arith in
    ap (λ s. s + (w * one_at n c + g n) * f n) (sum-beside f g w c n (omega (arith, le)))
    ∙ ap (λ o. sum_below (λ k. g k * f k) n + (w * o + g n) * f n) none ∙ ap (λ x. sum_below (λ k. g k * f k) n + x * f n) here

-- a class among them adds its weight times its number
distribute : (s w g x : ℕ) → s + (w * 1 + g) * x ≡ w * x + (s + g * x)
distribute s w g x =
    let once : w * 1 + g ≡ w + g = omega arith in
    ap (λ n. s + n * x) once ∙ ap (λ n. s + n) (add-mul w g x) ∙ omega arith

sum-with : (f g : ℕ → ℕ) (w c n : ℕ) → c < n → sum_below (λ k. (w * one_at k c + g k) * f k) n ≡ w * f c + sum_below (λ k. g k * f k) n
sum-with f g w c zero lt = absurd (omega (arith, lt))
sum-with f g w c (suc n) lt = elim (cases_eq c n) [
  | inl e ↦
      ap (λ s. s + (w * one_at n c + g n) * f n) (sum-beside f g w c n (omega (arith, e)))
      ∙ ap (λ o. sum_below (λ k. g k * f k) n + (w * o + g n) * f n) (one-same n c e)
      ∙ distribute (sum_below (λ k. g k * f k) n) w (g n) (f n) ∙ ap (λ m. w * f m + sum_below (λ k. g k * f k) (suc n)) (sym e)
  | inr ne ↦
      let here : w * 0 + g n ≡ g n = omega arith in
      ap (λ s. s + (w * one_at n c + g n) * f n) (sum-with f g w c n (omega (arith, lt, ne)))
      ∙ ap (λ o. w * f c + sum_below (λ k. g k * f k) n + (w * o + g n) * f n) (one-other n c ne)
      ∙ ap (λ x. w * f c + sum_below (λ k. g k * f k) n + x * f n) here ∙ omega arith
]

sum-none : (f : ℕ → ℕ) (n : ℕ) → 0 ≡ sum_below (λ k. 0 * f k) n
sum-none f zero = refl
sum-none f (suc n) = sum-none f n ∙ omega arith

-- the sum over the states is that over the classes
pub by-classes : (f : ℕ → ℕ) (p n : ℕ) (cs : List ℕ) → ((q : ℕ) → q < length cs → get_or cs q 0 < n) → weighted f p cs ≡ sum_below (λ k. weighted (one_at k) p cs * f k) n
by-classes f p n [] within = sum-none f n
by-classes f p n (c ∷ cs) within =
    ap (λ s. weight_of p * f c + s) (by-classes f (suc p) n cs (λ q lt. within (suc q) (omega (arith, lt))))
    ∙ sym (sum-with f (λ k. weighted (one_at k) (suc p) cs) (weight_of p) c n (within 0 (omega arith)))

-- ---- modulo 2^64
-- each class with its weight modulo m
sum-mod : (f g h : ℕ → ℕ) (m n : ℕ) → ((k : ℕ) → k < n → g k ≡ h k % m) → sum_below (λ k. g k * f k) n % m ≡ sum_below (λ k. h k * f k) n % m
sum-mod f g h m zero are = refl
sum-mod f g h m (suc n) are =
    let old = sum_below (λ k. h k * f k) n in
    add-mod (sum_below (λ k. g k * f k) n) (g n * f n) m
    ∙ ap (λ s. (s + (g n * f n) % m) % m) (sum-mod f g h m n (λ k lt. are k (omega (arith, lt))))
    ∙ ap (λ x. (old % m + (x * f n) % m) % m) (are n (omega arith))
    ∙ ap (λ x. (old % m + x) % m) (mul-mod_first (h n) (f n) m) ∙ sym (add-mod old (h n * f n) m)

pub sum-of_classes : (f : ℕ → ℕ) (n : ℕ) (cs ws : List ℕ) → HasWeights cs ws → n ≤ length ws → ((q : ℕ) → q < length cs → get_or cs q 0 < n)
    → sum_below (λ k. get_or ws k 0 * f k) n % 2 ^ 64 ≡ weighted f 0 cs % 2 ^ 64
sum-of_classes f n cs ws has le within =
    sum-mod f (λ k. get_or ws k 0) (λ k. weighted (one_at k) 0 cs) (2 ^ 64) n (λ k lt. has.weights_are k (omega (arith, lt, le)))
    ∙ ap (λ s. s % 2 ^ 64) (sym (by-classes f 0 n cs within))

-- one class more
pub sum-more : (f : ℕ → ℕ) (i s m : ℕ) → s ≡ sum_below f i % m → (s + f i % m) % m ≡ sum_below f (i + 1) % m
sum-more f i s m is =
    ap (λ n. (n + f i % m) % m) is ∙ sym (add-mod (sum_below f i) (f i) m) ∙ ap (λ k. sum_below f k % m) (sym (add-one i))

-- ---- the weights of classes
-- a weight is added to that of its class alone
pub weight-added : (ws : List ℕ) (c w j m s : ℕ) → c < length ws → get_or ws j 0 ≡ s % m → get_or (set ws c ((get_or ws c 0 + w) % m)) j 0 ≡ (s + w * one_at j c) % m
weight-added ws c w j m s lt is = elim (cases_eq c j) [
  | inl e ↦
      let once : w ≡ w * 1 = omega arith in
      ap (λ k. get_or (set ws c ((get_or ws c 0 + w) % m)) k 0) (sym e) ∙ get_or-set_same ws c ((get_or ws c 0 + w) % m) 0 lt
      ∙ ap (λ k. (get_or ws k 0 + w) % m) e ∙ ap (λ x. (x + w) % m) is ∙ mod-add-mod s m w
      ∙ ap (λ x. (s + x) % m) once ∙ ap (λ o. (s + w * o) % m) (sym (one-same j c e))
  | inr ne ↦
      let none : s ≡ s + w * 0 = omega arith in
      get_or-set_other ws c j ((get_or ws c 0 + w) % m) 0 (λ e. ne (sym e)) ∙ is ∙ ap (λ x. x % m) none ∙ ap (λ o. (s + w * o) % m) (sym (one-other j c ne))
]

-- the same where the weight itself is one modulo m
pub weight-added_mod : (ws : List ℕ) (c w v j m s : ℕ) → c < length ws → w ≡ v % m → get_or ws j 0 ≡ s % m → get_or (set ws c ((get_or ws c 0 + w) % m)) j 0 ≡ (s + v * one_at j c) % m
weight-added_mod ws c w v j m s lt weight is =
    weight-added ws c w j m s lt is ∙ add-mod s (w * one_at j c) m ∙ ap (λ x. (s % m + (x * one_at j c) % m) % m) weight
    ∙ ap (λ x. (s % m + x) % m) (mul-mod_first v (one_at j c) m) ∙ sym (add-mod s (v * one_at j c) m)

-- the weights of new classes, to which the old ones go
pub merged-weights : (cs ws places merged : List ℕ) (n : ℕ) → HasWeights cs ws → n ≤ length ws → ((q : ℕ) → q < length cs → get_or cs q 0 < n)
    → ((k : ℕ) → k < n → get_or places k 0 < length merged)
    → ((j : ℕ) → j < length merged → get_or merged j 0 ≡ sum_below (λ k. get_or ws k 0 * one_at j (get_or places k 0)) n % 2 ^ 64)
    → HasWeights (map (λ c. get_or places c 0) cs) merged
merged-weights cs ws places merged n has le within places_within are =
    let new = λ (c : ℕ). get_or places c 0 in
    record {
      within = λ p lt.
          let old : p < length cs = omega (arith, lt, length-map cs new) in
          omega (arith, places_within (get_or cs p 0) (within p old), get_or-map new cs p 0 0 old);
      weights_are = λ j lt.
          are j lt ∙ sum-of_classes (λ k. one_at j (new k)) n cs ws has le within ∙ ap (λ s. s % 2 ^ 64) (sym (weighted-map (one_at j) new 0 cs));
    }

-- the weights of classes, with one state more
pub weight-more_states : (cs ws : List ℕ) (i w m j : ℕ) → i < length cs → get_or cs i 0 < length ws → w ≡ weight_of i % m → get_or ws j 0 ≡ weighted (one_at j) 0 (take i cs) % m
    → get_or (set ws (get_or cs i 0) ((get_or ws (get_or cs i 0) 0 + w) % m)) j 0 ≡ weighted (one_at j) 0 (take (i + 1) cs) % m
weight-more_states cs ws i w m j lt within weight is =
    weight-added_mod ws (get_or cs i 0) w (weight_of i) j m (weighted (one_at j) 0 (take i cs)) within weight is
    ∙ ap (λ s. s % m) (sym (weighted-take (one_at j) cs i lt))

-- and with one old class more
pub weight-more_classes : (ws places merged : List ℕ) (i m j : ℕ) → get_or places i 0 < length merged
    → get_or merged j 0 ≡ sum_below (λ k. get_or ws k 0 * one_at j (get_or places k 0)) i % m
    → get_or (set merged (get_or places i 0) ((get_or merged (get_or places i 0) 0 + get_or ws i 0) % m)) j 0 ≡ sum_below (λ k. get_or ws k 0 * one_at j (get_or places k 0)) (i + 1) % m
weight-more_classes ws places merged i m j within is =
    let f = λ (k : ℕ). get_or ws k 0 * one_at j (get_or places k 0) in
    weight-added merged (get_or places i 0) (get_or ws i 0) j m (sum_below f i) within is ∙ ap (λ k. sum_below f k % m) (sym (add-one i))
