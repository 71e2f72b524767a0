-- Sums over the states or over words, one after the other.
use Rattle.std.proofs.Common.{suc, ◌≡◌, ℕ, ◌+◌, ◌*◌, ◌^◌, ◌<◌, ◌%◌, refl, ap, sym, ◌∙◌, arith, List, [], ◌∷◌, ◌++◌, length, map, take, get_or, add-one, pow-suc}
use Rattle.std.proofs.Math.Nat.{add-mod}
use Rattle.std.proofs.lemmas.List.{take_more, length-take-le}
use Rattle.std.proofs.lemmas.Nat.{mul-mod_first}
use Rattle.state_tables.specs.Weights.{weight_of, weighted}

-- ---- sums over the states
pub weighted-map : {A B : Type 0} (f : B → ℕ) (g : A → B) (p : ℕ) (xs : List A) → weighted f p (map g xs) ≡ weighted (λ x. f (g x)) p xs
weighted-map f g p [] = refl
weighted-map f g p (x ∷ xs) = ap (λ n. weight_of p * f (g x) + n) (weighted-map f g (suc p) xs)

pub weighted-same : (f g : ℕ → ℕ) (p : ℕ) (xs : List ℕ) → ((q : ℕ) → q < length xs → f (get_or xs q 0) ≡ g (get_or xs q 0)) → weighted f p xs ≡ weighted g p xs
weighted-same f g p [] same = refl
weighted-same f g p (x ∷ xs) same =
    ap (λ n. weight_of p * n + weighted f (suc p) xs) (same 0 (omega arith))
    ∙ ap (λ n. weight_of p * g x + n) (weighted-same f g (suc p) xs (λ q lt. same (suc q) (omega (arith, lt))))

pub weighted-push : {A : Type 0} (f : A → ℕ) (p : ℕ) (xs : List A) (x : A) → weighted f p (xs ++ x ∷ []) ≡ weighted f p xs + weight_of (p + length xs) * f x
weighted-push f p [] x = let here : p ≡ p + 0 = omega arith in ap (λ k. weight_of k * f x + 0) here ∙ omega arith
weighted-push f p (y ∷ xs) x =
    let here : suc p + length xs ≡ p + suc (length xs) = omega arith in
    ap (λ n. weight_of p * f y + n) (weighted-push f (suc p) xs x)
    ∙ ap (λ k. weight_of p * f y + (weighted f (suc p) xs + weight_of k * f x)) here ∙ omega arith

-- ---- steps of the loops
pub weight-none : weight_of 0 ≡ 1
unfolding weight_of
weight-none = refl

pub weight-more : (p : ℕ) → weight_of (p + 1) ≡ weight_of p * 0xd134_2543_de82_ef95
unfolding weight_of
weight-more p = ap (λ k. 0xd134_2543_de82_ef95 ^ k) (add-one p) ∙ pow-suc 0xd134_2543_de82_ef95 p

pub weighted-take : (f : ℕ → ℕ) (xs : List ℕ) (i : ℕ) → i < length xs → weighted f 0 (take (i + 1) xs) ≡ weighted f 0 (take i xs) + weight_of i * f (get_or xs i 0)
weighted-take f xs i lt =
    let here : 0 + length (take i xs) ≡ i = omega (arith, length-take-le i xs (omega (arith, lt))) in
    ap (weighted f 0) (take_more xs i 0 lt) ∙ weighted-push f 0 (take i xs) (get_or xs i 0) ∙ ap (λ k. weighted f 0 (take i xs) + weight_of k * f (get_or xs i 0)) here

-- one number more, times its weight
pub weighted-more : (f : ℕ → ℕ) (m : ℕ) (xs : List ℕ) (i s w : ℕ) → i < length xs → w ≡ weight_of i % m → s ≡ weighted f 0 (take i xs) % m
    → (s + (w * f (get_or xs i 0)) % m) % m ≡ weighted f 0 (take (i + 1) xs) % m
weighted-more f m xs i s w lt next is =
    let x = f (get_or xs i 0) in
    let old = weighted f 0 (take i xs) in
    ap (λ n. (n + (w * x) % m) % m) is ∙ ap (λ n. (old % m + (n * x) % m) % m) next ∙ ap (λ n. (old % m + n) % m) (mul-mod_first (weight_of i) x m)
    ∙ sym (add-mod old (weight_of i * x) m) ∙ ap (λ n. n % m) (sym (weighted-take f xs i lt))

-- the weight after this one
pub next-weight : (p w : ℕ) → w ≡ weight_of p % 2 ^ 64 → (w * 0xd134_2543_de82_ef95) % 2 ^ 64 ≡ weight_of (p + 1) % 2 ^ 64
next-weight p w is =
    ap (λ n. (n * 0xd134_2543_de82_ef95) % 2 ^ 64) is ∙ mul-mod_first (weight_of p) 0xd134_2543_de82_ef95 (2 ^ 64) ∙ ap (λ n. n % 2 ^ 64) (sym (weight-more p))
