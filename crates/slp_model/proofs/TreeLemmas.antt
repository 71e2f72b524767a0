-- Laws of trees.
use Rattle.std.proofs.Common.{◌≡◌, ℕ, suc, ◌+◌, ◌-◌, ◌<◌, ◌≤◌, ◌⊎◌, inl, inr, max, length, refl, arith, length-append, ◌^◌, Option, Some, None}
use Rattle.std.proofs.lemmas.Bool.{cases_order, cases_lt}
use Rattle.slp_model.specs.Tree.{Tree, Leaf, Fork, text, leaves, height, IsBalanced, root_text, root_leaves}
use Rattle.span_types.specs.Fibonacci.{fibonacci, height_limit, IsHeightLimit}
use Rattle.span_types.proofs.FibonacciLaws.{fibonacci-next, fibonacci-up, fibonacci-rises, fibonacci_71}
use Rattle.span_types.proofs.LimitLemmas.{height_limit-right}

pub leaves-positive : (t : Tree) → 0 < leaves t
leaves-positive (Leaf b) = omega arith
leaves-positive (Fork l r) = omega (arith, leaves-positive l, leaves-positive r)

pub length-text : (t : Tree) → length (text t) ≡ leaves t
length-text (Leaf b) = refl
length-text (Fork l r) = omega (arith, length-append (text l) (text r), length-text l, length-text r)

pub length-root_text : (x : Option Tree) → length (root_text x) ≡ root_leaves x
length-root_text None = refl
length-root_text (Some t) = length-text t

-- where two heights are near, the pair has enough leaves
fork-same : (h m n : ℕ) → fibonacci (suc (suc h)) ≤ m → fibonacci (suc (suc h)) ≤ n → fibonacci (suc (suc (suc h))) ≤ m + n
fork-same h m n p q = omega (arith, fibonacci-next (suc h), fibonacci-up (suc h))

fork-step : (h m n : ℕ) → fibonacci (suc (suc (suc h))) ≤ m → fibonacci (suc (suc h)) ≤ n → fibonacci (suc (suc (suc (suc h)))) ≤ m + n
fork-step h m n p q = omega (arith, fibonacci-next (suc (suc h)))

fork-near : (g h m n : ℕ) → g ≤ h + 1 → h ≤ g + 1 → fibonacci (suc (suc g)) ≤ m → fibonacci (suc (suc h)) ≤ n → fibonacci (suc (suc (max g h + 1))) ≤ m + n
fork-near g h m n near far p q = by (cases_order g h)
  where
    by : (g ≡ h) ⊎ ((g < h) ⊎ (h < g)) → fibonacci (suc (suc (max g h + 1))) ≤ m + n
    by (inl same) = let f : max g h + 1 ≡ suc g = omega arith in
        rw f (fork-same g m n p (rw same q))
    by (inr (inl lt)) = let e : h ≡ suc g = omega arith in let f : max g h + 1 ≡ suc (suc g) = omega arith in
        let q2 : fibonacci (suc (suc (suc g))) ≤ n = rw e at q in
        rw f (omega (arith, fork-step g n m q2 p))
    by (inr (inr gt)) = let e : g ≡ suc h = omega arith in let f : max g h + 1 ≡ suc (suc h) = omega arith in
        let p2 : fibonacci (suc (suc (suc h))) ≤ m = rw e at p in
        rw f (fork-step h m n p2 q)

fibonacci-two : fibonacci 2 ≤ 1
unfolding fibonacci
fibonacci-two = omega arith

-- a balanced tree of height h has at least F(h+2) leaves
pub fibonacci-leaves : (t : Tree) → IsBalanced t → fibonacci (suc (suc (height t))) ≤ leaves t
fibonacci-leaves (Leaf b) _ = fibonacci-two
fibonacci-leaves (Fork l r) bal = fork-near (height l) (height r) (leaves l) (leaves r) bal.0.0 bal.0.1 (fibonacci-leaves l bal.1) (fibonacci-leaves r bal.2)

add-two : (n : ℕ) → n + 2 ≡ suc (suc n)
add-two n = omega arith

pub height-enough : (t : Tree) → IsBalanced t → fibonacci (height t + 2) ≤ leaves t
height-enough t bal = rw (add-two (height t)) (fibonacci-leaves t bal)

-- so a balanced tree of at most n leaves has height at most H(n)
pub height-within : (t : Tree) (n h : ℕ) → IsBalanced t → leaves t ≤ n → IsHeightLimit n h → height t ≤ h
height-within t n h bal most limit = limit.greatest (height t) (omega (arith, height-enough t bal))

pub height-limit : (t : Tree) (h : ℕ) → IsBalanced t → IsHeightLimit (leaves t) h → height t ≤ h
height-limit t h bal limit = limit.greatest (height t) (height-enough t bal)

pub height-by_leaves : (t : Tree) → IsBalanced t → height t ≤ height_limit (leaves t)
height-by_leaves t bal = height-limit t (height_limit (leaves t)) bal (height_limit-right (leaves t))

-- a balanced tree of at most 2^48 leaves
pub height-most : (t : Tree) → IsBalanced t → leaves t ≤ 2 ^ 48 → height t ≤ 68
height-most t bal short = elim (cases_lt 68 (height t)) [
  | inl high ↦
      let e : suc (suc (height t)) ≡ (height t - 69) + 71 = omega arith in
      let f : fibonacci ((height t - 69) + 71) ≤ leaves t = rw e at (fibonacci-leaves t bal) in
      absurd (omega (arith, fibonacci-rises (height t - 69) 71, fibonacci_71))
  | inr low ↦ low
]
