-- Texts as often as a number says.
use Rattle.std.proofs.Common.{◌≡◌, ℕ, zero, suc, ◌+◌, ◌*◌, ◌-◌, ◌/◌, ◌^◌, ◌<◌, ◌≤◌, List, ◌++◌, length, ap, sym, subst, ◌∙◌, arith, append_assoc, append-nil, length-append, zero-add}
use Rattle.slp_model.specs.Tree.{Tree, text, leaves}
use Rattle.slp_model.proofs.TreeLemmas.{length-text}
use Rattle.slp_rebalance.specs.Copies.{copies, digits_in, run_cost}

pub copies-add : (m n : ℕ) (s : List ℕ) → copies (m + n) s ≡ copies m s ++ copies n s
copies-add zero n s = ap (λ k. copies k s) (zero-add n)
copies-add (suc m) n s =
    let e : suc m + n ≡ suc (m + n) = omega arith in
    ap (λ k. copies k s) e ∙ (ap (λ x. s ++ x) (copies-add m n s) ∙ sym (append_assoc s (copies m s) (copies n s)))

pub copies-one : (s : List ℕ) → copies 1 s ≡ s
copies-one s = append-nil s

pub length-copies : (n : ℕ) (s : List ℕ) → length (copies n s) ≡ n * length s
length-copies zero s = omega arith
length-copies (suc n) s = let e : suc n * length s ≡ length s + n * length s = omega arith in omega (arith, e, length-append s (copies n s), length-copies n s)

-- the leaves of a tree with such a text
pub leaves-copies : (t u : Tree) (n : ℕ) → text t ≡ copies n (text u) → leaves t ≡ n * leaves u
leaves-copies t u n e =
    let l : length (text t) ≡ n * length (text u) = ap length e ∙ length-copies n (text u) in
    let m : n * length (text u) ≡ n * leaves u = ap (λ k. n * k) (length-text u) in
    omega (arith, l, m, length-text t)

pub times-more : (n k m : ℕ) → n * m ≤ (n + k) * m
times-more n k m = let e : (n + k) * m ≡ n * m + k * m = omega arith in omega (arith, e)

-- half as often is no longer
pub half-short : (times m : ℕ) → times * m ≤ 2 ^ 48 → (times / 2) * m ≤ 2 ^ 48
half-short times m h =
    let e : times / 2 + (times - times / 2) ≡ times = omega arith in
    let l : (times / 2) * m ≤ times * m = subst (λ k. (times / 2) * m ≤ k * m) e (times-more (times / 2) (times - times / 2) m) in
    omega (arith, l, h)

pub some_digits : (places n : ℕ) → 1 ≤ n → n < 2 ^ places → 1 ≤ digits_in places n
some_digits zero n a b = absurd (omega (arith, a, b))
some_digits (suc places) zero a b = absurd (omega (arith, a))
some_digits (suc places) (suc n) a b = omega arith

-- a step costs at most 206
pub run-step : (places times old paid now : ℕ) → 2 ≤ times → times < 2 ^ places → ((k : ℕ) → times / 2 < 2 ^ k → paid ≤ old + run_cost k (times / 2)) → now ≤ paid + 206 → now ≤ old + run_cost places times
run-step zero times old paid now two below before step = absurd (omega (arith, two, below))
run-step (suc k) zero old paid now two below before step = absurd (omega (arith, two))
run-step (suc k) (suc n) old paid now two below before step =
    let p : 2 ^ suc k ≡ 2 * 2 ^ k = omega arith in
    let lt : suc n / 2 < 2 ^ k = omega (arith, below, p) in
    let one : 1 ≤ suc n / 2 = omega (arith, two) in
    omega (arith, before k lt, step, some_digits k (suc n / 2) one lt)
