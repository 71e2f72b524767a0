-- Each number takes the digests, and each digest the numbers, one to one.
use Rattle.std.proofs.Common.{◌≡◌, ℕ, ◌+◌, ◌*◌, ◌/◌, ◌%◌, ◌^◌, ◌<◌, refl, ap, sym, ◌∙◌, arith}
use Rattle.std.specs.Int.{bit_at}
use Rattle.std.specs.Int.Bits.{bit_xor}
use Rattle.std.proofs.Math.Nat.{add-mul-mod_self_right, mod-eq_of_lt}
use Rattle.std.proofs.lemmas.Nat.{and_mask, xor_lt, xor_comm}
use Rattle.std.proofs.lemmas.Nat.Bits.{bit_at_xor, bit_at-lt, same_from_bits}
use Rattle.state_tables.specs.Digest.{low_of, high_of, across_of, second_of, joined_of, digest_with}

-- ---- one to one
-- a factor with an inverse
module _ (m k inverse c : ℕ) (inverts : k * inverse ≡ 1 + c * m) where
  times-back : (x : ℕ) → x < m → (x * k) % m * inverse % m ≡ x
  times-back x lt =
      let n = x * k in
      let parts : n ≡ n / m * m + n % m = omega arith in
      let whole : n % m * inverse + n / m * inverse * m ≡ n * inverse = omega (arith, ap (λ t. t * inverse) parts) in
      let one : n * inverse ≡ x + x * c * m = omega (arith, ap (λ t. x * t) inverts) in
      sym (add-mul-mod_self_right (n % m * inverse) (n / m * inverse) m) ∙ (ap (λ t. t % m) (whole ∙ one) ∙ (add-mul-mod_self_right x (x * c) m ∙ mod-eq_of_lt lt))

  times-injective : (x y : ℕ) → x < m → y < m → (x * k) % m ≡ (y * k) % m → x ≡ y
  times-injective x y lx ly e = sym (times-back x lx) ∙ (ap (λ t. t * inverse % m) e ∙ times-back y ly)

same-bit : (p q r : ℕ) → p < 2 → q < 2 → r < 2 → (p + r) % 2 ≡ (q + r) % 2 → p ≡ q
same-bit p q r lp lq lr e = omega (arith, lp, lq, lr, e)

xor-injective : (a b c : ℕ) → bit_xor a c ≡ bit_xor b c → a ≡ b
xor-injective a b c e =
    same_from_bits a b (λ i. same-bit (bit_at a i) (bit_at b i) (bit_at c i) (bit_at-lt a i) (bit_at-lt b i) (bit_at-lt c i)
    (sym (bit_at_xor a c i) ∙ (ap (λ n. bit_at n i) e ∙ bit_at_xor b c i)))

sum-injective : (a b h : ℕ) → a < 2 ^ 64 → b < 2 ^ 64 → (a + h) % 2 ^ 64 ≡ (b + h) % 2 ^ 64 → a ≡ b
sum-injective a b h la lb e = omega (arith, la, lb, e)

low-lt : (n : ℕ) → low_of n < 2 ^ 64
low-lt n = omega (arith, and_mask n 64)

halves-injective : (d e : ℕ) → low_of d ≡ low_of e → high_of d ≡ high_of e → d ≡ e
halves-injective d e low high = omega (arith, and_mask d 64, and_mask e 64, low, high)

across-injective : (x y : ℕ) → x < 2 ^ 64 → y < 2 ^ 64 → low_of (x * 0x9e37_79b9_7f4a_7c15) ≡ low_of (y * 0x9e37_79b9_7f4a_7c15) → x ≡ y
across-injective x y lx ly e =
    times-injective (2 ^ 64) 0x9e37_79b9_7f4a_7c15 0xf1de_83e1_9937_733d 10771413168148108919 refl x y lx ly
    (sym (and_mask (x * 0x9e37_79b9_7f4a_7c15) 64) ∙ (e ∙ and_mask (y * 0x9e37_79b9_7f4a_7c15) 64))

back-injective : (x y : ℕ) → x < 2 ^ 64 → y < 2 ^ 64 → low_of (x * 0xd6e8_feb8_6659_fd93) ≡ low_of (y * 0xd6e8_feb8_6659_fd93) → x ≡ y
back-injective x y lx ly e =
    times-injective (2 ^ 64) 0xd6e8_feb8_6659_fd93 0xcfee_444d_8b59_a89b 12578109465933073204 refl x y lx ly
    (sym (and_mask (x * 0xd6e8_feb8_6659_fd93) 64) ∙ (e ∙ and_mask (y * 0xd6e8_feb8_6659_fd93) 64))

-- ---- a step
split : (a b x y : ℕ) → x < 2 ^ 64 → y < 2 ^ 64 → a * 2 ^ 64 + x ≡ b * 2 ^ 64 + y → (a ≡ b) × (x ≡ y)
split a b x y lx ly e = (omega (arith, lx, ly, e), omega (arith, lx, ly, e))

low-sum : (n : ℕ) → n % 2 ^ 64 < 2 ^ 64
low-sum n = omega arith

-- what a step gives tells the second number, and the lower half of the first product
told : (a b s t : ℕ) → s < 2 ^ 64 → t < 2 ^ 64 → joined_of a (s * 0xd6e8_feb8_6659_fd93) ≡ joined_of b (t * 0xd6e8_feb8_6659_fd93) → (s ≡ t) × (low_of a ≡ low_of b)
told a b s t ls lt e =
    let high : ℕ → ℕ = λ n. high_of (n * 0xd6e8_feb8_6659_fd93) in
    let parts =
    split (low_of (s * 0xd6e8_feb8_6659_fd93)) (low_of (t * 0xd6e8_feb8_6659_fd93)) ((low_of a + high s) % 2 ^ 64) ((low_of b + high t) % 2 ^ 64) (low-sum (low_of a + high s))
    (low-sum (low_of b + high t)) e in
    let same : s ≡ t = back-injective s t ls lt parts.0 in
    let sums : (low_of a + high s) % 2 ^ 64 ≡ (low_of b + high s) % 2 ^ 64 = parts.1 ∙ ap (λ n. (low_of b + high n) % 2 ^ 64) (sym same) in
    (same, sum-injective (low_of a) (low_of b) (high s) (low-lt a) (low-lt b) sums)

high-lt : (n : ℕ) → n < 2 ^ 128 → high_of n < 2 ^ 64
high-lt n lt = omega (arith, lt)

second-lt : (digest set across : ℕ) → set < 2 ^ 128 → second_of digest set across < 2 ^ 64
second-lt digest set across lt = xor_lt 64 ((high_of digest + high_of across) % 2 ^ 64) (high_of set) (low-sum (high_of digest + high_of across)) (high-lt set lt)

joined-lt : (digest set : ℕ) → bit_xor (low_of digest) (low_of set) < 2 ^ 64
joined-lt digest set = xor_lt 64 (low_of digest) (low_of set) (low-lt digest) (low-lt set)

-- digests that differ before a number differ after it
pub digest-injective : (d e set : ℕ) → d < 2 ^ 128 → e < 2 ^ 128 → set < 2 ^ 128 → digest_with d set ≡ digest_with e set → d ≡ e
unfolding digest_with
digest-injective d e set ld le ls same =
    let a = across_of d set in
    let b = across_of e set in
    let both = told a b (second_of d set a) (second_of e set b) (second-lt d set a ls) (second-lt e set b ls) same in
    let joined : bit_xor (low_of d) (low_of set) ≡ bit_xor (low_of e) (low_of set) = across-injective _ _ (joined-lt d set) (joined-lt e set) both.1 in
    let low : low_of d ≡ low_of e = xor-injective (low_of d) (low_of e) (low_of set) joined in
    let across : across_of d set ≡ across_of e set = ap (λ n. n * 0x9e37_79b9_7f4a_7c15) joined in
    let sums : (high_of d + high_of (across_of d set)) % 2 ^ 64 ≡ (high_of e + high_of (across_of d set)) % 2 ^ 64 =
    xor-injective _ _ (high_of set) (both.0 ∙ ap (λ x. second_of e set x) (sym across)) in
    halves-injective d e low (sum-injective (high_of d) (high_of e) (high_of (across_of d set)) (high-lt d ld) (high-lt e le) sums)

-- numbers that differ after the same digest differ in the digest after them
pub number-injective : (d s t : ℕ) → s < 2 ^ 128 → t < 2 ^ 128 → digest_with d s ≡ digest_with d t → s ≡ t
unfolding digest_with
number-injective d s t ls lt same =
    let a = across_of d s in
    let b = across_of d t in
    let both = told a b (second_of d s a) (second_of d t b) (second-lt d s a ls) (second-lt d t b lt) same in
    let joined : bit_xor (low_of d) (low_of s) ≡ bit_xor (low_of d) (low_of t) = across-injective _ _ (joined-lt d s) (joined-lt d t) both.1 in
    let low : low_of s ≡ low_of t = xor-injective (low_of s) (low_of t) (low_of d) (xor_comm (low_of s) (low_of d) ∙ (joined ∙ xor_comm (low_of d) (low_of t))) in
    let across : across_of d s ≡ across_of d t = ap (λ n. n * 0x9e37_79b9_7f4a_7c15) joined in
    let sum : ℕ = (high_of d + high_of (across_of d s)) % 2 ^ 64 in
    let high : bit_xor sum (high_of s) ≡ bit_xor sum (high_of t) = both.0 ∙ ap (λ x. second_of d t x) (sym across) in
    halves-injective s t low (xor-injective (high_of s) (high_of t) sum (xor_comm (high_of s) sum ∙ (high ∙ xor_comm sum (high_of t))))
