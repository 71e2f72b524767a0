-- Sets of states, by their members.
use Rattle.std.proofs.Common.{zero, suc, ◌≡◌, ◌≢◌, ℕ, ◌+◌, ◌<◌, ◌^◌, ◌*◌, ◌%◌, ◌==◌, max, true, false, ◌||◌, refl, ap, ◌∙◌, arith, bit_or, bit_and, replicate, take}
use Rattle.std.specs.Int.{bit_at}
use Rattle.std.specs.Int.Bits.{bit_xor, xor_add_and}
use Rattle.std.proofs.lemmas.Bool.{eqb-true}
use Rattle.std.proofs.lemmas.Nat.{pow_pos}
use Rattle.std.proofs.lemmas.Nat.Bits.{bit_at_or, bit_at_xor, bit_at-pow_same, bit_at-pow_other, bit_at-zero, bit_at-lt, same_from_bits, and_pow}
use Rattle.state_tables.specs.StateSet.{member, number_of_words}

or_bit : (x y : ℕ) → x < 2 → y < 2 → (max x y == 1) ≡ (x == 1 || y == 1)
or_bit zero zero hx hy = refl
or_bit zero (suc zero) hx hy = refl
or_bit zero (suc (suc y)) hx hy = absurd (omega arith)
or_bit (suc zero) zero hx hy = refl
or_bit (suc zero) (suc zero) hx hy = refl
or_bit (suc zero) (suc (suc y)) hx hy = absurd (omega arith)
or_bit (suc (suc x)) y hx hy = absurd (omega arith)

pub member-or : (a b q : ℕ) → member (bit_or a b) q ≡ (member a q || member b q)
unfolding member
member-or a b q = rw (bit_at_or a b q) (or_bit (bit_at a q) (bit_at b q) (bit_at-lt a q) (bit_at-lt b q))

pub member-zero : (q : ℕ) → member 0 q ≡ false
unfolding member
member-zero q = rw (bit_at-zero q) refl

pub member-single_same : (q : ℕ) → member (2 ^ q) q ≡ true
unfolding member
member-single_same q = rw (bit_at-pow_same q) refl

pub member-single_other : (k q : ℕ) → q ≢ k → member (2 ^ k) q ≡ false
unfolding member
member-single_other k q ne = rw (bit_at-pow_other k q ne) refl

-- a bit that is set
pub member-bit : (set q : ℕ) → bit_at set q ≡ 1 → member set q ≡ true
unfolding member
member-bit set q e = rw e refl

pub bit-member : (set q : ℕ) → member set q ≡ true → bit_at set q ≡ 1
unfolding member
bit-member set q h = eqb-true (bit_at set q) 1 h

-- without one of its members
pub member-without_same : (set q : ℕ) → member set q ≡ true → member (bit_xor set (2 ^ q)) q ≡ false
unfolding member
member-without_same set q h = rw (bit_at_xor set (2 ^ q) q, bit-member set q h, bit_at-pow_same q) refl

same-bit : (x : ℕ) → x < 2 → (x + 0) % 2 ≡ x
same-bit zero h = refl
same-bit (suc zero) h = refl
same-bit (suc (suc x)) h = absurd (omega arith)

pub member-without_other : (set q i : ℕ) → i ≢ q → member (bit_xor set (2 ^ q)) i ≡ member set i
unfolding member
member-without_other set q i ne = rw (bit_at_xor set (2 ^ q) i, bit_at-pow_other q i ne, same-bit (bit_at set i) (bit_at-lt set i)) refl

pub without-less : (set q : ℕ) → member set q ≡ true → bit_xor set (2 ^ q) < set
without-less set q h =
    let sum : bit_xor set (2 ^ q) + bit_and set (2 ^ q) * 2 ≡ set + 2 ^ q = xor_add_and set (2 ^ q) in
    let and : bit_and set (2 ^ q) ≡ 1 * 2 ^ q = and_pow set q ∙ ap (λ b. b * 2 ^ q) (bit-member set q h) in
    let some : 0 < 2 ^ q = pow_pos q in
    omega arith

max_assoc : (x y z : ℕ) → max (max x y) z ≡ max x (max y z)
max_assoc x y z = omega arith

pub or_assoc : (a b c : ℕ) → bit_or (bit_or a b) c ≡ bit_or a (bit_or b c)
or_assoc a b c =
    same_from_bits _ _
    (λ i. rw (bit_at_or (bit_or a b) c i, bit_at_or a b i, bit_at_or a (bit_or b c) i, bit_at_or b c i) (max_assoc (bit_at a i) (bit_at b i) (bit_at c i)))

max_swap : (x y z : ℕ) → max x (max y z) ≡ max y (max x z)
max_swap x y z = omega arith

pub or_swap : (a b c : ℕ) → bit_or a (bit_or b c) ≡ bit_or b (bit_or a c)
or_swap a b c =
    same_from_bits _ _
    (λ i. rw (bit_at_or a (bit_or b c) i, bit_at_or b c i, bit_at_or b (bit_or a c) i, bit_at_or a c i) (max_swap (bit_at a i) (bit_at b i) (bit_at c i)))

-- words without a state
pub none-words : (n w : ℕ) → number_of_words (take w (replicate n 0)) ≡ 0
none-words zero zero = refl
none-words zero (suc w) = refl
none-words (suc n) zero = refl
none-words (suc n) (suc w) = ap (λ k. k * 2 ^ 64 + 0) (none-words n w)
