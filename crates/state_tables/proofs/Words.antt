-- Sets of states as words.
use Rattle.std.proofs.Common.{zero, suc, ◌≡◌, ◌≢◌, ℕ, ◌+◌, ◌-◌, ◌<◌, ◌*◌, ◌/◌, ◌%◌, ◌^◌, inl, inr, max, bit_and, bit_or, List, [], ◌∷◌, length, get_or, set, refl, ap, sym, ◌∙◌, arith, add-zero, zero-add, one-mul, mod-eq_of_lt}
use Rattle.std.proofs.lemmas.Bool.{cases_lt}
use Rattle.std.specs.Int.{bit_at}
use Rattle.std.specs.Int.Bits.{bit_xor, or_zero_r, xor_add_and}
use Rattle.std.proofs.lemmas.Nat.{or_lt, pow-add, pow_below, pow_pos}
use Rattle.std.proofs.lemmas.Nat.Bits.{bit_at_or, bit_at_xor, bit_at-pow_same, bit_at-pow_other, bit_at-lt, same_from_bits, bit_at_cat_low, bit_at_cat_high, and_pow}
use Rattle.state_tables.specs.StateSet.{AreWords, number_of_words, words_of}

-- a word that isn't 0
pub words-some : (ws : List ℕ) (i : ℕ) → get_or ws i 0 ≢ 0 → number_of_words ws ≢ 0
words-some [] i some e = some refl
words-some (w ∷ ws) zero some e = some (omega (arith, e))
words-some (w ∷ ws) (suc i) some e = words-some ws i some (omega (arith, e))

pub words-none : (ws : List ℕ) → ((i : ℕ) → i < length ws → get_or ws i 0 ≡ 0) → number_of_words ws ≡ 0
words-none [] none = refl
words-none (w ∷ ws) none = omega (arith, none 0 (omega arith), words-none ws (λ i lt. none (suc i) (omega (arith, lt))))

-- ---- the union of two sets, a word at a time
or-parts : (a b x y : ℕ) → x < 2 ^ 64 → y < 2 ^ 64 → bit_or (a * 2 ^ 64 + x) (b * 2 ^ 64 + y) ≡ bit_or a b * 2 ^ 64 + bit_or x y
or-parts a b x y lx ly =
    same_from_bits _ _ (λ i. elim (cases_lt i 64) [
      | inl lt ↦
          bit_at_or (a * 2 ^ 64 + x) (b * 2 ^ 64 + y) i
          ∙ ap (λ n. max n (bit_at (b * 2 ^ 64 + y) i)) (bit_at_cat_low a 64 x i lt)
          ∙ ap (max (bit_at x i)) (bit_at_cat_low b 64 y i lt)
          ∙ sym (bit_at_cat_low (bit_or a b) 64 (bit_or x y) i lt ∙ bit_at_or x y i)
      | inr ge ↦
          bit_at_or (a * 2 ^ 64 + x) (b * 2 ^ 64 + y) i
          ∙ ap (λ n. max n (bit_at (b * 2 ^ 64 + y) i)) (bit_at_cat_high a 64 x i lx ge)
          ∙ ap (max (bit_at a (i - 64))) (bit_at_cat_high b 64 y i ly ge)
          ∙ sym (bit_at_cat_high (bit_or a b) 64 (bit_or x y) i (or_lt 64 x y lx ly) ge ∙ bit_at_or a b (i - 64))
    ])

pub words-or : (ws us vs : List ℕ) → length ws ≡ length us → length vs ≡ length ws → AreWords us → AreWords vs
    → ((k : ℕ) → k < length ws → get_or ws k 0 ≡ bit_or (get_or us k 0) (get_or vs k 0)) → number_of_words ws ≡ bit_or (number_of_words us) (number_of_words vs)
words-or [] [] [] l m u v e = refl
words-or (w ∷ ws) [] vs l m u v e = absurd (omega (arith, l))
words-or [] (x ∷ us) vs l m u v e = absurd (omega (arith, l))
words-or [] us (y ∷ vs) l m u v e = absurd (omega (arith, m))
words-or (w ∷ ws) us [] l m u v e = absurd (omega (arith, m))
words-or (w ∷ ws) (x ∷ us) (y ∷ vs) l m u v e =
    let rest : number_of_words ws ≡ bit_or (number_of_words us) (number_of_words vs) =
    words-or ws us vs (omega (arith, l)) (omega (arith, m)) (λ i. u (suc i)) (λ i. v (suc i)) (λ k lt. e (suc k) (omega (arith, lt))) in
    ap (λ n. n * 2 ^ 64 + w) rest
    ∙ ap (λ n. bit_or (number_of_words us) (number_of_words vs) * 2 ^ 64 + n) (e 0 (omega arith))
    ∙ sym (or-parts (number_of_words us) (number_of_words vs) x y (u 0) (v 0))

-- ---- one more state
-- where the bit is in the first word, and where it is in a later one
or-first : (a x b : ℕ) → x < 2 ^ 64 → b < 64 → bit_or (a * 2 ^ 64 + x) (2 ^ b) ≡ a * 2 ^ 64 + bit_or x (2 ^ b)
or-first a x b lx lt =
    ap (bit_or (a * 2 ^ 64 + x)) (sym (zero-add (2 ^ b))) ∙ or-parts a 0 x (2 ^ b) lx (pow_below b 64 lt) ∙ ap (λ n. n * 2 ^ 64 + bit_or x (2 ^ b)) (or_zero_r a)

or-later : (a x i b : ℕ) → x < 2 ^ 64 → bit_or (a * 2 ^ 64 + x) (2 ^ (64 * suc i + b)) ≡ bit_or a (2 ^ (64 * i + b)) * 2 ^ 64 + x
or-later a x i b lx =
    let sum : 64 * suc i + b ≡ (64 * i + b) + 64 = omega arith in
    let power : 2 ^ (64 * suc i + b) ≡ 2 ^ (64 * i + b) * 2 ^ 64 + 0 = ap (λ n. 2 ^ n) sum ∙ pow-add 2 (64 * i + b) 64 ∙ sym (add-zero (2 ^ (64 * i + b) * 2 ^ 64)) in
    ap (bit_or (a * 2 ^ 64 + x)) power ∙ or-parts a (2 ^ (64 * i + b)) x 0 lx (omega arith) ∙ ap (λ n. bit_or a (2 ^ (64 * i + b)) * 2 ^ 64 + n) (or_zero_r x)

pub words-set : (ws : List ℕ) (i b : ℕ) → i < length ws → b < 64 → AreWords ws
    → number_of_words (set ws i (bit_or (get_or ws i 0) (2 ^ b))) ≡ bit_or (number_of_words ws) (2 ^ (64 * i + b))
words-set [] i b lt few are = absurd (omega (arith, lt))
words-set (w ∷ ws) zero b lt few are = sym (ap (λ n. bit_or (number_of_words ws * 2 ^ 64 + w) (2 ^ n)) (zero-add b) ∙ or-first (number_of_words ws) w b (are 0) few)
words-set (w ∷ ws) (suc i) b lt few are =
    ap (λ n. n * 2 ^ 64 + w) (words-set ws i b (omega (arith, lt)) few (λ k. are (suc k)))
    ∙ sym (or-later (number_of_words ws) w i b (are 0))

-- ---- a word without a bit
pub bit-gone : (word bit : ℕ) → bit_at word bit ≡ 1 → bit_at (bit_xor word (2 ^ bit)) bit ≡ 0
bit-gone word bit h = rw (bit_at_xor word (2 ^ bit) bit, h, bit_at-pow_same bit) refl

same-bit : (x : ℕ) → x < 2 → (x + 0) % 2 ≡ x
same-bit x lt = omega (arith, lt)

pub bit-others : (word bit i : ℕ) → i ≢ bit → bit_at (bit_xor word (2 ^ bit)) i ≡ bit_at word i
bit-others word bit i ne = rw (bit_at_xor word (2 ^ bit) i, bit_at-pow_other bit i ne, same-bit (bit_at word i) (bit_at-lt word i)) refl

pub bit-less : (word bit : ℕ) → bit_at word bit ≡ 1 → bit_xor word (2 ^ bit) < word
bit-less word bit h =
    let sum : bit_xor word (2 ^ bit) + bit_and word (2 ^ bit) * 2 ≡ word + 2 ^ bit = xor_add_and word (2 ^ bit) in
    let and : bit_and word (2 ^ bit) ≡ 1 * 2 ^ bit = and_pow word bit ∙ ap (λ b. b * 2 ^ bit) h in
    let some : 0 < 2 ^ bit = pow_pos bit in
    omega arith

-- a bit of a word, as it is computed
pub single-bit : (b : ℕ) → b < 64 → 1 * 2 ^ b % 2 ^ 64 ≡ 2 ^ b
single-bit b few = ap (λ n. n % 2 ^ 64) (one-mul (2 ^ b)) ∙ mod-eq_of_lt (pow_below b 64 few)

-- ---- the words come back from the number
low-part : (n w : ℕ) → w < 2 ^ 64 → (n * 2 ^ 64 + w) % 2 ^ 64 ≡ w
low-part n w lt = omega (arith, lt)

high-part : (n w : ℕ) → w < 2 ^ 64 → (n * 2 ^ 64 + w) / 2 ^ 64 ≡ n
high-part n w lt = omega (arith, lt)

pub words-back : (ws : List ℕ) → AreWords ws → words_of (length ws) (number_of_words ws) ≡ ws
words-back [] are = refl
words-back (w ∷ ws) are =
    ap (λ x. x ∷ words_of (length ws) ((number_of_words ws * 2 ^ 64 + w) / 2 ^ 64)) (low-part (number_of_words ws) w (are 0))
    ∙ ap (λ n. w ∷ words_of (length ws) n) (high-part (number_of_words ws) w (are 0))
    ∙ ap (λ x. w ∷ x) (words-back ws (λ i. are (suc i)))

pub words-injective : (ws vs : List ℕ) → AreWords ws → AreWords vs → length ws ≡ length vs → number_of_words ws ≡ number_of_words vs → ws ≡ vs
words-injective ws vs w v long e = sym (words-back ws w) ∙ ap (λ n. words_of n (number_of_words ws)) long ∙ ap (words_of (length vs)) e ∙ words-back vs v
