-- Sets of states in words, one state at a time.
use Rattle.std.proofs.Common.{zero, suc, ◌≡◌, ◌≢◌, ℕ, ◌+◌, ◌<◌, ◌≤◌, ◌/◌, ◌%◌, ◌*◌, ◌^◌, ◌⊎◌, inl, inr, List, get_or, set, length, length-set, refl, ap, sym, ◌∙◌, arith, bit_and, bit_or, max, true, replicate, w64}
use Rattle.std.specs.Int.{bit_at, trailing_zeros}
use Rattle.std.specs.Int.Bits.{bit_xor}
use Rattle.std.proofs.lemmas.Bool.{cases_eq, cases_lt}
use Rattle.std.proofs.lemmas.List.{get_or-replicate, get_or-set_same, get_or-set_other, get_or_past, length-replicate}
use Rattle.std.proofs.lemmas.Nat.{or_lt, xor_lt, and_le_l}
use Rattle.std.proofs.lemmas.Nat.Bits.{bit_at_and, bit_at_or, bit_at_xor, bit_at-lt, bit_at-pow_same, bit_at-pow_other, bit_at-trailing_zeros, bit_at-zero, same_from_bits, same_from_bits_below}
use Rattle.state_tables.proofs.Words.{single-bit, words-none}
use Rattle.state_tables.specs.StateSet.{AreWords, member, number_of_words, words_of}
use Rattle.state_tables.specs.StateSetLaws.{bit-words, member-words}
use Rattle.span_enum.specs.States.{HasWords, words_of-number}

-- ---- one word is replaced
abbrev pub bit_of : ℕ → ℕ
bit_of q = 1 * 2 ^ (q % 64) % 2 ^ 64

bit_of-is : (q : ℕ) → bit_of q ≡ 2 ^ (q % 64)
bit_of-is q = single-bit (q % 64) (omega arith)

pub bit_of-low : (q : ℕ) → bit_of q < 2 ^ 64
bit_of-low q = omega arith

pub has-set : (n : ℕ) (ws : List ℕ) (i w : ℕ) → HasWords n ws → w < 2 ^ 64 → HasWords n (set ws i w)
has-set n ws i w h low = record { size = length-set ws i w ∙ h.size; below = λ k. by k (cases_eq k i) (cases_lt k (length ws)) }
  where
    by : (k : ℕ) → (k ≡ i) ⊎ (k ≢ i) → (k < length ws) ⊎ (length ws ≤ k) → get_or (set ws i w) k 0 < 2 ^ 64
    by k (inr ne) side = rw (get_or-set_other ws i k w 0 ne) (h.below k)
    by k (inl e) (inl lt) = rw (e, get_or-set_same ws i w 0 (omega (arith, e, lt))) low
    by k (inl e) (inr ge) = rw (get_or_past (set ws i w) k 0 (omega (arith, ge, length-set ws i w))) (omega arith)

-- an operation on each bit, at the bit of one state
module _ (op : ℕ → ℕ → ℕ) (bit : ℕ → ℕ → ℕ) (law : (a b i : ℕ) → bit_at (op a b) i ≡ bit (bit_at a i) (bit_at b i)) (keep : (x : ℕ) → x < 2 → bit x 0 ≡ x) where
  pub number-set : (n : ℕ) (ws : List ℕ) (q : ℕ) → HasWords n ws → q < 64 * n → op (get_or ws (q / 64) 0) (bit_of q) < 2 ^ 64
      → number_of_words (set ws (q / 64) (op (get_or ws (q / 64) 0) (bit_of q))) ≡ op (number_of_words ws) (2 ^ q)
  number-set n ws q h lt low = same_from_bits _ _ (λ k. bit-words (set ws (q / 64) word) k (has-set n ws (q / 64) word h low).below ∙ by k (cases_eq (k / 64) (q / 64)) ∙ sym (law (number_of_words ws) (2 ^ q) k))
    where
      word : ℕ
      word = op (get_or ws (q / 64) 0) (bit_of q)

      old : (k : ℕ) → bit_at (number_of_words ws) k ≡ bit_at (get_or ws (k / 64) 0) (k % 64)
      old k = bit-words ws k h.below

      one : (k : ℕ) → k / 64 ≡ q / 64 → (k % 64 ≡ q % 64) ⊎ (k % 64 ≢ q % 64) → bit_at (bit_of q) (k % 64) ≡ bit_at (2 ^ q) k
      one k e (inl same) =
          let both : k ≡ q = omega (arith, e, same) in
          rw (bit_of-is q, same, bit_at-pow_same (q % 64)) (sym (ap (bit_at (2 ^ q)) both ∙ bit_at-pow_same q))
      one k e (inr other) = rw (bit_of-is q, bit_at-pow_other (q % 64) (k % 64) other) (sym (bit_at-pow_other q k (λ same. other (ap (λ x. x % 64) same))))

      by : (k : ℕ) → (k / 64 ≡ q / 64) ⊎ (k / 64 ≢ q / 64) → bit_at (get_or (set ws (q / 64) word) (k / 64) 0) (k % 64) ≡ bit (bit_at (number_of_words ws) k) (bit_at (2 ^ q) k)
      by k (inl e) =
          let at : get_or (set ws (q / 64) word) (k / 64) 0 ≡ word = ap (λ i. get_or (set ws (q / 64) word) i 0) e ∙ get_or-set_same ws (q / 64) word 0 (omega (arith, lt, h.size)) in
          let left : bit_at (get_or ws (q / 64) 0) (k % 64) ≡ bit_at (number_of_words ws) k = sym (old k ∙ ap (λ i. bit_at (get_or ws i 0) (k % 64)) e) in
          ap (λ w. bit_at w (k % 64)) at ∙ law (get_or ws (q / 64) 0) (bit_of q) (k % 64) ∙ ap (λ x. bit x (bit_at (bit_of q) (k % 64))) left
          ∙ ap (bit (bit_at (number_of_words ws) k)) (one k e (cases_eq (k % 64) (q % 64)))
      by k (inr ne) =
          ap (λ w. bit_at w (k % 64)) (get_or-set_other ws (q / 64) (k / 64) word 0 ne) ∙ sym (old k)
          ∙ sym (ap (bit (bit_at (number_of_words ws) k)) (bit_at-pow_other q k (λ same. ne (ap (λ x. x / 64) same))) ∙ keep (bit_at (number_of_words ws) k) (bit_at-lt (number_of_words ws) k))

-- a state is put into the set
pub or-word : (n : ℕ) (ws : List ℕ) (q : ℕ) → HasWords n ws → q < 64 * n
    → HasWords n (set ws (q / 64) (bit_or (get_or ws (q / 64) 0) (bit_of q))) × (number_of_words (set ws (q / 64) (bit_or (get_or ws (q / 64) 0) (bit_of q))) ≡ bit_or (number_of_words ws) (2 ^ q))
or-word n ws q h lt =
    let low = or_lt 64 (get_or ws (q / 64) 0) (bit_of q) (h.below (q / 64)) (bit_of-low q) in
    (has-set n ws (q / 64) _ h low, number-set bit_or max bit_at_or (λ x small. omega arith) n ws q h lt low)

xor-keeps : (x : ℕ) → x < 2 → (x + 0) % 2 ≡ x
xor-keeps zero h = refl
xor-keeps (suc zero) h = refl
xor-keeps (suc (suc x)) h = absurd (omega arith)

-- a state of the set is removed
pub xor-word : (n : ℕ) (ws : List ℕ) (q : ℕ) → HasWords n ws → q < 64 * n
    → HasWords n (set ws (q / 64) (bit_xor (get_or ws (q / 64) 0) (bit_of q))) × (number_of_words (set ws (q / 64) (bit_xor (get_or ws (q / 64) 0) (bit_of q))) ≡ bit_xor (number_of_words ws) (2 ^ q))
xor-word n ws q h lt =
    let low = xor_lt 64 (get_or ws (q / 64) 0) (bit_of q) (h.below (q / 64)) (bit_of-low q) in
    (has-set n ws (q / 64) _ h low, number-set bit_xor (λ x y. (x + y) % 2) bit_at_xor xor-keeps n ws q h lt low)

-- ---- words that are 0
pub get-zeros : (n k : ℕ) → get_or {A = ℕ} (replicate n 0) k 0 ≡ 0
get-zeros n k = elim (cases_lt k n) [ inl lt ↦ get_or-replicate n k 0 0 lt | inr ge ↦ get_or_past (replicate n 0) k 0 (omega (arith, ge, length-replicate {A = ℕ} n 0)) ]

pub number-zeros : (n : ℕ) → number_of_words (replicate n 0) ≡ 0
number-zeros n = words-none (replicate n 0) (λ k lt. get-zeros n k)

-- ---- the least state
pub least-at : (n : ℕ) (ws : List ℕ) (i : ℕ) → HasWords n ws → (get_or ws i 0 ≡ 0 → ⊥)
    → (trailing_zeros w64 (get_or ws i 0) < 64) × (member (number_of_words ws) (64 * i + trailing_zeros w64 (get_or ws i 0)) ≡ true)
least-at n ws i h some =
    let w = get_or ws i 0 in
    let found = bit_at-trailing_zeros w64 w (positive w some) (h.below i) in
    let t = trailing_zeros w64 w in
    let word : (64 * i + t) / 64 ≡ i = omega (arith, found.0) in
    let place : (64 * i + t) % 64 ≡ t = omega (arith, found.0) in
    (found.0, member-words ws (64 * i + t) h.below ∙ rw (word, place, found.1) refl)
  where
    positive : (w : ℕ) → (w ≡ 0 → ⊥) → 0 < w
    positive w some = elim (cases_eq w 0) [ inl e ↦ absurd (some e) | inr ne ↦ omega arith ]

-- ---- two sets
pub meets-nowhere : (ws vs : List ℕ) → AreWords ws → AreWords vs → ((k : ℕ) → bit_and (get_or ws k 0) (get_or vs k 0) ≡ 0) → bit_and (number_of_words ws) (number_of_words vs) ≡ 0
meets-nowhere ws vs hw hv none = same_from_bits _ _ (λ q. bit_at_and (number_of_words ws) (number_of_words vs) q ∙ rw (bit-words ws q hw, bit-words vs q hv, ← bit_at_and (get_or ws (q / 64) 0) (get_or vs (q / 64) 0) (q % 64), none (q / 64), bit_at-zero (q % 64), bit_at-zero q) refl)

pub meets-at : (ws vs : List ℕ) (i : ℕ) → AreWords ws → AreWords vs → bit_and (number_of_words ws) (number_of_words vs) ≡ 0 → bit_and (get_or ws i 0) (get_or vs i 0) ≡ 0
meets-at ws vs i hw hv none = same_from_bits_below 64 _ 0 (omega (arith, hw i, and_le_l (get_or ws i 0) (get_or vs i 0))) (omega arith) (λ k lt. by k lt)
  where
    by : (k : ℕ) → k < 64 → bit_at (bit_and (get_or ws i 0) (get_or vs i 0)) k ≡ bit_at 0 k
    by k lt =
        let word : (64 * i + k) / 64 ≡ i = omega (arith, lt) in
        let place : (64 * i + k) % 64 ≡ k = omega (arith, lt) in
        let left : bit_at (number_of_words ws) (64 * i + k) ≡ bit_at (get_or ws i 0) k = bit-words ws (64 * i + k) hw ∙ rw (word, place) refl in
        let right : bit_at (number_of_words vs) (64 * i + k) ≡ bit_at (get_or vs i 0) k = bit-words vs (64 * i + k) hv ∙ rw (word, place) refl in
        bit_at_and (get_or ws i 0) (get_or vs i 0) k ∙ rw (← left, ← right) (sym (bit_at_and (number_of_words ws) (number_of_words vs) (64 * i + k)) ∙ ap (λ n. bit_at n (64 * i + k)) none ∙ bit_at-zero (64 * i + k) ∙ sym (bit_at-zero k))

-- the words of a set, by its number
pub words-are : (n : ℕ) (ws : List ℕ) (set : ℕ) → HasWords n ws → number_of_words ws ≡ set → words_of n set ≡ ws
words-are n ws set h e = sym (ap (words_of n) e) ∙ words_of-number n ws h

-- ---- a copy
-- the words of one list are those of another, and 0 after its end
pub number-copied : (ws vs : List ℕ) → AreWords ws → AreWords vs → ((k : ℕ) → get_or ws k 0 ≡ get_or vs k 0) → number_of_words ws ≡ number_of_words vs
number-copied ws vs hw hv same = same_from_bits _ _ (λ q. bit-words ws q hw ∙ ap (λ w. bit_at w (q % 64)) (same (q / 64)) ∙ sym (bit-words vs q hv))
