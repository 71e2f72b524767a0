-- The members of a set of states are all that its words say.
use Rattle.std.proofs.Common.{◌≡◌, ◌≢◌, ℕ, zero, suc, ◌+◌, ◌-◌, ◌*◌, ◌/◌, ◌%◌, ◌^◌, ◌<◌, ◌≤◌, ◌==◌, ◌⊎◌, inl, inr, Bool, true, false, List, length, refl, sym, ◌∙◌, ap, subst, arith, get_or, set, replicate, length-set, bit_or, w64}
use Rattle.std.specs.Int.{bit_at, trailing_zeros}
use Rattle.std.proofs.lemmas.Bool.{both_ways, cases_eq, cases_lt}
use Rattle.std.proofs.lemmas.Nat.{or_lt, shr-shr, shr_le}
use Rattle.std.proofs.lemmas.Nat.Bits.{bit_at-lt, bit_at-trailing_zeros, bit_at-zero, bit_at_above, bit_at_set_other, bit_at_set_same, same_from_bits_below}
use Rattle.std.proofs.lemmas.List.{ext_get_or, get_or-replicate, get_or-set_other, get_or-set_same, get_or_past, length-replicate}
use Rattle.std.proofs.lemmas.List.FromFn.{get_or-map-range_with_len, length-map-range_with_len}
use Rattle.marker_dfa.specs.StateWords.{AreWords, IsFirstFrom, has_state, members}
use Rattle.marker_dfa.specs.Reached.{IsIn, Subset}

pub length-members : (n : ℕ) (ws : List ℕ) → length (members n ws) ≡ n
unfolding members
length-members n ws = length-map-range_with_len (has_state ws) 0 n

pub at-members : (n : ℕ) (ws : List ℕ) (q : ℕ) → q < n → get_or (members n ws) q false ≡ has_state ws q
unfolding members
at-members n ws q lt = get_or-map-range_with_len (has_state ws) 0 n q q false lt (omega arith)

members-are : (n : ℕ) (ws : List ℕ) (ms : List Bool) → length ms ≡ n → ((q : ℕ) → q < n → get_or ms q false ≡ has_state ws q) → members n ws ≡ ms
members-are n ws ms e h =
    ext_get_or false (members n ws) ms (length-members n ws ∙ sym e)
    (λ q lt. let l : q < n = omega (arith, lt, length-members n ws) in at-members n ws q l ∙ sym (h q l))

in_members : (n : ℕ) (ws : List ℕ) (q : ℕ) → AreWords n ws → has_state ws q ≡ true → IsIn (members n ws) q
in_members n ws q h e = by (cases_lt q n)
  where
    by : (q < n) ⊎ (n ≤ q) → IsIn (members n ws) q
    by (inl lt) = at-members n ws q lt ∙ e
    by (inr le) = absurd (both_ways (has_state ws q) (h.clear q le) e)

from_members : (n : ℕ) (ws : List ℕ) (q : ℕ) → IsIn (members n ws) q → (q < n) × (has_state ws q ≡ true)
from_members n ws q i = by (cases_lt q n)
  where
    by : (q < n) ⊎ (n ≤ q) → (q < n) × (has_state ws q ≡ true)
    by (inl lt) = (lt, sym (at-members n ws q lt) ∙ i)
    by (inr le) = absurd (both_ways (get_or (members n ws) q false) (get_or_past (members n ws) q false (omega (arith, le, length-members n ws))) i)

-- the words of no state, and of one more state
at_zeros : (count k : ℕ) → get_or {A = ℕ} (replicate count 0) k 0 ≡ 0
at_zeros count k = by (cases_lt k count)
  where
    by : (k < count) ⊎ (count ≤ k) → get_or {A = ℕ} (replicate count 0) k 0 ≡ 0
    by (inl lt) = get_or-replicate count k 0 0 lt
    by (inr le) = get_or_past (replicate count 0) k 0 (omega (arith, le, length-replicate {A = ℕ} count 0))

has-none : (count q : ℕ) → has_state (replicate count 0) q ≡ false
has-none count q = rw (at_zeros count (q / 64), bit_at-zero (q % 64)) refl

pub members-none : (n count : ℕ) → members n (replicate count 0) ≡ replicate n false
members-none n count =
    members-are n (replicate count 0) (replicate n false) (length-replicate n false)
    (λ q lt. get_or-replicate n q false false lt ∙ sym (has-none count q))

-- the word of a state with its bit set
abbrev pub word_with : List ℕ → ℕ → ℕ
word_with ws q = bit_or (get_or ws (q / 64) 0) (1 * 2 ^ (q % 64) % 2 ^ 64)

abbrev pub with_state : List ℕ → ℕ → List ℕ
with_state ws q = set ws (q / 64) (word_with ws q)

has-with_same : (ws : List ℕ) (q : ℕ) → q / 64 < length ws → has_state (with_state ws q) q ≡ true
has-with_same ws q lt =
    rw (get_or-set_same ws (q / 64) (word_with ws q) 0 lt, bit_at_set_same w64 (get_or ws (q / 64) 0) (q % 64) (omega arith)) refl

has-with_other : (ws : List ℕ) (q p : ℕ) → q / 64 < length ws → p ≢ q → has_state (with_state ws q) p ≡ has_state ws p
has-with_other ws q p lt ne = by (cases_eq (p / 64) (q / 64))
  where
    by : (p / 64 ≡ q / 64) ⊎ (p / 64 ≡ q / 64 → ⊥) → has_state (with_state ws q) p ≡ has_state ws p
    by (inl e) =
        let apart : p % 64 ≢ q % 64 = λ r. ne (omega (arith, e, r)) in
        rw (e, get_or-set_same ws (q / 64) (word_with ws q) 0 lt, bit_at_set_other w64 (get_or ws (q / 64) 0) (q % 64) (omega arith) (p % 64) apart) refl
    by (inr e) = rw (get_or-set_other ws (q / 64) (p / 64) (word_with ws q) 0 e) refl

pub word_there : (n q size : ℕ) → size ≡ n / 64 + 1 → q < n → q / 64 < size
word_there n q size e lt = omega (arith, e, lt)

-- a state has a word
pub has_word : (n : ℕ) (ws : List ℕ) (q : ℕ) → AreWords n ws → q < length (members n ws) → q / 64 < length ws
has_word n ws q h lt = word_there n q (length ws) h.size (omega (arith, lt, length-members n ws))

pub members-with : (n : ℕ) (ws : List ℕ) (q : ℕ) → AreWords n ws → q < n → members n (with_state ws q) ≡ set (members n ws) q true
members-with n ws q h lt =
    members-are n (with_state ws q) (set (members n ws) q true) (length-set (members n ws) q true ∙ length-members n ws) (λ p l. by p l (cases_eq p q))
  where
    by : (p : ℕ) → p < n → (p ≡ q) ⊎ (p ≡ q → ⊥) → get_or (set (members n ws) q true) p false ≡ has_state (with_state ws q) p
    by p l (inl e) =
        rw (e, get_or-set_same (members n ws) q true false (omega (arith, lt, length-members n ws))) (sym (has-with_same ws q (word_there n q (length ws) h.size lt)))
    by p l (inr e) =
        get_or-set_other (members n ws) q p true false e ∙ at-members n ws p l ∙ sym (has-with_other ws q p (word_there n q (length ws) h.size lt) e)

pub AreWords-with : (n : ℕ) (ws : List ℕ) (q : ℕ) → AreWords n ws → q < n → AreWords n (with_state ws q)
AreWords-with n ws q h lt = record {
  size = length-set ws (q / 64) (word_with ws q) ∙ h.size;
  below = λ k. by k (cases_eq k (q / 64));
  clear = λ p le. has-with_other ws q p (word_there n q (length ws) h.size lt) (λ e. omega (arith, e, le, lt)) ∙ h.clear p le;
}
  where
    by : (k : ℕ) → (k ≡ q / 64) ⊎ (k ≡ q / 64 → ⊥) → get_or (with_state ws q) k 0 < 2 ^ 64
    by k (inl e) = rw (e, get_or-set_same ws (q / 64) (word_with ws q) 0 (word_there n q (length ws) h.size lt)) (or_lt 64 (get_or ws (q / 64) 0) (1 * 2 ^ (q % 64) % 2 ^ 64) (h.below (q / 64)) (omega arith))
    by k (inr e) = rw (get_or-set_other ws (q / 64) k (word_with ws q) 0 e) (h.below k)

-- bit i of word k is for one state
has-bit : (ws : List ℕ) (k i : ℕ) → i < 64 → has_state ws (64 * k + i) ≡ (bit_at (get_or ws k 0) i == 1)
has-bit ws k i lt =
    let d : (64 * k + i) / 64 ≡ k = omega arith in
    let m : (64 * k + i) % 64 ≡ i = omega arith in
    rw (d, m) refl

same_bit : (x y : ℕ) → x < 2 → y < 2 → (x == 1) ≡ (y == 1) → x ≡ y
same_bit zero zero lx ly e = refl
same_bit zero (suc zero) lx ly e = cc
same_bit (suc zero) zero lx ly e = cc
same_bit (suc zero) (suc zero) lx ly e = refl
same_bit (suc (suc x)) y lx ly e = absurd (omega arith)
same_bit x (suc (suc y)) lx ly e = absurd (omega arith)

pub words-same : (n : ℕ) (ws vs : List ℕ) → AreWords n ws → AreWords n vs → members n ws ≡ members n vs → ws ≡ vs
words-same n ws vs h i e =
    ext_get_or 0 ws vs (h.size ∙ sym i.size)
    (λ k lt. same_from_bits_below 64 (get_or ws k 0) (get_or vs k 0) (h.below k) (i.below k)
    (λ b lb. same_bit (bit_at (get_or ws k 0) b) (bit_at (get_or vs k 0) b) (bit_at-lt (get_or ws k 0) b) (bit_at-lt (get_or vs k 0) b) (sym (has-bit ws k b lb) ∙ has_same (64 * k + b) ∙ has-bit vs k b lb)))
  where
    has_same : (q : ℕ) → has_state ws q ≡ has_state vs q
    has_same q = by (cases_lt q n)
      where
        by : (q < n) ⊎ (n ≤ q) → has_state ws q ≡ has_state vs q
        by (inl lt) = sym (at-members n ws q lt) ∙ ap (λ ms. get_or ms q false) e ∙ at-members n vs q lt
        by (inr le) = h.clear q le ∙ sym (i.clear q le)

shifted-bit : (w s i : ℕ) → bit_at (w / 2 ^ s) i ≡ bit_at w (s + i)
shifted-bit w s i = ap (λ x. x % 2) (shr-shr w s i)

-- bit i of a word from a state on is for the state i later
rest-bit : (ws : List ℕ) (o i : ℕ) → o % 64 + i < 64 → has_state ws (o + i) ≡ (bit_at (get_or ws (o / 64) 0 / 2 ^ (o % 64)) i == 1)
rest-bit ws o i lt =
    let d : (o + i) / 64 ≡ o / 64 = omega (arith, lt) in
    let m : (o + i) % 64 ≡ o % 64 + i = omega (arith, lt) in
    rw (d, m, shifted-bit (get_or ws (o / 64) 0) (o % 64) i) refl

-- no state of a word is a member from a state on
none-in_rest : (n : ℕ) (ws : List ℕ) (xs : Subset) (o p : ℕ) → members n ws ≡ xs → get_or ws (o / 64) 0 / 2 ^ (o % 64) ≡ 0 → o ≤ p → p < (o / 64 + 1) * 64 → IsIn xs p → ⊥
none-in_rest n ws xs o p view none le lt i =
    let at = from_members n ws p (subst (λ (x : Subset). IsIn x p) (sym view) i) in
    let same : o + (p - o) ≡ p = omega (arith, le) in
    let bit = rest-bit ws o (p - o) (omega (arith, le, lt)) in
    let zero_bit : (bit_at (get_or ws (o / 64) 0 / 2 ^ (o % 64)) (p - o) == 1) ≡ false = rw (none, bit_at-zero (p - o)) refl in
    both_ways (has_state ws p) (ap (has_state ws) (sym same) ∙ bit ∙ zero_bit) at.1

pub none-up_to : (n : ℕ) (ws : List ℕ) (xs : Subset) (start o p : ℕ) → members n ws ≡ xs → get_or ws (o / 64) 0 / 2 ^ (o % 64) ≡ 0 → ((r : ℕ) → start ≤ r → r < o → IsIn xs r → ⊥) → start ≤ p → p < (o / 64 + 1) * 64 → IsIn xs p → ⊥
none-up_to n ws xs start o p view none before le lt i = by (cases_lt p o)
  where
    by : (p < o) ⊎ (o ≤ p) → ⊥
    by (inl l) = before p le l i
    by (inr l) = none-in_rest n ws xs o p view none l lt i

-- no state is a member from a state on
pub none-left : (n : ℕ) (ws : List ℕ) (xs : Subset) (start o p : ℕ) → members n ws ≡ xs → n ≤ o → ((r : ℕ) → start ≤ r → r < o → IsIn xs r → ⊥) → start ≤ p → IsIn xs p → ⊥
none-left n ws xs start o p view past before le i =
    let at = from_members n ws p (subst (λ (x : Subset). IsIn x p) (sym view) i) in
    before p le (omega (arith, at.0, past)) i

-- the lowest bit of the rest of a word is for the least member
pub first-in_rest : (n : ℕ) (ws : List ℕ) (xs : Subset) (start o : ℕ) → AreWords n ws → members n ws ≡ xs → (get_or ws (o / 64) 0 / 2 ^ (o % 64) ≡ 0 → ⊥) → start ≤ o → ((p : ℕ) → start ≤ p → p < o → IsIn xs p → ⊥)
    → IsFirstFrom xs start (o + trailing_zeros w64 (get_or ws (o / 64) 0 / 2 ^ (o % 64)))
first-in_rest n ws xs start o h view some le before = record {
  from = omega (arith, le);
  within = omega (arith, there.0, view_size);
  member = subst (λ (x : Subset). IsIn x (o + t)) view there.1;
  first = λ p l lt i. first p l lt i (cases_lt p o);
}
  where
    word : ℕ
    word = get_or ws (o / 64) 0

    rest : ℕ
    rest = word / 2 ^ (o % 64)

    t : ℕ
    t = trailing_zeros w64 rest

    small : rest < 2 ^ 64
    small = omega (arith, shr_le word (o % 64), h.below (o / 64))

    low : (t < 64) × (bit_at rest t ≡ 1) × ((i : ℕ) → i < t → bit_at rest i ≡ 0)
    low = bit_at-trailing_zeros w64 rest (omega (arith, some)) small

    in_word : o % 64 + t < 64
    in_word = by (cases_lt (o % 64 + t) 64)
      where
        by : (o % 64 + t < 64) ⊎ (64 ≤ o % 64 + t) → o % 64 + t < 64
        by (inl l) = l
        by (inr l) = absurd (omega (arith, low.1, shifted-bit word (o % 64) t, bit_at_above word 64 (o % 64 + t) (h.below (o / 64)) l))

    has : has_state ws (o + t) ≡ true
    has = rest-bit ws o t in_word ∙ rw (low.1) refl

    view_size : length xs ≡ n
    view_size = ap length (sym view) ∙ length-members n ws

    there : (o + t < n) × IsIn (members n ws) (o + t)
    there = let i = in_members n ws (o + t) h has in ((from_members n ws (o + t) i).0, i)

    first : (p : ℕ) → start ≤ p → p < o + t → IsIn xs p → (p < o) ⊎ (o ≤ p) → ⊥
    first p l lt i (inl q) = before p l q i
    first p l lt i (inr q) =
        let at = from_members n ws p (subst (λ (x : Subset). IsIn x p) (sym view) i) in
        let same : o + (p - o) ≡ p = omega (arith, q) in
        let bit = rest-bit ws o (p - o) (omega (arith, q, lt, in_word)) in
        let zero_bit : (bit_at rest (p - o) == 1) ≡ false = rw (low.2 (p - o) (omega (arith, q, lt))) refl in
        both_ways (has_state ws p) (ap (has_state ws) (sym same) ∙ bit ∙ zero_bit) at.1
