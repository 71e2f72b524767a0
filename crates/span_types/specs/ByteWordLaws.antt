-- The members of a set of bytes determine its words.
use Rattle.std.proofs.Common.{◌≡◌, ◌≢◌, ℕ, zero, suc, ◌+◌, ◌-◌, ◌*◌, ◌/◌, ◌%◌, ◌^◌, ◌<◌, ◌≤◌, ◌==◌, ◌⊎◌, inl, inr, Bool, true, false, not, List, [], ◌∷◌, length, map, take, drop, refl, sym, ◌∙◌, ap, arith, if◌then◌else◌, get_or, set, replicate, length-set, pow-suc, bit_or, w64}
use Rattle.std.specs.Int.{bit_at, bit_not}
use Rattle.std.proofs.lemmas.Bool.{cases_lt}
use Rattle.std.proofs.lemmas.Bool.Decides.{eqb_tells}
use Rattle.std.proofs.lemmas.Nat.Bits.{bit_at_lowest, bit_at-suc, bit_at-zero, bit_at-lt, bit_at_not, bit_at_set_same, bit_at_set_other, same_from_bits_below}
use Rattle.std.proofs.lemmas.Nat.{or_lt}
use Rattle.std.proofs.lemmas.List.{ext_get_or, length-take, length-map, length-replicate, get_or-take, get_or-drop, get_or-map, get_or-replicate, get_or-set_same, get_or-set_other, get_or_past}
use Rattle.std.proofs.lemmas.List.FromFn.{get_or-map-range_with_len, length-map-range_with_len}
use Rattle.span_types.specs.ByteWords.{AreWords, has_byte, members, number_of, word_of, words_of}

pub length-members : (ws : List ℕ) → length (members ws) ≡ 256
unfolding members
length-members ws = length-map-range_with_len (has_byte ws) 0 256

pub at-members : (ws : List ℕ) (b : ℕ) → b < 256 → get_or (members ws) b false ≡ has_byte ws b
unfolding members
at-members ws b lt = get_or-map-range_with_len (has_byte ws) 0 256 b b false lt (omega arith)

pub members-are : (ws : List ℕ) (ms : List Bool) → length ms ≡ 256 → ((b : ℕ) → b < 256 → get_or ms b false ≡ has_byte ws b) → members ws ≡ ms
members-are ws ms e h =
    ext_get_or false (members ws) ms (length-members ws ∙ sym e)
    (λ b lt. let l : b < 256 = omega (arith, lt, length-members ws) in at-members ws b l ∙ sym (h b l))

at_zeros : (k : ℕ) → get_or {A = ℕ} (0 ∷ 0 ∷ 0 ∷ 0 ∷ []) k 0 ≡ 0
at_zeros zero = refl
at_zeros (suc zero) = refl
at_zeros (suc (suc zero)) = refl
at_zeros (suc (suc (suc zero))) = refl
at_zeros (suc (suc (suc (suc k)))) = refl

-- the words of no byte, of one more byte, and of the other bytes
pub members-none : members (0 ∷ 0 ∷ 0 ∷ 0 ∷ []) ≡ replicate 256 false
members-none =
    members-are (0 ∷ 0 ∷ 0 ∷ 0 ∷ []) (replicate 256 false) (length-replicate 256 false)
    (λ b lt. get_or-replicate 256 b false false lt ∙ sym (none b))
  where
    none : (b : ℕ) → has_byte (0 ∷ 0 ∷ 0 ∷ 0 ∷ []) b ≡ false
    none b = rw (at_zeros (b / 64), bit_at-zero (b % 64)) refl

abbrev pub with_byte : List ℕ → ℕ → List ℕ
with_byte ws b = set ws (b / 64) (bit_or (get_or ws (b / 64) 0) (1 * 2 ^ (b % 64) % 2 ^ 64))

pub members-with : (ws : List ℕ) (b : ℕ) → length ws ≡ 4 → b < 256 → members (with_byte ws b) ≡ set (members ws) b true
members-with ws b size lt = members-are (with_byte ws b) (set (members ws) b true) (length-set (members ws) b true ∙ length-members ws) (λ j l. by j l (eqb_tells j b))
  where
    by : (j : ℕ) → j < 256 → ((j == b ≡ true) × (j ≡ b)) ⊎ ((j == b ≡ false) × (j ≡ b → ⊥)) → get_or (set (members ws) b true) j false ≡ has_byte (with_byte ws b) j
    by j l (inl t) = rw (t.1, get_or-set_same (members ws) b true false (omega (arith, lt, length-members ws)), get_or-set_same ws (b / 64) (bit_or (get_or ws (b / 64) 0) (1 * 2 ^ (b % 64) % 2 ^ 64)) 0 (omega (arith, size, lt)), bit_at_set_same w64 (get_or ws (b / 64) 0) (b % 64) (omega arith)) refl
    by j l (inr t) =
        get_or-set_other (members ws) b j true false t.1 ∙ at-members ws j l ∙ row (eqb_tells (j / 64) (b / 64))
      where
        row : ((j / 64 == b / 64 ≡ true) × (j / 64 ≡ b / 64)) ⊎ ((j / 64 == b / 64 ≡ false) × (j / 64 ≡ b / 64 → ⊥)) → has_byte ws j ≡ has_byte (with_byte ws b) j
        row (inl r) =
            let ne : j % 64 ≢ b % 64 = λ e. t.1 (omega (arith, r.1, e)) in
            rw (r.1, get_or-set_same ws (b / 64) (bit_or (get_or ws (b / 64) 0) (1 * 2 ^ (b % 64) % 2 ^ 64)) 0 (omega (arith, size, lt)), bit_at_set_other w64 (get_or ws (b / 64) 0) (b % 64) (omega arith) (j % 64) ne) refl
        row (inr r) = rw (get_or-set_other ws (b / 64) (j / 64) (bit_or (get_or ws (b / 64) 0) (1 * 2 ^ (b % 64) % 2 ^ 64)) 0 r.1) refl

turned : (x : ℕ) → x < 2 → not (x == 1) ≡ (1 - x == 1)
turned zero lt = refl
turned (suc zero) lt = refl
turned (suc (suc x)) lt = absurd (omega arith)

pub members-not : (ws vs : List ℕ) → AreWords ws → ((k : ℕ) → k < 4 → get_or vs k 0 ≡ bit_not w64 (get_or ws k 0)) → members vs ≡ map not (members ws)
members-not ws vs h e =
    members-are vs (map not (members ws)) (length-map (members ws) not ∙ length-members ws)
    (λ b l.
    get_or-map not (members ws) b false false (omega (arith, l, length-members ws))
    ∙ ap not (at-members ws b l)
    ∙ rw (e (b / 64) (omega arith), bit_at_not w64 (get_or ws (b / 64) 0) (b % 64) (h.below (b / 64)) (omega arith)) (turned (bit_at (get_or ws (b / 64) 0) (b % 64)) (bit_at-lt (get_or ws (b / 64) 0) (b % 64))))

abbrev bit_of : Bool → ℕ
bit_of b = if b then 1 else 0

number_of-below : (k : ℕ) (bs : List Bool) → length bs ≤ k → number_of bs < 2 ^ k
number_of-below zero [] le = omega arith
number_of-below (suc k) [] le = omega (arith, number_of-below k [] (omega arith), pow-suc 2 k)
number_of-below zero (b ∷ bs) le = absurd (omega arith)
number_of-below (suc k) (true ∷ bs) le = omega (arith, number_of-below k bs (omega arith), pow-suc 2 k)
number_of-below (suc k) (false ∷ bs) le = omega (arith, number_of-below k bs (omega arith), pow-suc 2 k)

bit_at-number_of : (bs : List Bool) (i : ℕ) → bit_at (number_of bs) i ≡ (if get_or bs i false then 1 else 0)
bit_at-number_of [] i = bit_at-zero i
bit_at-number_of (true ∷ bs) zero = bit_at_lowest (1 + 2 * number_of bs) ∙ omega arith
bit_at-number_of (false ∷ bs) zero = bit_at_lowest (0 + 2 * number_of bs) ∙ omega arith
bit_at-number_of (true ∷ bs) (suc i) = let e : (1 + 2 * number_of bs) / 2 ≡ number_of bs = omega arith in bit_at-suc (1 + 2 * number_of bs) i ∙ rw e (bit_at-number_of bs i)
bit_at-number_of (false ∷ bs) (suc i) = let e : (0 + 2 * number_of bs) / 2 ≡ number_of bs = omega arith in bit_at-suc (0 + 2 * number_of bs) i ∙ rw e (bit_at-number_of bs i)

tested : (x : ℕ) → x < 2 → (if x == 1 then 1 else 0) ≡ x
tested zero lt = refl
tested (suc zero) lt = refl
tested (suc (suc x)) lt = absurd (omega arith)

bit_of-word : (ws : List ℕ) (k i : ℕ) → k < 4 → i < 64 → bit_at (word_of (members ws) k) i ≡ bit_at (get_or ws k 0) i
bit_of-word ws k i lk li =
    let e : get_or (take 64 (drop (64 * k) (members ws))) i false ≡ has_byte ws (64 * k + i) =
    get_or-take 64 (drop (64 * k) (members ws)) i false li ∙ get_or-drop (64 * k) (members ws) i false ∙ at-members ws (64 * k + i) (omega arith) in
    let d : (64 * k + i) / 64 ≡ k = omega arith in
    let m : (64 * k + i) % 64 ≡ i = omega arith in
    bit_at-number_of (take 64 (drop (64 * k) (members ws))) i
    ∙ ap bit_of e
    ∙ rw (d, m) (tested (bit_at (get_or ws k 0) i) (bit_at-lt (get_or ws k 0) i))

same_word : (ws : List ℕ) (k : ℕ) → AreWords ws → k < 4 → word_of (members ws) k ≡ get_or ws k 0
same_word ws k h lk =
    same_from_bits_below 64 (word_of (members ws) k) (get_or ws k 0)
    (number_of-below 64 (take 64 (drop (64 * k) (members ws))) (omega (arith, length-take 64 (drop (64 * k) (members ws)))))
    (h.below k) (λ i li. bit_of-word ws k i lk li)

pub words_of-members : (ws : List ℕ) → AreWords ws → words_of (members ws) ≡ ws
unfolding words_of
words_of-members ws h =
    ext_get_or 0 (words_of (members ws)) ws (length-map-range_with_len (word_of (members ws)) 0 4 ∙ sym h.size)
    (λ k lt. let l : k < 4 = omega (arith, lt, length-map-range_with_len (word_of (members ws)) 0 4) in
    get_or-map-range_with_len (word_of (members ws)) 0 4 k k 0 l (omega arith) ∙ same_word ws k h l)

pub words-same : (ws vs : List ℕ) → AreWords ws → AreWords vs → members ws ≡ members vs → ws ≡ vs
words-same ws vs h i e = sym (words_of-members ws h) ∙ ap words_of e ∙ words_of-members vs i

pub AreWords-with : (ws : List ℕ) (b : ℕ) → AreWords ws → b < 256 → AreWords (with_byte ws b)
AreWords-with ws b h lt = record {
  size = length-set ws (b / 64) (bit_or (get_or ws (b / 64) 0) (1 * 2 ^ (b % 64) % 2 ^ 64)) ∙ h.size;
  below = λ k. by k (eqb_tells k (b / 64));
}
  where
    by : (k : ℕ) → ((k == b / 64 ≡ true) × (k ≡ b / 64)) ⊎ ((k == b / 64 ≡ false) × (k ≡ b / 64 → ⊥)) → get_or (with_byte ws b) k 0 < 2 ^ 64
    by k (inl t) = rw (t.1, get_or-set_same ws (b / 64) (bit_or (get_or ws (b / 64) 0) (1 * 2 ^ (b % 64) % 2 ^ 64)) 0 (omega (arith, h.size, lt))) (or_lt 64 (get_or ws (b / 64) 0) (1 * 2 ^ (b % 64) % 2 ^ 64) (h.below (b / 64)) (omega arith))
    by k (inr t) = rw (get_or-set_other ws (b / 64) k (bit_or (get_or ws (b / 64) 0) (1 * 2 ^ (b % 64) % 2 ^ 64)) 0 t.1) (h.below k)

pub AreWords-not : (ws vs : List ℕ) → length vs ≡ 4 → ((k : ℕ) → k < 4 → get_or vs k 0 ≡ bit_not w64 (get_or ws k 0)) → AreWords vs
AreWords-not ws vs size e = record { size = size; below = λ k. by k (cases_lt k 4) }
  where
    by : (k : ℕ) → (k < 4) ⊎ (4 ≤ k) → get_or vs k 0 < 2 ^ 64
    by k (inl lt) = omega (arith, e k lt)
    by k (inr le) = rw (get_or_past vs k 0 (omega (arith, size, le))) (omega arith)
