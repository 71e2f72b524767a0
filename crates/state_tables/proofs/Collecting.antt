-- What rows reach, one row at a time.
use Rattle.std.proofs.Common.{zero, suc, ◌≡◌, ◌≢◌, ℕ, ◌+◌, ◌-◌, ◌*◌, ◌<◌, ◌≤◌, ◌/◌, ◌%◌, ◌^◌, ◌==◌, inl, inr, Bool, true, false, ◌||◌, refl, ap, sym, ◌∙◌, arith, bit_or, List, [], ◌∷◌, length, drop, get_or, Option, Some, None, add-zero}
use Rattle.std.specs.Prelude.{if◌then◌else◌}
use Rattle.std.specs.Int.{bit_at}
use Rattle.std.specs.Int.Bits.{or_self, or_zero_r}
use Rattle.std.proofs.lemmas.Bool.{cases_eq, cases_lt}
use Rattle.std.proofs.lemmas.List.{get_or-drop, length-drop, length-map, drop-drop, drop_all, drop_more}
use Rattle.std.proofs.lemmas.Nat.{or_comm}
use Rattle.std.proofs.lemmas.Nat.Bits.{bit_at-zero, bit_at_above, bit_at_cat_low, bit_at_cat_high}
use Rattle.state_tables.specs.StateSet.{AreWords, member, number_of_words, single_of}
use Rattle.state_tables.specs.StateSetLaws.{member-words}
use Rattle.state_tables.specs.Table.{Row, no_row, reach, reached_of, row_at}
use Rattle.state_tables.specs.Coded.{RowList, code_of, step_of, table_of}
use Rattle.state_tables.specs.Reached.{IsCollecting}
use Rattle.state_tables.proofs.Members.{not-both}
use Rattle.state_tables.proofs.StateSets.{member-bit, member-or, member-zero, member-single_other, or_assoc, or_swap}
use Rattle.state_tables.proofs.Reach.{reach-same, reach-none, reach-take}

-- ---- one row
some-case : (o : Option ℕ) (old m code : ℕ) → code ≡ code_of o → code ≢ 0 → bit_or (bit_or old m) (2 ^ (code - 1)) ≡ bit_or old (bit_or m (single_of o))
some-case None old m code e ne = absurd (ne e)
some-case (Some q) old m code e ne =
    let at : code - 1 ≡ q = omega (arith, e) in
    ap (λ n. bit_or (bit_or old m) (2 ^ n)) at ∙ or_assoc old m (2 ^ q)

none-case : (o : Option ℕ) (old m code : ℕ) → code ≡ code_of o → code ≡ 0 → bit_or old m ≡ bit_or old (bit_or m (single_of o))
none-case None old m code e z = ap (bit_or old) (sym (or_zero_r m))
none-case (Some q) old m code e z = absurd (omega (arith, e, z))

pub row-some : (row : Row) (old code : ℕ) → code ≡ code_of row.unmarked → code ≢ 0 → bit_or (bit_or old row.marked) (2 ^ (code - 1)) ≡ bit_or old (reached_of row)
row-some row old code e ne = some-case row.unmarked old row.marked code e ne

pub row-none : (row : Row) (old code : ℕ) → code ≡ code_of row.unmarked → code ≡ 0 → bit_or old row.marked ≡ bit_or old (reached_of row)
row-none row old code e z = none-case row.unmarked old row.marked code e z

-- ---- taken rows
or-kept : (a b c : ℕ) → bit_or a c ≡ a → bit_or (bit_or a b) c ≡ bit_or a b
or-kept a b c e = or_assoc a b c ∙ or_swap a b c ∙ ap (bit_or b) e ∙ or_comm b a

-- the set has what the taken rows reach
abbrev pub AreTaken : List Row → ℕ → ℕ → Type 0
AreTaken rows taken set = (k : ℕ) → member taken k ≡ true → bit_or set (reached_of (row_at rows k)) ≡ set

or-false : (b : Bool) → (b || false) ≡ b
or-false true = refl
or-false false = refl

pub taken-more : (rows : List Row) (taken old row : ℕ) → AreTaken rows taken old → AreTaken rows (bit_or taken (2 ^ row)) (bit_or old (reached_of (row_at rows row)))
taken-more rows taken old row are = λ k h. elim (cases_eq k row) [
  | inl e ↦
      let r = reached_of (row_at rows row) in
      ap (λ n. bit_or (bit_or old r) (reached_of (row_at rows n))) e ∙ or_assoc old r r ∙ ap (bit_or old) (or_self r)
  | inr ne ↦ or-kept old (reached_of (row_at rows row)) (reached_of (row_at rows k)) (are k (sym (member-or taken (2 ^ row) k ∙ ap (λ b. member taken k || b) (member-single_other row k ne) ∙ or-false (member taken k)) ∙ h))
]

-- no row is taken
pub none-taken : (rows : List Row) (taken set : ℕ) → taken ≡ 0 → AreTaken rows taken set
none-taken rows taken set e = λ k h. not-both (member taken k) h (ap (λ s. member s k) e ∙ member-zero k)

pub collecting-more : (cs : List ℕ) (list : RowList) (ws vs taken more : List ℕ) (row : ℕ) → IsCollecting cs list ws taken → length vs ≡ length ws
    → number_of_words vs ≡ bit_or (number_of_words ws) (reached_of (row_at list.rows row)) → length more ≡ length taken
    → number_of_words more ≡ bit_or (number_of_words taken) (2 ^ row) → IsCollecting cs list vs more
collecting-more cs list ws vs taken more row is long value marks added = record {
  room = record {
    states = is.room.states;
    width = long ∙ is.room.width;
    marks = marks ∙ is.room.marks;
  };
  has_taken = rw (value, added) (taken-more list.rows (number_of_words taken) (number_of_words ws) row is.has_taken);
}

-- the row of a state
pub state-row : (cs : List ℕ) (rows : List Row) (q : ℕ) → q < length cs → row_at (table_of cs rows) q ≡ row_at rows (get_or cs q 0)
state-row [] rows q lt = absurd (omega (arith, lt))
state-row (k ∷ cs) rows zero lt = refl
state-row (k ∷ cs) rows (suc q) lt = state-row cs rows q (omega (arith, lt))

-- ---- the states of a word
bit-none : (set q : ℕ) → bit_at set q ≡ 0 → member set q ≡ false
unfolding member
bit-none set q e = rw e refl

bit-same : (s t q : ℕ) → bit_at s q ≡ bit_at t q → member s q ≡ member t q
unfolding member
bit-same s t q e = rw e refl

-- one more state
pub bit-step : (all word rest first b : ℕ) (t : List Row) → first + b < length t → bit_at word b ≡ 1 → bit_at rest b ≡ 0 → ((i : ℕ) → i ≢ b → bit_at rest i ≡ bit_at word i)
    → bit_or (bit_or all (reached_of (row_at t (first + b)))) (reach rest 0 (drop first t)) ≡ bit_or all (reach word 0 (drop first t))
bit-step all word rest first b t lt is gone others =
    let row : row_at (drop first t) b ≡ row_at t (first + b) = get_or-drop first t b no_row in
    let within : b < length (drop first t) = omega (arith, lt, length-drop first t) in
    or_assoc all (reached_of (row_at t (first + b))) (reach rest 0 (drop first t))
    ∙ ap (λ r. bit_or all (bit_or (reached_of r) (reach rest 0 (drop first t)))) (sym row)
    ∙ ap (bit_or all) (sym (reach-take word rest 0 b b (drop first t) (omega arith) within (member-bit word b is) (bit-none rest b gone) (λ i ne. bit-same rest word i (others i ne))))

pub length-table : (cs : List ℕ) (rows : List Row) → length (table_of cs rows) ≡ length cs
length-table cs rows = length-map cs (row_at rows)

-- ---- words of a set
-- the same members, numbered from elsewhere
reach-shift : (s t k j : ℕ) (rows : List Row) → ((i : ℕ) → member s (k + i) ≡ member t (j + i)) → reach s k rows ≡ reach t j rows
reach-shift s t k j [] e = refl
reach-shift s t k j (row ∷ rows) e =
    let first : member s k ≡ member t j = ap (member s) (sym (add-zero k)) ∙ e 0 ∙ ap (member t) (add-zero j) in
    let here : bit_or (if member s k then reached_of row else 0) (reach s (k + 1) rows) ≡ bit_or (if member t j then reached_of row else 0) (reach s (k + 1) rows) = ap (λ b. bit_or (if b then reached_of row else 0) (reach s (k + 1) rows)) first in
    let next : (i : ℕ) → member s (k + 1 + i) ≡ member t (j + 1 + i) = λ i.
    let left : k + 1 + i ≡ k + (i + 1) = omega arith in
    let right : j + (i + 1) ≡ j + 1 + i = omega arith in
    ap (member s) left ∙ e (i + 1) ∙ ap (member t) right in
    here ∙ ap (bit_or (if member t j then reached_of row else 0)) (reach-shift s t (k + 1) (j + 1) rows next)

member-low : (n w i : ℕ) → i < 64 → member (n * 2 ^ 64 + w) i ≡ member w i
unfolding member
member-low n w i lt = ap (λ b. b == 1) (bit_at_cat_low n 64 w i lt)

member-high : (n w i : ℕ) → w < 2 ^ 64 → member (n * 2 ^ 64 + w) (64 + i) ≡ member n (0 + i)
unfolding member
member-high n w i lt =
    let index : 64 + i - 64 ≡ 0 + i = omega arith in
    ap (λ b. b == 1) (bit_at_cat_high n 64 w (64 + i) lt (omega arith) ∙ ap (bit_at n) index)

member-above : (w i : ℕ) → w < 2 ^ 64 → 64 ≤ i → member w i ≡ member 0 i
unfolding member
member-above w i lt le = ap (λ b. b == 1) (bit_at_above w 64 i lt le ∙ sym (bit_at-zero i))

-- the first word, and then the others
split-from : (n w k : ℕ) (rows : List Row) → w < 2 ^ 64 → k ≤ 64 → reach (n * 2 ^ 64 + w) k rows ≡ bit_or (reach w k rows) (reach n 0 (drop (64 - k) rows))
split-from n w k [] lw le = sym (ap (λ rs. bit_or 0 (reach n 0 rs)) (drop_all (64 - k) [] (omega arith)) ∙ or_zero_r 0)
split-from n w k (row ∷ rows) lw le = elim (cases_lt k 64) [
  | inl lt ↦
      let less : 64 - k ≡ suc (64 - (k + 1)) = omega (arith, lt) in
      let mine : ℕ = if member w k then reached_of row else 0 in
      ap (λ b. bit_or (if b then reached_of row else 0) (reach (n * 2 ^ 64 + w) (k + 1) rows)) (member-low n w k lt)
      ∙ ap (bit_or (if member w k then reached_of row else 0)) (split-from n w (k + 1) rows lw (omega (arith, lt)))
      ∙ sym (or_assoc (if member w k then reached_of row else 0) (reach w (k + 1) rows) (reach n 0 (drop (64 - (k + 1)) rows)))
      ∙ ap (λ m. bit_or (reach w k (row ∷ rows)) (reach n 0 (drop m (row ∷ rows)))) (sym less)
  | inr ge ↦
      let at : k ≡ 64 = omega (arith, le, ge) in
      let none : reach w 64 (row ∷ rows) ≡ 0 = reach-same w 0 64 (row ∷ rows) (λ i h. member-above w i lw h) ∙ reach-none 64 (row ∷ rows) in
      let moved : reach (n * 2 ^ 64 + w) 64 (row ∷ rows) ≡ reach n 0 (row ∷ rows) = reach-shift (n * 2 ^ 64 + w) n 64 0 (row ∷ rows) (λ i. member-high n w i lw) in
      rw at (moved ∙ sym (ap (λ m. bit_or m (reach n 0 (row ∷ rows))) none ∙ (or_comm 0 (reach n 0 (row ∷ rows)) ∙ or_zero_r (reach n 0 (row ∷ rows)))))
]

-- one more word
pub word-step : (all i : ℕ) (ws : List ℕ) (t : List Row) → i < length ws → AreWords ws
    → bit_or (bit_or all (reach (get_or ws i 0) 0 (drop (i * 64) t))) (reach (number_of_words (drop (i + 1) ws)) 0 (drop ((i + 1) * 64) t))
    ≡ bit_or all (reach (number_of_words (drop i ws)) 0 (drop (i * 64) t))
word-step all i ws t lt are =
    let w = get_or ws i 0 in
    let n = number_of_words (drop (i + 1) ws) in
    let index : i * 64 + 64 ≡ (i + 1) * 64 = omega arith in
    let rest : drop 64 (drop (i * 64) t) ≡ drop ((i + 1) * 64) t = drop-drop 64 (i * 64) t ∙ ap (λ m. drop m t) index in
    or_assoc all (reach (get_or ws i 0) 0 (drop (i * 64) t)) (reach (number_of_words (drop (i + 1) ws)) 0 (drop ((i + 1) * 64) t))
    ∙ ap (λ rs. bit_or all (bit_or (reach (get_or ws i 0) 0 (drop (i * 64) t)) (reach (number_of_words (drop (i + 1) ws)) 0 rs))) (sym rest)
    ∙ ap (bit_or all) (sym (split-from n w 0 (drop (i * 64) t) (are i) (omega arith)))
    ∙ ap (λ x. bit_or all (reach (number_of_words x) 0 (drop (i * 64) t))) (sym (drop_more ws i 0 lt))

pub word-end : (all i : ℕ) (ws : List ℕ) (rows : List Row) → length ws ≤ i → bit_or all (reach (number_of_words (drop i ws)) 0 rows) ≡ all
word-end all i ws rows le = ap (λ x. bit_or all (reach (number_of_words x) 0 rows)) (drop_all i ws le) ∙ ap (bit_or all) (reach-none 0 rows) ∙ or_zero_r all

-- a bit of a word is a member of the set
pub bit-of-word : (ws : List ℕ) (i b : ℕ) → AreWords ws → bit_at (get_or ws i 0) b ≡ 1 → member (number_of_words ws) (i * 64 + b) ≡ true
bit-of-word ws i b are h = elim (cases_lt b 64) [
  | inl lt ↦
      let word : (i * 64 + b) / 64 ≡ i = omega (arith, lt) in
      let index : (i * 64 + b) % 64 ≡ b = omega (arith, lt) in
      member-words ws (i * 64 + b) are ∙ ap (λ k. bit_at (get_or ws k 0) ((i * 64 + b) % 64) == 1) word ∙ ap (λ k. bit_at (get_or ws i 0) k == 1) index ∙ ap (λ k. k == 1) h
  | inr ge ↦ absurd (omega (arith, h, bit_at_above (get_or ws i 0) 64 b (are i) ge))
]

-- ---- a row of the left text
pub step-some : (code : ℕ) → code ≢ 0 → step_of code ≡ Some (code - 1)
step-some zero ne = absurd (ne refl)
step-some (suc q) ne = ap Some (omega arith)
