-- What a set of states reaches, a member at a time, and what marks reach, a mark at a time.
use Rattle.std.proofs.Common.{zero, suc, ◌≡◌, ◌≢◌, ℕ, ◌+◌, ◌<◌, ◌≤◌, ◌==◌, true, false, refl, ap, sym, ◌∙◌, arith, bit_or, List, [], ◌∷◌, length, drop, get_or, add-one, drop-cons}
use Rattle.std.specs.Prelude.{if◌then◌else◌}
use Rattle.std.specs.Int.Bits.{or_zero_r}
use Rattle.std.proofs.lemmas.List.{drop_all}
use Rattle.marker_dfa.specs.Deterministic.{DeterministicAutomaton, next_of}
use Rattle.state_tables.specs.StateSet.{member, single_of}
use Rattle.state_tables.specs.Table.{Row, row_at, reach, reach_by_marks, reached_of}
use Rattle.state_tables.proofs.StateSets.{member-zero, or_assoc, or_swap}

-- sets that agree from k on
pub reach-same : (s t k : ℕ) (rows : List Row) → ((i : ℕ) → k ≤ i → member s i ≡ member t i) → reach s k rows ≡ reach t k rows
reach-same s t k [] e = refl
reach-same s t k (row ∷ rows) e =
    ap (λ b. bit_or (if b then reached_of row else 0) (reach s (k + 1) rows)) (e k (omega arith))
    ∙ ap (bit_or (if member t k then reached_of row else 0)) (reach-same s t (k + 1) rows (λ i h. e i (omega arith)))

-- one member, and then the others
pub reach-take : (s t k index q : ℕ) (rows : List Row) → k + index ≡ q → index < length rows → member s q ≡ true → member t q ≡ false
    → ((i : ℕ) → i ≢ q → member t i ≡ member s i) → reach s k rows ≡ bit_or (reached_of (row_at rows index)) (reach t k rows)
reach-take s t k index q [] at lt is gone others = absurd (omega arith)
reach-take s t k zero q (row ∷ rows) at lt is gone others =
    let here : k ≡ q = omega arith in
    let later : reach s (k + 1) rows ≡ reach t (k + 1) rows = reach-same s t (k + 1) rows (λ i h. sym (others i (omega arith))) in
    ap (λ b. bit_or (if b then reached_of row else 0) (reach s (k + 1) rows)) (ap (member s) here ∙ is)
    ∙ ap (bit_or (reached_of row)) later
    ∙ ap (λ b. bit_or (reached_of row) (bit_or (if b then reached_of row else 0) (reach t (k + 1) rows))) (sym (ap (member t) here ∙ gone))
reach-take s t k (suc index) q (row ∷ rows) at lt is gone others =
    let next : k + 1 + index ≡ q = omega arith in
    let apart : k ≢ q = omega arith in
    ap (bit_or (if member s k then reached_of row else 0)) (reach-take s t (k + 1) index q rows next (omega arith) is gone others)
    ∙ or_swap (if member s k then reached_of row else 0) (reached_of (row_at rows index)) (reach t (k + 1) rows)
    ∙ ap (λ b. bit_or (reached_of (row_at rows index)) (bit_or (if b then reached_of row else 0) (reach t (k + 1) rows))) (sym (others k apart))

-- the empty set reaches nothing
pub reach-none : (k : ℕ) (rows : List Row) → reach 0 k rows ≡ 0
reach-none k [] = refl
reach-none k (row ∷ rows) =
    ap (λ b. bit_or (if b then reached_of row else 0) (reach 0 (k + 1) rows)) (member-zero k) ∙ reach-none (k + 1) rows

-- one more mark
pub marks-step : (a : DeterministicAutomaton) (p b all i : ℕ) (ms : List ℕ) → i < length ms
    → bit_or (bit_or all (if get_or ms i 0 == 0 then 0 else single_of (next_of a p (get_or ms i 0) b))) (reach_by_marks a p b (drop (i + 1) ms))
    ≡ bit_or all (reach_by_marks a p b (drop i ms))
marks-step a p b all i ms h =
    let e : drop i ms ≡ get_or ms i 0 ∷ drop (i + 1) ms = rw (add-one, drop-cons ms i 0) refl in
    rw (e, or_assoc all (if get_or ms i 0 == 0 then 0 else single_of (next_of a p (get_or ms i 0) b)) (reach_by_marks a p b (drop (i + 1) ms))) refl

pub marks-end : (a : DeterministicAutomaton) (p b all i : ℕ) (ms : List ℕ) → length ms ≤ i → bit_or all (reach_by_marks a p b (drop i ms)) ≡ all
marks-end a p b all i ms h = rw (drop_all i ms h) (or_zero_r all)
