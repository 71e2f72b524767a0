-- Which states are in the set that some words stand for.
use Rattle.std.proofs.Common.{suc, ◌≡◌, ℕ, ◌-◌, ◌/◌, ◌%◌, ◌==◌, inl, inr, List, [], ◌∷◌, get_or, ap, sym, ◌∙◌, arith}
use Rattle.std.specs.Int.{bit_at}
use Rattle.std.proofs.lemmas.Bool.{cases_lt}
use Rattle.std.proofs.lemmas.Nat.Bits.{bit_at-zero, bit_at_cat_low, bit_at_cat_high}
use Rattle.state_tables.specs.StateSet.{AreWords, member, number_of_words}

-- a bit of the number is a bit of one word
pub bit-words : (ws : List ℕ) (q : ℕ) → AreWords ws → bit_at (number_of_words ws) q ≡ bit_at (get_or ws (q / 64) 0) (q % 64)
bit-words [] q are = bit_at-zero q ∙ sym (bit_at-zero (q % 64))
bit-words (w ∷ ws) q are = elim (cases_lt q 64) [
  | inl lt ↦
      let word : q / 64 ≡ 0 = omega (arith, lt) in
      let index : q % 64 ≡ q = omega (arith, lt) in
      bit_at_cat_low (number_of_words ws) 64 w q lt
      ∙ sym (ap (λ k. bit_at (get_or (w ∷ ws) k 0) (q % 64)) word ∙ ap (bit_at w) index)
  | inr ge ↦
      let word : q / 64 ≡ suc ((q - 64) / 64) = omega (arith, ge) in
      let index : q % 64 ≡ (q - 64) % 64 = omega (arith, ge) in
      bit_at_cat_high (number_of_words ws) 64 w q (are 0) ge
      ∙ bit-words ws (q - 64) (λ i. are (suc i))
      ∙ sym (ap (λ k. bit_at (get_or (w ∷ ws) k 0) (q % 64)) word ∙ ap (bit_at (get_or ws ((q - 64) / 64) 0)) index)
]

-- whether a state is in it
pub member-words : (ws : List ℕ) (q : ℕ) → AreWords ws → member (number_of_words ws) q ≡ (bit_at (get_or ws (q / 64) 0) (q % 64) == 1)
unfolding member
member-words ws q are = ap (λ b. b == 1) (bit-words ws q are)
