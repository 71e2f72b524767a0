-- Sets of states in a fixed number of words.
use Rattle.std.proofs.Common.{zero, suc, ◌≡◌, ℕ, ◌+◌, ◌<◌, ◌/◌, ◌%◌, ◌*◌, ◌^◌, List, [], ◌∷◌, length, refl, ap, arith}
use Rattle.state_tables.specs.StateSet.{number_of_words, words_of, AreWords}

-- n words of 64 bits
pub record HasWords (n : ℕ) (ws : List ℕ) : Type 0 where
  pub size : length ws ≡ n
  pub below : AreWords ws

pub words_of-number : (n : ℕ) (ws : List ℕ) → HasWords n ws → words_of n (number_of_words ws) ≡ ws
words_of-number zero [] h = refl
words_of-number zero (w ∷ ws) h = absurd (omega (arith, h.size))
words_of-number (suc n) [] h = absurd (omega (arith, h.size))
words_of-number (suc n) (w ∷ ws) h =
    let low : w < 2 ^ 64 = h.below 0 in
    let rest = words_of-number n ws (record { size = omega (arith, h.size); below = λ i. h.below (suc i) }) in
    let first : (number_of_words ws * 2 ^ 64 + w) % 2 ^ 64 ≡ w = omega (arith, low) in
    let others : (number_of_words ws * 2 ^ 64 + w) / 2 ^ 64 ≡ number_of_words ws = omega (arith, low) in
    rw (first, others) (ap (λ x. w ∷ x) rest)
