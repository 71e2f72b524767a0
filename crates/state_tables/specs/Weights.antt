-- Sums over the states, or over the words of a set, in which each one has a weight of its own.
use Rattle.std.specs.Prelude.{ℕ, suc, ◌+◌, ◌*◌, ◌^◌, List, [], ◌∷◌}

-- the weight of state p, or of word p: a power of a number without a pattern, which is 5 modulo 8
unfoldable pub weight_of : ℕ → ℕ
weight_of p = 0xd134_2543_de82_ef95 ^ p

-- the sum from p on of the weight of each times the number of what it has
abbrev pub weighted : {A : Type 0} → (A → ℕ) → ℕ → List A → ℕ
weighted f p [] = 0
weighted f p (x ∷ xs) = weight_of p * f x + weighted f (suc p) xs
