-- A set of bytes as four words of 64 bits: byte b is bit b % 64 of word b / 64.
use Rattle.std.specs.Prelude.{◌≡◌, ℕ, ◌+◌, ◌*◌, ◌/◌, ◌%◌, ◌^◌, ◌<◌, ◌==◌, Bool, List, [], ◌∷◌, length, map, take, drop, slice_index, if◌then◌else◌}
use Rattle.std.specs.Int.{bit_at}
use Rattle.std.specs.List.{range_with_len}

-- four words of 64 bits
pub record AreWords (ws : List ℕ) : Type 0 where
  pub size : length ws ≡ 4
  pub below : (k : ℕ) → slice_index ws k < 2 ^ 64

abbrev pub has_byte : List ℕ → ℕ → Bool
has_byte ws b = bit_at (slice_index ws (b / 64)) (b % 64) == 1

-- whether each byte is a member
unfoldable pub members : List ℕ → List Bool
members ws = map (has_byte ws) (range_with_len 0 256)

-- the number with these bits, the lowest first
abbrev pub number_of : List Bool → ℕ
number_of [] = 0
number_of (b ∷ bs) = (if b then 1 else 0) + 2 * number_of bs

-- word k of the set with these members
abbrev pub word_of : List Bool → ℕ → ℕ
word_of ms k = number_of (take 64 (drop (64 * k) ms))

unfoldable pub words_of : List Bool → List ℕ
words_of ms = map (word_of ms) (range_with_len 0 4)
