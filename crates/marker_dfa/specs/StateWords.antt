-- A set of states as words of 64 bits: state q is bit q % 64 of word q / 64.
use Rattle.std.specs.Prelude.{◌≡◌, ℕ, ◌+◌, ◌/◌, ◌%◌, ◌^◌, ◌<◌, ◌≤◌, ◌==◌, Bool, false, List, Option, Some, None, length, map, slice_index}
use Rattle.std.specs.Int.{bit_at}
use Rattle.std.specs.List.{range_with_len}
use Rattle.marker_dfa.specs.Reached.{IsIn, Subset}

-- whether a state is a member
abbrev pub has_state : List ℕ → ℕ → Bool
has_state ws q = bit_at (slice_index ws (q / 64)) (q % 64) == 1

-- whether each of `states` states is a member
unfoldable pub members : ℕ → List ℕ → List Bool
members states ws = map (has_state ws) (range_with_len 0 states)

-- words of 64 bits, in which only the bits of `states` states are set
pub record AreWords (states : ℕ) (ws : List ℕ) : Type 0 where
  pub size : length ws ≡ states / 64 + 1
  pub below : (k : ℕ) → slice_index ws k < 2 ^ 64
  pub clear : (q : ℕ) → states ≤ q → has_state ws q ≡ false

-- the least member of a set from state o on
pub record IsFirstFrom (x : Subset) (o q : ℕ) : Type 0 where
  pub from : o ≤ q
  pub within : q < length x
  pub member : IsIn x q
  pub first : (p : ℕ) → o ≤ p → p < q → IsIn x p → ⊥

-- the least member of a set from state o on, or None if there is none
abbrev pub IsNextMember : Subset → ℕ → Option ℕ → Type 0
IsNextMember x o None = (p : ℕ) → o ≤ p → IsIn x p → ⊥
IsNextMember x o (Some q) = IsFirstFrom x o q
