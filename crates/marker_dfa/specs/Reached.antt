-- Sets of states, which of them are reached by any steps, and how many those are.
use Rattle.std.specs.Prelude.{◌≡◌, ℕ, ◌<◌, ◌↔◌, Bool, true, false, List, length, Some, slice_get, slice_index_or, slice_set, replicate}

-- one truth value for each state
abbrev pub Subset : Type 0
Subset = List Bool

-- the set has this state
abbrev pub IsIn : Subset → ℕ → Type 0
IsIn x o = slice_index_or x o false ≡ true

-- of n states one alone
abbrev pub single : ℕ → ℕ → Subset
single n o = slice_set (replicate n false) o true

-- the start alone
abbrev pub start_set : ℕ → Subset
start_set n = single n 0

-- Move: of n states those to which a mark and a byte lead from those of x
pub record IsMove (n : ℕ) (Step : ℕ → ℕ → ℕ → ℕ → Type 0) (x : Subset) (m b : ℕ) (y : Subset) : Type 0 where
  pub size : length y ≡ n
  pub members : (p : ℕ) → IsIn y p ↔ (o : ℕ) × IsIn x o × Step o m b p

-- the reached sets: the start alone, and every move of a reached set that isn't empty
pub data IsReached (n : ℕ) (Step : ℕ → ℕ → ℕ → ℕ → Type 0) : Subset → Type 0 where
  start : IsReached n Step (start_set n)
  next : (x y : Subset) (m b p : ℕ) → IsReached n Step x → IsMove n Step x m b y → IsIn y p → IsReached n Step y

-- reached sets, none of them twice
pub record AreReached (n : ℕ) (Step : ℕ → ℕ → ℕ → ℕ → Type 0) (subsets : List Subset) : Type 0 where
  pub apart : (q r : ℕ) (x : Subset) → slice_get subsets q ≡ Some x → slice_get subsets r ≡ Some x → q ≡ r
  pub reached : (q : ℕ) (x : Subset) → slice_get subsets q ≡ Some x → IsReached n Step x

-- Count is above a limit: there are more reached sets
pub record CountIsAbove (limit n : ℕ) (Step : ℕ → ℕ → ℕ → ℕ → Type 0) : Type 0 where
  pub subsets : List Subset
  pub many : limit < length subsets
  pub sets : AreReached n Step subsets
