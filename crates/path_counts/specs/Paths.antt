-- The marked texts that lead from one state to another, and how many there are.
use Rattle.std.specs.Prelude.{◌≡◌, ℕ, ◌-◌, ◌^◌, ◌↔◌, true, min, List, length, Some, Contains, AllPairs}
use Rattle.span_types.specs.Words.{Marked, Precedes}
use Rattle.formula_law.specs.Law.{bytes_of}
use Rattle.marker_dfa.specs.Deterministic.{DeterministicAutomaton, next_of, path}
use Rattle.state_tables.specs.Meaning.{has_mark}

-- the greatest number that is kept
abbrev pub most : ℕ
most = 2 ^ 64 - 1

-- a number as it is kept: `most` stands for itself and for all greater ones
abbrev pub stopped : ℕ → ℕ
stopped n = min n most

-- w has the bytes of s and some mark other than 0, and leads from p to q
pub record IsMarkedPath (a : DeterministicAutomaton) (p : ℕ) (s : List ℕ) (q : ℕ) (w : Marked) : Type 0 where
  pub bytes : bytes_of w ≡ s
  pub mark : has_mark w ≡ true
  pub ends : path (next_of a) w p ≡ Some q

-- the list of exactly these marked texts, in mark order
pub record AreMarkedPaths (a : DeterministicAutomaton) (p : ℕ) (s : List ℕ) (q : ℕ) (ws : List Marked) : Type 0 where
  pub rising : AllPairs Precedes ws
  pub members : (w : Marked) → Contains ws w ↔ IsMarkedPath a p s q w

-- n is how many there are, as it is kept
pub record IsPathNumber (a : DeterministicAutomaton) (p : ℕ) (s : List ℕ) (q n : ℕ) : Type 0 where
  pub paths : List Marked
  pub all : AreMarkedPaths a p s q paths
  pub number : n ≡ stopped (length paths)
