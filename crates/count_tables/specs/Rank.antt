-- How many answers come before a tuple.
use Rattle.std.specs.Prelude.{◌≡◌, ℕ, List, ◌++◌, length, Contains}
use Rattle.span_types.specs.Marks.{Comes}
use Rattle.marker_dfa.specs.Deterministic.{DeterministicAutomaton}
use Rattle.span_enum.specs.Members.{Tuple, AreAnswersOf}
use Rattle.path_counts.specs.Paths.{stopped}

-- n of the tuples, which are in mark order, come before t
pub record CountsBefore (all : List Tuple) (t : Tuple) (n : ℕ) : Type 0 where
  pub prefix : List Tuple
  pub rest : List Tuple
  pub cut : all ≡ prefix ++ rest
  pub number : n ≡ length prefix
  pub before : (u : Tuple) → Contains prefix u → Comes u t
  pub others : (u : Tuple) → Contains rest u → Comes u t → ⊥

-- Rank: how many answers come before the tuple, as it is kept
pub record IsRank (a : DeterministicAutomaton) (s : List ℕ) (t : Tuple) (n : ℕ) : Type 0 where
  pub answers : List Tuple
  pub all : AreAnswersOf a s answers
  pub rank : ℕ
  pub counts : CountsBefore answers t rank
  pub number : n ≡ stopped rank
