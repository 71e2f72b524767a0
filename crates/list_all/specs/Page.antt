-- A page of the answers of an automaton.
use Rattle.std.specs.Prelude.{ℕ, Bool, List, None}
use Rattle.span_types.specs.Answers.{IsPage}
use Rattle.marker_dfa.specs.Deterministic.{DeterministicAutomaton}
use Rattle.span_enum.specs.Members.{Tuple, AreAnswersOf}

-- what contracts see of a page: its tuples, and whether there are more
pub record Page : Type 0 where
  pub tuples : List Tuple
  pub more : Bool

-- the automaton's answers on the text make a list, of which these are the first n, with whether there are more
pub record IsPageOf (a : DeterministicAutomaton) (s : List ℕ) (n : ℕ) (p : Page) : Type 0 where
  pub all : List Tuple
  pub answers : AreAnswersOf a s all
  pub page : IsPage all None n p.tuples p.more
