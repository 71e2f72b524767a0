-- How far runs follow the marks of a tuple.
use Rattle.std.specs.Prelude.{◌≡◌, ℕ, ◌+◌, ◌*◌, true, List, [], ◌∷◌, ◌++◌, length, Some}
use Rattle.marker_dfa.specs.Deterministic.{DeterministicAutomaton}
use Rattle.state_tables.specs.StateSet.{member}
use Rattle.span_enum.specs.Members.{Tuple}
use Rattle.span_enum.specs.Letters.{reached}
use Rattle.span_enum.specs.Tuples.{word_over}
use Rattle.span_enum.specs.Words.{CanRun}
use Rattle.span_enum.specs.declared.agreement.Agreement.{Agreement}
use Rattle.span_enum.specs.declared.agreement.Agreement.TheVariants.{Whole, Until}

-- a run over s from p into a goal follows the tuple's marks before the letter at this position, and none follows them over it
pub record AgreesUntil (a : DeterministicAutomaton) (p : ℕ) (t : Tuple) (at : ℕ) (s : List ℕ) (goals position : ℕ) : Type 0 where
  pub prefix : List ℕ
  pub letter : ℕ
  pub back : List ℕ
  pub parts : s ≡ prefix ++ letter ∷ back
  pub position_is : position ≡ at + length prefix
  pub state : ℕ
  pub follows : reached a p (word_over t at prefix) ≡ Some state
  pub can : CanRun a state (letter ∷ back) goals
  pub none : (q : ℕ) → reached a p (word_over t at (prefix ++ letter ∷ [])) ≡ Some q → CanRun a q back goals → ⊥

-- it follows them over the whole text, or up to a letter
abbrev pub IsAgreement : DeterministicAutomaton → ℕ → Tuple → ℕ → List ℕ → ℕ → Agreement → Type 0
IsAgreement a p t at s goals (Whole q) = (reached a p (word_over t at s) ≡ Some q) × (member goals q ≡ true)
IsAgreement a p t at s goals (Until position) = AgreesUntil a p t at s goals position

-- the table lookups on the path down to the letter, in a tree of height h
abbrev pub path_lookups : Agreement → ℕ → ℕ
path_lookups (Whole q) h = 0
path_lookups (Until position) h = 2 * h
