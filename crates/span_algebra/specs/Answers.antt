-- The answers of an operation's automaton, from those of its operands' automata.
use Rattle.std.specs.Prelude.{◌≡◌, ℕ, ◌<◌, ◌≤◌, ◌↔◌, ◌⊎◌, List, [], ◌∷◌, length, Option}
use Rattle.span_types.specs.declared.tuple.Span.{Span}
use Rattle.span_types.specs.Marks.{Lies}
use Rattle.span_types.specs.Rel.{Assignment, IsNamedAnswer, IsUnion, IsRestriction}
use Rattle.formula_law.specs.Accepts.{marked_text}
use Rattle.marker_dfa.specs.Deterministic.{DeterministicAutomaton, PathAccepts}

-- each is a byte
abbrev pub AreBytes : List ℕ → Type 0
AreBytes [] = Unit {0}
AreBytes (b ∷ s) = (b < 256) × AreBytes s

-- a text: at most 2^48 bytes
pub record IsText (s : List ℕ) : Type 0 where
  pub bytes : AreBytes s
  pub short : length s ≤ 281474976710656

-- AnswersOf: the tuple has the automaton's variables and lies in the text, and the automaton accepts its marked text
pub record IsAnswerOf (a : DeterministicAutomaton) (s : List ℕ) (t : List (Option Span)) : Type 0 where
  pub size : length t ≡ a.variables
  pub lies : Lies (length s) t
  pub accepted : PathAccepts a (marked_text s t)

-- the answers of an automaton, read by the names of its variables
abbrev pub AnswersBy : DeterministicAutomaton → List (List ℕ) → List ℕ → Assignment → Type 0
AnswersBy a names s r = IsNamedAnswer names (IsAnswerOf a s) r

-- on each text the automaton has the answers of either side
pub record GivesUnion (a : DeterministicAutomaton) (va : List (List ℕ)) (b : DeterministicAutomaton) (vb names : List (List ℕ)) (d : DeterministicAutomaton) : Type 0 where
  pub variables : d.variables ≡ length names
  pub answers : (s : List ℕ) (r : Assignment) → IsText s → AnswersBy d names s r ↔ AnswersBy a va s r ⊎ AnswersBy b vb s r

-- the same with the restrictions of the answers to a list of names
pub record GivesProjection (a : DeterministicAutomaton) (va keep : List (List ℕ)) (d : DeterministicAutomaton) : Type 0 where
  pub variables : d.variables ≡ length keep
  pub answers : (s : List ℕ) (r : Assignment) → IsText s → AnswersBy d keep s r ↔ IsRestriction keep (AnswersBy a va s) r

-- the same with the unions of an answer of each side that agree on every name of both
pub record GivesJoin (a : DeterministicAutomaton) (va : List (List ℕ)) (b : DeterministicAutomaton) (vb names : List (List ℕ)) (d : DeterministicAutomaton) : Type 0 where
  pub variables : d.variables ≡ length names
  pub answers : (s : List ℕ) (r : Assignment) → IsText s → AnswersBy d names s r ↔ IsUnion va vb (AnswersBy a va s) (AnswersBy b vb s) r
