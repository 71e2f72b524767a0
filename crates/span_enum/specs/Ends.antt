-- What is accepted at the end of a text, and what is left there.
use Rattle.std.specs.Prelude.{◌≡◌, ℕ, ◌+◌, ◌<◌, false, List, length, Option, Some, None}
use Rattle.span_types.specs.Marks.{Lies}
use Rattle.span_types.specs.Words.{Marked, ended}
use Rattle.formula_law.specs.Law.{bytes_of}
use Rattle.marker_dfa.specs.Deterministic.{DeterministicAutomaton, states_of, and_then}
use Rattle.state_tables.specs.StateSet.{member}
use Rattle.span_enum.specs.Letters.{step_of, reached}
use Rattle.span_enum.specs.Members.{Tuple}
use Rattle.span_enum.specs.Sets.{is_final}
use Rattle.span_enum.specs.Tuples.{IsTupleOf, reaches, end_mark, word_of}
use Rattle.span_enum.specs.Words.{CanRun, IsFirst}
use Rattle.span_enum.specs.Next.{NoneAfter, IsNext}

-- the states in which a text may end
abbrev pub AreFinals : DeterministicAutomaton → ℕ → Type 0
AreFinals a finals = (p : ℕ) → p < states_of a → member finals p ≡ is_final a p

-- the automaton accepts the text with some marks: the end leads to state 0, and 1 is the set of state 0 alone
abbrev pub Accepted : DeterministicAutomaton → List ℕ → Type 0
Accepted a s = CanRun a 0 (ended s) 1

-- the automaton accepts the text and its end with the marks of the tuple, which lies in the text
pub record AcceptsWord (a : DeterministicAutomaton) (s : List ℕ) (t : Tuple) : Type 0 where
  pub lies : Lies (length s) t
  pub ends : reached a 0 (word_of t s) ≡ Some 0

-- the text may end in the state with the tuple's mark at this position, and the tuple has no bound past it
pub record AcceptsEnd (a : DeterministicAutomaton) (state : Option ℕ) (t : Tuple) (end : ℕ) : Type 0 where
  pub lies : reaches (end + 1) t ≡ false
  pub ends : and_then state (λ q. step_of a q (end_mark t end) 256) ≡ Some 0

-- w is the word of a tuple of k variables that lies in the text
pub record IsWord (k : ℕ) (s : List ℕ) (w : Marked) : Type 0 where
  pub tuple : Tuple
  pub tuple_is : IsTupleOf k tuple
  pub lies : Lies (length s) tuple
  pub word_is : w ≡ word_of tuple s

-- each word over the text and its end that the automaton accepts is that of a tuple of its variables
abbrev pub Wellmarked : DeterministicAutomaton → List ℕ → Type 0
Wellmarked a s = (w : Marked) (q : ℕ) → bytes_of w ≡ ended s → reached a 0 w ≡ Some q → IsWord a.variables s w

-- w is the first accepted word after that of the cursor, or the first of all
abbrev pub IsFirstLeft : DeterministicAutomaton → List ℕ → Option Tuple → Marked → Type 0
IsFirstLeft a s None w = IsFirst a 0 (ended s) 1 w 0
IsFirstLeft a s (Some t) w = IsNext a 0 (ended s) 1 (word_of t s) w 0

-- no accepted word is left
abbrev pub NoneLeft : DeterministicAutomaton → List ℕ → Option Tuple → Type 0
NoneLeft a s None = Accepted a s → ⊥
NoneLeft a s (Some t) = NoneAfter a 0 (ended s) 1 (word_of t s)

-- u is the tuple of the first accepted word that is left
pub record Gives (a : DeterministicAutomaton) (s : List ℕ) (cursor : Option Tuple) (u : Tuple) : Type 0 where
  pub tuple : IsTupleOf a.variables u
  pub lies : Lies (length s) u
  pub first : IsFirstLeft a s cursor (word_of u s)
