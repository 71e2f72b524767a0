-- How many answers there are.
use Rattle.std.specs.Prelude.{◌≡◌, ℕ, ◌+◌, ◌*◌, ◌<◌, ◌≤◌, List, [], ◌∷◌, length, Option, IfSome}
use Rattle.slp_model.specs.declared.Node.{Node}
use Rattle.slp_model.specs.declared.NodeId.{NodeId}
use Rattle.marker_dfa.specs.Deterministic.{DeterministicAutomaton, states_of, ends_of}
use Rattle.span_enum.specs.Members.{Tuple, AreAnswersOf}
use Rattle.path_counts.specs.declared.count.Count.{Count}
use Rattle.path_counts.specs.Paths.{stopped}
use Rattle.count_tables.specs.Dictionary.{CountDictionary, AreCountTables, count_of}

-- Number: how many answers there are, as it is kept
pub record IsNumber (a : DeterministicAutomaton) (s : List ℕ) (n : ℕ) : Type 0 where
  pub answers : List Tuple
  pub all : AreAnswersOf a s answers
  pub number : n ≡ stopped (length answers)

-- how many marks may end a text in the state
abbrev pub endings : DeterministicAutomaton → ℕ → ℕ
endings a q = length (ends_of a q)

-- each number times what f says of its state
abbrev pub weighted : (ℕ → ℕ) → List Count → ℕ
weighted f [] = 0
weighted f (c ∷ cs) = c.number * f c.state + weighted f cs

-- the tables are those of the automaton, and the root's nodes have theirs
pub record IsCounted (a : DeterministicAutomaton) (nodes : List Node) (d : CountDictionary) (root : Option NodeId) : Type 0 where
  pub states : d.states ≡ states_of a
  pub tables : AreCountTables a nodes d
  pub covered : count_of d ≤ length nodes
  pub live : IfSome root (λ id. id.index < count_of d)
