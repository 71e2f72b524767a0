-- One letter, and an automaton of one variable with its tables.
use Rattle.std.specs.Prelude.{◌≡◌, List, length, Some}
use Rattle.slp_model.specs.declared.Node.{Node}
use Rattle.marker_dfa.specs.Deterministic.{DeterministicAutomaton}
use Rattle.state_tables.specs.Dictionary.{Dictionary, count_of}
use Rattle.span_enum.specs.Listing.{IsReady}

-- the tables are those of the automaton, which has one variable, for each node; the first node is tested
pub record IsOneLetter (a : DeterministicAutomaton) (nodes : List Node) (d : Dictionary) : Type 0 where
  pub one : a.variables ≡ 1
  pub all : count_of d ≡ length nodes
  pub ready : IsReady a nodes d (Some (record { index = 0 }))
