-- What a contract sees of `Answers`.
use Rattle.std.specs.Prelude.{◌≡◌, ℕ, List, length, Option, IfSome}
use Rattle.slp_model.specs.declared.Node.{Node}
use Rattle.slp_model.specs.declared.NodeId.{NodeId}
use Rattle.slp_model.specs.Nodes.{IsLive}
use Rattle.marker_dfa.specs.Deterministic.{DeterministicAutomaton}
use Rattle.state_tables.specs.Dictionary.{Dictionary, AreTables}
use Rattle.span_enum.specs.Members.{Tuple}

-- the automaton, the text, and the last answer given, else the tuple of `seek`, else none
pub record Listing : Type 0 where
  pub automaton : DeterministicAutomaton
  pub text : List ℕ
  pub after : Option Tuple

-- the tables are those of the automaton, and the root is there
pub record IsReady (a : DeterministicAutomaton) (nodes : List Node) (d : Dictionary) (root : Option NodeId) : Type 0 where
  pub tables : AreTables a nodes d
  pub live : IsLive nodes root

-- the cursor, if there is one, has the automaton's variables
abbrev pub IsCursor : DeterministicAutomaton → Option Tuple → Type 0
IsCursor a cursor = IfSome cursor (λ t. length t ≡ a.variables)
