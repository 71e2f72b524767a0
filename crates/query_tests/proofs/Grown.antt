-- Tables where nodes were added.
use Rattle.std.proofs.Common.{ℕ, ◌≤◌, List, length, sym, subst, arith}
use Rattle.slp_model.specs.declared.Node.{Node}
use Rattle.slp_model.specs.Tree.{Tree, text}
use Rattle.slp_model.specs.Nodes.{Grows}
use Rattle.slp_model.proofs.NodesLemmas.{tree-grows}
use Rattle.marker_dfa.specs.Deterministic.{DeterministicAutomaton}
use Rattle.state_tables.specs.Dictionary.{Dictionary, AreTables, count_of, table_of}
use Rattle.state_tables.specs.Meaning.{IsTable}

pub tables-grow : (a : DeterministicAutomaton) (old new : List Node) (p q : ℕ) (d : Dictionary) → Grows old new p q → count_of d ≤ length old → AreTables a old d → AreTables a new d
tables-grow a old new p q d grows le h id lt =
    subst (λ (t : Tree). IsTable a (text t) (table_of d id)) (sym (tree-grows old new p q grows id (omega (arith, lt, le)))) (h id lt)
