use Rattle.std.proofs.Common.{◌≡◌, []}
use Rattle.marker_nfa.specs.declared.nfa.Edge.{Edge}
use Rattle.marker_nfa.specs.Parts.{Adds}
use Rattle.marker_nfa.proofs.Adding.{EachBefore}
use Rattle.marker_dfa.proofs.bundled.edges_of.Given as goal

abbrev pub invariant-loop-edge : goal.invariant-loop-edge
invariant-loop-edge l = record {
  items : l.edge-items ≡ l.nfa.edges;
  added : Adds [] l.edges (EachBefore (λ (y x : Edge). x ≡ y) l.edge-items l.edge-index);
}
