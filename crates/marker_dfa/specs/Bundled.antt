-- Automata with their edges in bundles.
use Rattle.std.specs.Prelude.{◌≡◌, ◌↔◌, Contains}
use Rattle.marker_nfa.specs.Automaton.{Automaton}
use Rattle.marker_nfa.specs.declared.nfa.Edge.{Edge}
use Rattle.marker_dfa.specs.Bundles.{edges_in}
use Rattle.marker_dfa.specs.declared.bundled.BundledNfa.{BundledNfa}

-- the automaton
abbrev pub automaton_in : BundledNfa → Automaton
automaton_in n = record { states = n.states; variables = n.variables; edges = edges_in n.bundles.items; ends = n.ends.items }

-- two automata have the same parts, but their edges may be in another order and several times there
pub record HaveSameParts (a b : Automaton) : Type 0 where
  pub states : a.states ≡ b.states
  pub variables : a.variables ≡ b.variables
  pub edges : (e : Edge) → Contains a.edges e ↔ Contains b.edges e
  pub ends : a.ends ≡ b.ends
