-- Edges in bundles: those with one mark, one target and the same letters, as one.
use Rattle.std.specs.Prelude.{ℕ, List, [], ◌∷◌, ◌++◌, map}
use Rattle.marker_nfa.specs.declared.nfa.Edge.{Edge}
use Rattle.marker_dfa.specs.declared.bundles.Bundle.{Bundle}

-- the states that the edges of a bundle leave
abbrev pub sources_of : Bundle → List ℕ
sources_of w = w.first ∷ w.others.items

-- the edge of a bundle from a state
abbrev pub edge_from : Bundle → ℕ → Edge
edge_from w o = record { from = o; mark = w.mark; letters = w.letters; to = w.to }

-- the edges of bundles
abbrev pub edges_in : List Bundle → List Edge
edges_in [] = []
edges_in (w ∷ bundles) = map (edge_from w) (sources_of w) ++ edges_in bundles
