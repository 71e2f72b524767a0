-- The fields of `AheadList` as contracts see them.
use Rattle.std.specs.Prelude.{◌≡◌, ℕ, List, [], ◌∷◌, ◌≤◌, Option, Some, None, length, min}
use Rattle.span_enum.specs.AheadList.{NodesAhead}
use Rattle.span_enum.specs.declared.ahead.AheadNode.{AheadNode}
use Rattle.span_enum.specs.declared.ahead.AheadList.TheInside.{Inside}
use Rattle.span_enum.specs.declared.sets.Between.{Between}
use Rattle.span_enum.specs.declared.trail.Ahead.{Ahead}

-- a node with its sets
abbrev pub with_sets : {words : ℕ} → Option AheadNode → Between words → Option (Ahead words)
with_sets None sets = None
with_sets (Some node) sets = Some (record { id = node.id; look = node.look; at = node.at; goals = sets.goals; quiet = sets.quiet; next = node.next })

abbrev pub joined : {words : ℕ} → List (Option AheadNode) → List (Between words) → List (Option (Ahead words))
joined [] sets = []
joined (o ∷ nodes) [] = []
joined (o ∷ nodes) (s ∷ sets) = with_sets o s ∷ joined nodes sets

abbrev pub view_of : {words : ℕ} → Inside words → NodesAhead words
view_of l = record { items = joined l.nodes.items l.sets.items; capacity = min l.nodes.capacity l.sets.capacity }

-- the lists are as long as each other
pub record IsPaired {words : ℕ} (l : Inside words) : Type 0 where
  pub same : length l.nodes.items ≡ length l.sets.items
  pub narrow : words ≤ 16
