use Rattle.std.proofs.Common.{◌≡◌, ◌+◌, ◌<◌, ◌++◌, length, vec_capacity}
use Rattle.slp_model.specs.Tree.{text, height}
use Rattle.slp_model.specs.Nodes.{tree}
use Rattle.range_read.specs.Waiting.{IsTrail, trail_text}
use Rattle.range_read.proofs.first_byte.Given as goal

abbrev pub invariant-down : goal.invariant-down
invariant-down l = record {
  live : l.id.index < length l.store;
  room : height (tree l.store l.id.index) + length l.trail.items < vec_capacity l.trail;
  trail : IsTrail l.store (vec_capacity l.trail) l.trail.items;
  is : text (tree l.store l.fn.id.index) ++ trail_text l.store l.fn.trail.items ≡ text (tree l.store l.id.index) ++ trail_text l.store l.trail.items;
}

abbrev pub decreases-down : goal.decreases-down
decreases-down l = height (tree l.store l.id.index)
