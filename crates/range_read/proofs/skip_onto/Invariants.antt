use Rattle.std.proofs.Common.{◌≡◌, ◌+◌, ◌<◌, ◌++◌, length, drop, vec_capacity}
use Rattle.slp_model.specs.Tree.{text, height, leaves}
use Rattle.slp_model.specs.Nodes.{tree}
use Rattle.range_read.specs.Waiting.{IsTrail, trail_text}
use Rattle.range_read.proofs.skip_onto.Given as goal

abbrev pub invariant-down : goal.invariant-down
invariant-down l = record {
  live : l.id.index < length l.store;
  within : l.skip < leaves (tree l.store l.id.index);
  room : height (tree l.store l.id.index) + length l.trail.items < vec_capacity l.trail;
  trail : IsTrail l.store (vec_capacity l.trail) l.trail.items;
  is : drop l.fn.skip (text (tree l.store l.fn.root.index)) ≡ drop l.skip (text (tree l.store l.id.index)) ++ trail_text l.store l.trail.items;
}

abbrev pub decreases-down : goal.decreases-down
decreases-down l = height (tree l.store l.id.index)
