use Rattle.std.proofs.Common.{◌++◌, [], ◌∷◌, sym, ap, ◌∙◌, arith, append_assoc, length-append}
use Rattle.slp_model.specs.Tree.{text, height}
use Rattle.slp_model.specs.Nodes.{tree}
use Rattle.range_read.specs.Waiting.{trail_text}
use Rattle.range_read.proofs.TrailLemmas.{trail_text-push, IsTrail-push}
use Rattle.range_read.proofs.first_byte.Goals as goal

pub down-preserved : goal.down-preserved
down-preserved c =
    let nodes = c.args.store.now in
    let items = c.down.trail.items in
    let left = c.in-Pair.left in
    let right = c.in-Pair.right in
    let fork = c.in-Pair.ensures.tree.0 in
    let low = ap height fork in
    let size = length-append items (right ∷ []) in
    let longer = c.push_reserved.ensures.items in
    record {
      live = omega (arith, c.down.invariant.live, c.in-Pair.ensures.tree.1);
      room = rw (longer, c.push_reserved.ensures.capacity) (omega (arith, c.down.invariant.room, low, size));
      trail = rw (longer, c.push_reserved.ensures.capacity) (IsTrail-push nodes _ items right c.down.invariant.trail
          (omega (arith, c.down.invariant.live, c.in-Pair.ensures.tree.2)) (omega (arith, c.down.invariant.room, low)));
      is = c.down.invariant.is
          ∙ ap (λ t. text t ++ trail_text nodes items) fork
          ∙ append_assoc (text (tree nodes left.index)) (text (tree nodes right.index)) (trail_text nodes items)
          ∙ ap (λ l. text (tree nodes left.index) ++ l) (sym (trail_text-push nodes items right) ∙ ap (λ ids. trail_text nodes ids) (sym longer));
    }
