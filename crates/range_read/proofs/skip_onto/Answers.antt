use Rattle.std.proofs.Common.{◌≡◌, ◌-◌, ◌++◌, [], ◌∷◌, drop, sym, ap, ◌∙◌, arith, append_assoc, length-append}
use Rattle.std.proofs.lemmas.List.{drop-append-le}
use Rattle.std.proofs.Math.Seq.{drop-append-add}
use Rattle.slp_model.specs.Tree.{text, height, leaves}
use Rattle.slp_model.specs.Nodes.{tree}
use Rattle.slp_model.proofs.TreeLemmas.{length-text}
use Rattle.range_read.specs.Waiting.{trail_text}
use Rattle.range_read.proofs.TrailLemmas.{high-from-leaves, trail_text-push, IsTrail-push}
use Rattle.range_read.proofs.skip_onto.Goals as goal

pub children-requires-clause-high : goal.children-requires-clause-high
children-requires-clause-high c = high-from-leaves (tree c.args.store.now c.down.id.index) (omega (arith, c.down.invariant.within, c.down-test.true))

pub down-preserved-then-skip-len : goal.down-preserved-then-skip-len
down-preserved-then-skip-len c =
    let nodes = c.args.store.now in
    let items = c.down.trail.items in
    let left = c.children.result.0 in
    let right = c.children.result.1 in
    let fork = c.children.ensures.tree in
    let low = ap height fork in
    let prefix = text (tree nodes left.index) in
    let back = text (tree nodes right.index) in
    let size = length-append items (right ∷ []) in
    let longer = c.push_reserved.ensures.items in
    let here = c.if-skip-len.true in
    record {
      live = omega (arith, c.down.invariant.live, c.children.ensures.left);
      within = omega (arith, here, c.len-len.ensures.len);
      room = rw (longer, c.push_reserved.ensures.capacity) (omega (arith, c.down.invariant.room, low, size));
      trail = rw (longer, c.push_reserved.ensures.capacity) (IsTrail-push nodes _ items right c.down.invariant.trail
          (omega (arith, c.down.invariant.live, c.children.ensures.right)) (omega (arith, c.down.invariant.room, low)));
      is = c.down.invariant.is
          ∙ ap (λ t. drop c.down.skip (text t) ++ trail_text nodes items) fork
          ∙ ap (λ l. l ++ trail_text nodes items) (drop-append-le c.down.skip prefix back (omega (arith, here, c.len-len.ensures.len, length-text (tree nodes left.index))))
          ∙ append_assoc (drop c.down.skip prefix) back (trail_text nodes items)
          ∙ ap (λ l. drop c.down.skip prefix ++ l) (sym (trail_text-push nodes items right) ∙ ap (λ ids. trail_text nodes ids) (sym longer));
    }

pub down-preserved : goal.down-preserved
down-preserved c =
    let nodes = c.args.store.now in
    let items = c.down.trail.items in
    let left = c.children.result.0 in
    let right = c.children.result.1 in
    let fork = c.children.ensures.tree in
    let prefix = text (tree nodes left.index) in
    let back = text (tree nodes right.index) in
    let past = c.if-skip-len.false in
    let behind = c.down.skip - c.len-len.result in
    record {
      live = omega (arith, c.down.invariant.live, c.children.ensures.right);
      within = omega (arith, past, ap leaves fork, c.down.invariant.within, c.len-len.ensures.len);
      room = omega (arith, c.down.invariant.room, ap height fork);
      trail = c.down.invariant.trail;
      is = c.down.invariant.is
          ∙ ap (λ t. drop c.down.skip (text t) ++ trail_text nodes items) fork
          ∙ ap (λ k. drop k (prefix ++ back) ++ trail_text nodes items) (omega (arith, past, c.len-len.ensures.len, length-text (tree nodes left.index)))
          ∙ ap (λ l. l ++ trail_text nodes items) (drop-append-add prefix back behind);
    }

pub returns-clause-text : goal.returns-clause-text
returns-clause-text c =
    let nodes = c.args.store.now in
    let items = c.down.trail.items in
    let none : c.down.skip ≡ 0 = omega (arith, c.down-test.false) in
    ap (λ ids. trail_text nodes ids) c.push_reserved-2.ensures.items
    ∙ trail_text-push nodes items c.down.id
    ∙ ap (λ k. drop k (text (tree nodes c.down.id.index)) ++ trail_text nodes items) (sym none)
    ∙ sym c.down.invariant.is

pub returns-clause-trail : goal.returns-clause-trail
returns-clause-trail c =
    rw (c.push_reserved-2.ensures.items, c.push_reserved-2.ensures.capacity) (IsTrail-push c.args.store.now _ c.down.trail.items c.down.id c.down.invariant.trail c.down.invariant.live c.down.invariant.room)
