use Rattle.std.proofs.Common.{◌≡◌, List, [], length, Contains, refl, sym, subst, arith}
use Rattle.marker_nfa.specs.declared.nfa.Edge.{Edge}
use Rattle.marker_nfa.proofs.Adding.{each_none, each_step, each_end, from_none}
use Rattle.marker_dfa.proofs.bundled.edges_of.Goals as goal

pub loop-edge-init : goal.loop-edge-init
loop-edge-init c = record {
  items = c.edges-edge-items.ensures;
  added = rw (c.new-edges.ensures) (each_none [] (λ (y x : Edge). x ≡ y) c.edges-edge-items.result.now);
}

pub loop-edge-preserved : goal.loop-edge-preserved
loop-edge-preserved c = record {
  items = c.loop-edge.invariant.items;
  added = each_step [] c.loop-edge.edges c.push.new.self (λ (y x : Edge). x ≡ y) c.edges-edge-items.result.now c.loop-edge.edge-index c.edge-item.result c.loop-edge-test.true (sym c.edge-item.is) c.loop-edge.invariant.added c.in_ok-push.ensures;
}

pub returns : goal.returns
returns c e =
    let list = c.edges-edge-items.result.now in
    let count : c.loop-edge.edge-index ≡ length list = omega (arith, c.loop-edge-test.false, c.loop-edge.auto.edge-index-end) in
    let all = from_none [] c.loop-edge.edges _ refl (each_end [] c.loop-edge.edges (λ (y x : Edge). x ≡ y) list c.loop-edge.edge-index count c.loop-edge.invariant.added) e in (
      (λ k. (let y = all.0 k in subst (λ (l : List Edge). Contains l e) c.loop-edge.invariant.items (subst (λ (x : Edge). Contains list x) (sym y.2) y.1))),
      (λ k. all.1 (e, subst (λ (l : List Edge). Contains l e) (sym c.loop-edge.invariant.items) k, refl)),
    )
