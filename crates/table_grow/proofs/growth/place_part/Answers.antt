use Rattle.std.proofs.Common.{arith, subst}
use Rattle.table_grow.specs.Filling.{AssignsOne, Filling}
use Rattle.table_grow.specs.Layers.{IsLayer}
use Rattle.table_grow.proofs.Growing.{continues-refl, continues-trans, due-next, filled-next, same-nodes}
use Rattle.table_grow.proofs.Layering.{due-layer, under-first, under-next}
use Rattle.table_grow.proofs.growth.place_part.Goals as goal

pub loop-index-init : goal.loop-index-init
loop-index-init g c = record { continues = continues-refl c.args.filling.now; filled = c.requires.filled }

pub find-requires : goal.find-requires
find-requires g c =
    due-next c.args.filling.now c.loop-index.filling c.loop-index.index c.growth.ensures.ready c.loop-index.invariant.continues c.loop-index.invariant.filled
    (let t = c.loop-index-test.true in let l = c.requires.live in omega (arith, t, l))

pub loop-index-preserved : goal.loop-index-preserved
loop-index-preserved g c =
    let at = c.loop-index in
    let now = c.place_found.new.filling in
    let after : AssignsOne at.filling now (record { index = at.index }) = subst (λ (s : Filling). AssignsOne s now (record { index = at.index })) c.find.ensures.same c.in_ok-place_found.ensures.one in
    record {
      continues = continues-trans c.args.filling.now at.filling now at.invariant.continues after.continues;
      filled = filled-next at.filling now at.index at.invariant.filled after;
    }

pub loop-height-init : goal.loop-height-init
loop-height-init g c = record {
  continues = continues-refl c.args.filling.now;
  under = under-first c.args.filling.now c.args.from c.args.to c.requires.range c.requires.filled;
}

pub place_some-requires-clause-due : goal.place_some-requires-clause-due
place_some-requires-clause-due g c κs within =
    let at = c.loop-height in
    let nodes = same-nodes c.args.filling.now at.filling at.invariant.continues in
    let layer : IsLayer at.filling.nodes c.args.from c.args.to at.height c.of_height-ids.result.now =
    rw (c.of_height-ids.ensures, nodes, ← c.growth.ensures.store) (c.in_ok-layers.ensures.each at.height c.loop-height-test.true) in
    due-layer at.filling c.args.from c.args.to at.height c.of_height-ids.result.now at.invariant.under layer (rw nodes c.growth.ensures.ready.sound) (rw nodes c.requires.live)

pub loop-height-preserved : goal.loop-height-preserved
loop-height-preserved g c =
    let at = c.loop-height in
    let nodes = same-nodes c.args.filling.now at.filling at.invariant.continues in
    let layer : IsLayer at.filling.nodes c.args.from c.args.to at.height c.of_height-ids.result.now =
    rw (c.of_height-ids.ensures, nodes, ← c.growth.ensures.store) (c.in_ok-layers.ensures.each at.height c.loop-height-test.true) in
    record {
      continues = continues-trans c.args.filling.now at.filling c.place_some.new.filling at.invariant.continues c.place_some.ensures.continues;
      under = under-next at.filling c.args.from c.args.to at.height c.of_height-ids.result.now at.invariant.under layer c.place_some.new.filling c.in_ok-place_some.ensures.all;
    }
