use Rattle.std.proofs.Common.{◌≡◌, List, Some, length, slice_get, arith, ap, sym, subst, ◌∙◌}
use Rattle.slp_model.specs.declared.Node.{Node}
use Rattle.slp_model.specs.Thin.{rank, renumbered, thin, IsCompactionOf}
use Rattle.slp_model.proofs.CompactionLemmas.{thin_to, thin-all, thin-law}
use Rattle.node_store.specs.declared.Facts.{Facts}
use Rattle.node_store.specs.Stored.{IsNext, IsKept}
use Rattle.node_store.proofs.MoveLemmas.{next-kept, kept-last, kept-same}
use Rattle.node_store.proofs.thin.compacted_nodes.Goals as goal
use Rattle.node_store.proofs.thin.compacted_nodes.Goals.{then-kept+in_ok-insert, else-kept}

pub insert-requires : goal.insert-requires
insert-requires c =
    let facts : Facts = record { len = c.len.result; height = c.height.result } in
    let next = next-kept c.args.store.now c.args.moves.now c.loop-index.index c.node.result facts c.count-index-end.ensures.sound c.count-index-end.ensures.bytes c.requires (sym c.kept.ensures.kept ∙ c.if-kept.true) c.node.ensures.node c.len.ensures.len c.height.ensures.height in
    subst (λ (ms : List Node). IsNext ms c.renumbered.result facts) (sym c.loop-index.invariant)
    (subst (λ (n : Node). IsNext (thin_to c.args.store.now c.args.moves.now c.loop-index.index) n facts) (sym c.renumbered.ensures.node) next)

pub loop-index-preserved : goal.loop-index-preserved
loop-index-preserved c = elim c.if-kept.branch [
  | then-kept+in_ok-insert w ↦
      let x : Node = renumbered (rank c.args.moves.now) w.node.result in
      let added : IsKept (thin_to c.args.store.now c.args.moves.now c.loop-index.index) w.insert.new.self x = subst (λ (ms : List Node). IsKept ms w.insert.new.self x) c.loop-index.invariant (subst (λ (n : Node). IsKept c.loop-index.thin w.insert.new.self n) w.renumbered.ensures.node w.insert.ensures.kept) in
      let here : slice_get w.insert.new.self w.in_ok-insert.field-0.index ≡ Some x = w.in_ok-insert.ensures.node ∙ ap Some w.renumbered.ensures.node in
      w.thin-is ∙ kept-last c.args.store.now c.args.moves.now c.loop-index.index w.node.result w.insert.new.self w.in_ok-insert.field-0.index c.count-index-end.ensures.sound c.count-index-end.ensures.distinct c.requires (sym c.kept.ensures.kept ∙ w.if-kept.true) w.node.ensures.node added here
  | else-kept w ↦ w.thin-is ∙ (c.loop-index.invariant ∙ kept-same c.args.store.now c.args.moves.now c.loop-index.index (sym c.kept.ensures.kept ∙ w.if-kept.false))
]

pub returns-clause-thin : goal.returns-clause-thin
returns-clause-thin c =
    let end : c.loop-index.index ≡ length c.args.store.now = omega (arith, c.count-index-end.ensures.count, c.loop-index-test.false, c.loop-index.auto.index-end) in
    let made : c.loop-index.thin ≡ thin c.args.store.now c.args.moves.now = c.loop-index.invariant ∙ (ap (thin_to c.args.store.now c.args.moves.now) end ∙ thin-all c.args.store.now c.args.moves.now) in
    subst (λ (ms : List Node). IsCompactionOf c.args.store.now c.args.moves.now ms) (sym made) (thin-law c.args.store.now c.args.moves.now c.count-index-end.ensures.sound c.requires)
