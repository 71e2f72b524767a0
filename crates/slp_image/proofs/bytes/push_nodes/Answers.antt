use Rattle.std.proofs.Common.{◌≡◌, ◌++◌, List, length, arith, ap, sym, ◌∙◌}
use Rattle.slp_model.specs.declared.Node.{Node}
use Rattle.slp_model.specs.Thin.{thin, IsCompactionOf}
use Rattle.slp_model.proofs.CompactionLemmas.{thin_to, thin-all, thin-law}
use Rattle.slp_model.proofs.RankLemmas.{rank-most}
use Rattle.node_store.proofs.MoveLemmas.{keeps-children}
use Rattle.slp_image.specs.Written.{node_bytes, records_bytes}
use Rattle.slp_image.proofs.FollowLemmas.{records-kept, records-same}
use Rattle.slp_image.proofs.bytes.push_nodes.Goals as goal
use Rattle.slp_image.proofs.bytes.push_nodes.Goals.{then-kept+in_ok-push_node, else-kept}

pub renumbered-requires : goal.renumbered-requires
renumbered-requires c = record { children = keeps-children c.args.store.now c.args.moves.now c.loop-index.index c.node.result c.requires.plan (sym c.kept.ensures.kept ∙ c.if-kept.true) c.node.ensures.node }

pub loop-index-preserved : goal.loop-index-preserved
loop-index-preserved c = elim c.if-kept.branch [
  | then-kept+in_ok-push_node w ↦
      ap (λ (o : _). o.items) w.out-is ∙ records-kept c.args.store.now c.args.moves.now c.loop-index.index w.node.result c.args.out.now.items c.loop-index.out.items w.push_node.new.out.items w.node.ensures.node (sym c.kept.ensures.kept ∙ w.if-kept.true) c.loop-index.invariant
      (w.in_ok-push_node.ensures ∙ ap (λ (n : Node). c.loop-index.out.items ++ node_bytes n) w.renumbered.ensures.node)
  | else-kept w ↦ ap (λ (o : _). o.items) w.out-is ∙ records-same c.args.store.now c.args.moves.now c.loop-index.index c.args.out.now.items c.loop-index.out.items (sym c.kept.ensures.kept ∙ w.if-kept.false) c.loop-index.invariant
]

pub returns-clause-bytes : goal.returns-clause-bytes
returns-clause-bytes c =
    let end : c.loop-index.index ≡ length c.args.store.now = omega (arith, c.count-index-end.ensures.count, c.loop-index-test.false, c.loop-index.auto.index-end) in
    c.loop-index.invariant ∙ ap (λ (ms : List Node). c.args.out.now.items ++ records_bytes ms) (ap (thin_to c.args.store.now c.args.moves.now) end ∙ thin-all c.args.store.now c.args.moves.now)

pub returns-clause-thin : goal.returns-clause-thin
returns-clause-thin c = thin-law c.args.store.now c.args.moves.now c.count-index-end.ensures.sound c.requires.plan

pub returns-clause-distinct : goal.returns-clause-distinct
returns-clause-distinct c =
    let t : IsCompactionOf c.args.store.now c.args.moves.now (thin c.args.store.now c.args.moves.now) = thin-law c.args.store.now c.args.moves.now c.count-index-end.ensures.sound c.requires.plan in
    t.distinct c.count-index-end.ensures.distinct

pub returns-clause-few : goal.returns-clause-few
returns-clause-few c =
    let t : IsCompactionOf c.args.store.now c.args.moves.now (thin c.args.store.now c.args.moves.now) = thin-law c.args.store.now c.args.moves.now c.count-index-end.ensures.sound c.requires.plan in
    omega (arith, t.long, rank-most c.args.moves.now (length c.args.store.now), c.count-index-end.ensures.count, c.count-index-end.type_inv)
