use Rattle.std.proofs.Common.{◌<◌, true, List, Bool, length, slice_set, sym, subst}
use Rattle.slp_model.specs.Kept.{AddsExactly, IsPlanOf, Reaches}
use Rattle.slp_model.proofs.KeptLemmas.{adds-again, adds-byte, adds-pair, plan-byte, plan-pair}
use Rattle.store_compact.proofs.+keep_below.Goals.{in-Pair, in_default}
use Rattle.store_compact.proofs.+keep_below.Goals as goal

pub returns-then-keep-id-clause-kept : goal.returns-then-keep-id-clause-kept
returns-then-keep-id-clause-kept t c = adds-again c.args.store.now c.args.keep.now c.args.id.index c.requires.plan c.if-keep-id.true

pub returns-clause-kept : goal.returns-clause-kept
returns-clause-kept t c = elim c.match-node.branch [
  | in-Pair w ↦
      let lt : c.args.id.index < length w.keep_below-in-Pair.new.keep = subst (λ n. c.args.id.index < n) (sym w.keep_below-in-Pair.ensures.plan.long) c.requires.live in
      subst (λ (ks : List Bool). AddsExactly c.args.keep.now (slice_set ks c.args.id.index true) (Reaches c.args.store.now c.args.id.index)) (sym w.keep-is)
      (adds-pair c.args.store.now c.args.keep.now w.keep_below.new.keep w.keep_below-in-Pair.new.keep c.args.id.index w.in-Pair.left w.in-Pair.right w.in-Pair.ensures.node w.keep_below.ensures.kept w.keep_below-in-Pair.ensures.kept lt)
  | in_default w ↦
      let lt : c.args.id.index < length c.args.keep.now = subst (λ n. c.args.id.index < n) (sym c.requires.plan.long) c.requires.live in
      subst (λ (ks : List Bool). AddsExactly c.args.keep.now (slice_set ks c.args.id.index true) (Reaches c.args.store.now c.args.id.index)) (sym w.keep-is)
      (adds-byte c.args.store.now c.args.keep.now c.args.id.index w.in_default.field-0 w.in_default.ensures.node lt)
]

pub returns-clause-plan : goal.returns-clause-plan
returns-clause-plan t c = elim c.match-node.branch [
  | in-Pair w ↦
      let lt : c.args.id.index < length w.keep_below-in-Pair.new.keep = subst (λ n. c.args.id.index < n) (sym w.keep_below-in-Pair.ensures.plan.long) c.requires.live in
      subst (λ (ks : List Bool). IsPlanOf c.args.store.now (slice_set ks c.args.id.index true)) (sym w.keep-is)
      (plan-pair c.args.store.now c.args.keep.now w.keep_below.new.keep w.keep_below-in-Pair.new.keep c.args.id.index w.in-Pair.left w.in-Pair.right w.in-Pair.ensures.node w.keep_below.ensures.kept w.keep_below-in-Pair.ensures.kept lt w.keep_below-in-Pair.ensures.plan)
  | in_default w ↦
      let lt : c.args.id.index < length c.args.keep.now = subst (λ n. c.args.id.index < n) (sym c.requires.plan.long) c.requires.live in
      subst (λ (ks : List Bool). IsPlanOf c.args.store.now (slice_set ks c.args.id.index true)) (sym w.keep-is)
      (plan-byte c.args.store.now c.args.keep.now c.args.id.index w.in_default.field-0 c.requires.plan w.in_default.ensures.node lt)
]
