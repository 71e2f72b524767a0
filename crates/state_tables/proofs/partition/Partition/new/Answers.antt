use Rattle.std.proofs.Common.{ap, sym, subst, ◌∙◌, inl, inr}
use Rattle.state_tables.specs.Digest.{digest_with}
use Rattle.state_tables.specs.Partition.{HasWeights, partition_digest}
use Rattle.state_tables.proofs.partition.Partition.new.Goals as goal

pub invariant_of-result : goal.invariant_of-result
unfolding partition_digest
invariant_of-result c =
    let classes = c.args.classes.items in
    let has : HasWeights classes c.deref.result.now = subst (HasWeights classes) (sym c.deref.ensures.value) c.requires in (
      elim c.if_few-weights.ensures [ inl e ↦ inl e | inr e ↦ inr (subst (HasWeights classes) (sym e) c.requires) ],
      c.sum_digest-digest.ensures ∙ ap (digest_with 0x1319_8a2e_0370_7344_243f_6a88_85a3_08d3) (c.class_sum.ensures classes has),
    )
