use Rattle.std.proofs.Common.{◌-◌, length, ap, arith, length-drop}
use Rattle.slp_model.specs.Tree.{text}
use Rattle.slp_model.specs.Nodes.{tree}
use Rattle.slp_model.proofs.TreeLemmas.{length-text}
use Rattle.range_read.proofs.RangeBytes.new.Goals as goal

pub invariant_of-result-2 : goal.invariant_of-result-2
invariant_of-result-2 c =
    let within = rw c.in-Some.is at c.requires.within in
    let whole = text (tree c.args.store.now c.in-Some.id.index) in (
      c.skip_onto.ensures.trail,
      omega (arith, within, ap length c.skip_onto.ensures.text, length-drop (c.args.i - 1) whole, length-text (tree c.args.store.now c.in-Some.id.index)),
    )
