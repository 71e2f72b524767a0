use Rattle.formula_syntax.proofs.Chains.{cat_step}
use Rattle.formula_syntax.proofs.build.cat_of.Goals as goal

pub loop-part-preserved : goal.loop-part-preserved
loop-part-preserved c =
    rw (c.in_ok-new.ensures.ok, c.in_ok-new-2.ensures.ok)
    (cat_step _ _ c.in-Some-pop.part c.loop-part.whole _ c.in-Some-pop.ensures.items c.loop-part.invariant)
