use Rattle.std.proofs.Common.{arith, ext_get_or, eqb-true, eq-eqb, refl}
use Rattle.state_tables.proofs.Partitions.{no-difference, same-more}
use Rattle.state_tables.proofs.partition.are_same.Goals as goal

pub loop-index-init : goal.loop-index-init
loop-index-init c = record {
  none = λ e k lt. absurd (omega (arith, lt));
  same = λ e. refl;
}

pub loop-index-preserved : goal.loop-index-preserved
loop-index-preserved c =
    let at = c.loop-index in
    record {
      none = same-more c.args.classes.now c.args.others.now at.index at.different at.invariant.none;
      same = λ e. no-difference c.args.classes.now c.args.others.now at.index at.different e (at.invariant.same e);
    }

pub returns : goal.returns
returns c =
    let at = c.loop-index in (
      λ t. ext_get_or 0 c.args.classes.now c.args.others.now (omega (arith, c.if-classes-others.false)) (λ k lt. at.invariant.none (eqb-true at.different 0 t) k (omega (arith, lt, c.loop-index-test.false))),
      λ e. eq-eqb at.different 0 (at.invariant.same e),
    )
