use Rattle.std.proofs.Common.{◌<◌, ◌≤◌, arith, inl, inr, ap, get_or}
use Rattle.std.proofs.lemmas.Bool.{cases_eq}
use Rattle.state_tables.proofs.partition.class_count.Goals as goal
use Rattle.state_tables.proofs.partition.class_count.Goals.{then-count-end, else-count-end}

pub loop-class-init : goal.loop-class-init
loop-class-init c = λ p lt. absurd (omega (arith, lt))

pub loop-class-preserved : goal.loop-class-preserved
loop-class-preserved c = λ p lt.
    let at = c.loop-class in
    let here = (get_or c.args.classes.now at.class-index 0 < c.if-count-end.count) × (at.count ≤ c.if-count-end.count) in
    let more : here = elim c.if-count-end.branch [
      | then-count-end w ↦ (omega (arith, w.count-is), omega (arith, w.count-is, w.if-count-end.true))
      | else-count-end w ↦ (omega (arith, w.count-is, w.if-count-end.false), omega (arith, w.count-is))
    ] in
    elim (cases_eq p at.class-index) [
      | inl e ↦ omega (arith, ap (λ k. get_or c.args.classes.now k 0) e, more.0)
      | inr ne ↦ omega (arith, at.invariant p (omega (arith, lt, ne)), more.1)
    ]

pub returns : goal.returns
returns c = λ p lt. c.loop-class.invariant p (omega (arith, lt, c.loop-class-test.false))
