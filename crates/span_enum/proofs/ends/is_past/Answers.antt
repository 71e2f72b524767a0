use Rattle.span_enum.proofs.Base.{arith, refl, sym, ◌<◌}
use Rattle.span_enum.proofs.Tuples.{reaches-none, reaches-some}
use Rattle.span_enum.proofs.ends.is_past.Goals as goal

pub returns-then-ends_past : goal.returns-then-ends_past
returns-then-ends_past c = sym (reaches-some c.args.from c.args.t.now c.loop-v.v (rw c.span.ensures.value at (c.if-ends_past.ensures.0 refl)))

pub returns : goal.returns
returns c = sym (reaches-none c.args.from c.args.t.now (λ v lt h. let low : v < c.loop-v.v = omega arith in c.loop-v.invariant v low h))
