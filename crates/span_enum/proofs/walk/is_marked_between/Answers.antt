use Rattle.span_enum.proofs.Base.{arith, refl, ◌<◌}
use Rattle.span_enum.proofs.Tuples.{mark-none, mark-some}
use Rattle.span_enum.proofs.walk.is_marked_between.Goals as goal

pub returns-then-is_bound_between-clause-some : goal.returns-then-is_bound_between-clause-some
returns-then-is_bound_between-clause-some c = λ e.
    let b = c.if-is_bound_between.ensures.some refl in
    record { position = b.position; after = b.after; before = b.before; some = mark-some c.args.t.now c.loop-v.v b.position (omega arith) (rw c.span.ensures.value at b.bound) }

pub returns-clause-none : goal.returns-clause-none
returns-clause-none c = λ e p a b. mark-none c.args.t.now p (λ v lt h. let low : v < c.loop-v.v = omega arith in c.loop-v.invariant v low p a b h)
