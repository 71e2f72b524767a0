use Rattle.span_enum.proofs.Base.{arith, cases_eq, inl, inr, ◌<◌}
use Rattle.span_enum.proofs.Tuples.{mark-none, mark-some}
use Rattle.span_enum.proofs.walk.first_mark.Goals as goal

pub loop-v-init : goal.loop-v-init
loop-v-init c = record { from = omega arith; to = omega arith; none = λ k lt. absurd (omega arith); some = λ lt. absurd (omega arith) }

pub loop-v-preserved : goal.loop-v-preserved
loop-v-preserved c = record {
  from = c.first_bound-first.ensures.from;
  to = omega (arith, c.first_bound-first.ensures.earlier, c.loop-v.invariant.to);
  none = λ k lt p from to h. elim (cases_eq k c.loop-v.v) [
    | inl same ↦ c.first_bound-first.ensures.none p from to (rw (c.span.ensures.value, ← same) h)
    | inr other ↦ let low : k < c.loop-v.v = omega arith in c.loop-v.invariant.none k low p from (omega (arith, to, c.first_bound-first.ensures.earlier)) h
  ];
  some = λ lt. elim (cases_eq c.first_bound-first.result c.loop-v.first) [
    | inl same ↦ rw same (c.loop-v.invariant.some (omega (arith, same, lt)))
    | inr other ↦ mark-some c.args.t.now c.loop-v.v c.first_bound-first.result (omega arith) (rw c.span.ensures.value at c.first_bound-first.ensures.some other)
  ];
}

pub returns-clause-none : goal.returns-clause-none
returns-clause-none c = λ p from to. mark-none c.args.t.now p (λ v lt h. let low : v < c.loop-v.v = omega arith in c.loop-v.invariant.none v low p from to h)
