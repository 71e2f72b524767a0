use Rattle.span_enum.proofs.Base.{inl, inr, ltb-true, refl}
use Rattle.span_enum.proofs.walk.is_bound_between.Goals as goal

pub returns-then-span-to-clause-some : goal.returns-then-span-to-clause-some
returns-then-span-to-clause-some c = λ h. record { position = c.in-Some.span.start; after = c.if-span-to.true.0; before = c.if-span-to.true.1; bound = rw c.in-Some.is (inl refl) }

pub returns-then-from-span-2-clause-some : goal.returns-then-from-span-2-clause-some
returns-then-from-span-2-clause-some c = λ h. record { position = c.in-Some.span.end; after = c.if-from-span-2.true; before = ltb-true c.in-Some.span.end c.args.to h; bound = rw c.in-Some.is (inr refl) }
