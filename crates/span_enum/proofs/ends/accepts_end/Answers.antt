use Rattle.span_enum.proofs.Base.{false, true}
use Rattle.span_enum.proofs.Tuples.{end-both}
use Rattle.span_enum.proofs.ends.accepts_end.Goals as goal

pub returns-then-fits : goal.returns-then-fits
returns-then-fits c =
    rw c.in-Some.is (end-both c.args.dfa.now c.in-Some.q c.mark_at.result c.args.tuple.now c.args.end true c.is_past-past.result c.mark_at.ensures c.is_past-past.ensures
    (λ h. c.if-fits.ensures.0 h) (λ h. c.if-fits.ensures.1 h))

pub returns-else-fits : goal.returns-else-fits
returns-else-fits c =
    rw (c.in-Some.is, c.if-fits.false) (end-both c.args.dfa.now c.in-Some.q c.mark_at.result c.args.tuple.now c.args.end false c.is_past-past.result c.mark_at.ensures c.is_past-past.ensures
    (λ h. c.if-fits.ensures.0 h) (λ h. c.if-fits.ensures.1 h))
