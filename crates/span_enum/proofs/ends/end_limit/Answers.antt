use Rattle.span_enum.proofs.Base.{ap, sym, ◌+◌, ◌∙◌}
use Rattle.span_enum.proofs.Tuples.{end_mark-more, end_mark-same}
use Rattle.span_enum.proofs.ends.end_limit.Goals as goal

pub returns-then-is_past : goal.returns-then-is_past
returns-then-is_past c = ap (λ n. n + 1) c.mark_at-mark.ensures ∙ sym (end_mark-more c.args.t.now c.args.end (sym c.is_past.ensures ∙ c.if-is_past.true))

pub returns-else-is_past : goal.returns-else-is_past
returns-else-is_past c = c.mark_at-mark.ensures ∙ sym (end_mark-same c.args.t.now c.args.end (sym c.is_past.ensures ∙ c.if-is_past.false))
