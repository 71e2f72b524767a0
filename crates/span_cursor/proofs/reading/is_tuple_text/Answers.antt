use Rattle.std.proofs.Common.{IsTrue, inl, inr, refl, subst}
use Rattle.line_parts.proofs.Cuts.{not_true}
use Rattle.span_cursor.proofs.TupleLemmas.{same_first, tuple_cut, tuple_join, tuple_none}
use Rattle.span_cursor.proofs.reading.is_tuple_text.Goals as goal

pub returns-then-is_same : goal.returns-then-is_same
returns-then-is_same c = ((λ _. tuple_none c.args.text.now (c.is_same.ensures.0 c.if-is_same.true)), (λ _. refl))

pub returns : goal.returns
returns c = (
  (λ t. tuple_join c.args.text.now (record { name = c.in-Some.field-0-0.now; value = c.in-Some.field-0-1; rest = c.in-Some.rest.now; entry = c.in-Some.ensures; more = c.are_more.ensures.0 t })),
  (λ is. c.are_more.ensures.1 (elim (tuple_cut c.args.text.now is) [
    | inl bare ↦ absurd (not_true (subst IsTrue c.if-is_same.false (c.is_same.ensures.1 bare)))
    | inr first ↦ same_first c.args.text.now c.in-Some.field-0-0.now c.in-Some.rest.now c.in-Some.field-0-1 c.in-Some.ensures first
  ])),
)
