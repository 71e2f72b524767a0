use Rattle.std.specs.Int.Bits.{or_zero_r}
use Rattle.span_enum.proofs.Base.{ap, bit_or, inl, inr, length, marked_of, member, single_of, subst, sym, true, ◌<◌, ◌∙◌}
use Rattle.span_enum.proofs.Tables.{member-more_cases}
use Rattle.span_enum.proofs.sets.reached.Goals as goal

pub returns-in-Some-clause-within : goal.returns-in-Some-clause-within
returns-in-Some-clause-within g c = λ q h. elim (member-more_cases c.of-set.result c.in-Some.q q true (ap (λ n. member n q) (sym c.include.ensures) ∙ h)) [
  | inl old ↦ c.marked.ensures.within q (ap (λ n. member n q) (sym c.of-set.ensures) ∙ old)
  | inr new ↦ subst (λ n. n < length c.args.table.now) (sym new.0) c.in-Some.ensures.within
]

pub returns-in-None-clause-value : goal.returns-in-None-clause-value
returns-in-None-clause-value g c =
    let marked = marked_of c.args.table.now c.args.p in
    c.of-set.ensures ∙ c.marked.ensures.value ∙ sym (ap (λ o. bit_or marked (single_of o)) (sym c.unmarked.ensures.value ∙ c.in-None.is) ∙ or_zero_r marked)
