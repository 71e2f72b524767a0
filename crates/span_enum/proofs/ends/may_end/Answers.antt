use Rattle.span_enum.proofs.Base.{arith, false, get_or_default, not-both, refl, ◌<◌, ◌∙◌}
use Rattle.span_enum.proofs.Tables.{all-end, end-at}
use Rattle.span_enum.proofs.ends.may_end.Goals as goal

pub returns-then-end-mark : goal.returns-then-end-mark
returns-then-end-mark c =
    let ms = c.ends-end-items in
    ((λ h. rw c.if-end-mark.true at (end-at c.args.dfa.now c.args.q c.loop-end.end-index ms.result.now ms.ensures c.loop-end-test.true)), (λ h. refl))

pub returns : goal.returns
returns c = (
  (λ h. not-both false h refl),
  (λ h.
      let ms = c.ends-end-items in
      let among = all-end c.args.dfa.now c.args.q ms.result.now ms.ensures c.args.mark 0 h in
      let within : among.0 < c.loop-end.end-index = omega (arith, among.1, c.loop-end-test.false) in
      absurd (c.loop-end.invariant among.0 within (get_or_default ms.result.now among.0 0 c.args.mark among.1 ∙ among.2))),
)
