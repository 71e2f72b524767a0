use Rattle.span_enum.proofs.Base.{IsNoMark, Mark, arith, subst, sym, ℕ}
use Rattle.span_enum.proofs.Kept.{last-kept, last-same, none-at_start}
use Rattle.span_enum.proofs.trail.lower_last.Goals as goal

pub lowered-requires : goal.lowered-requires
lowered-requires g c =
    let trail = c.loop-trail.trail in
    let last = last-kept c.args.input.now c.args.t.now trail.marks.items trail.ahead.items c.loop-trail.invariant.trail c.last_of.result.now c.last_of.ensures in
    (omega (arith, c.requires.input.narrow), (omega (arith, c.requires.input.narrow), (c.requires.input, last.kept.is_mark.state)))

pub returns-in-Some-clause-lowers : goal.returns-in-Some-clause-lowers
returns-in-Some-clause-lowers g c = record { mark = c.last_of.result.now; is_last = c.last_of.ensures; at = c.in-Some.ensures.0; best = c.in-Some.ensures.1 }

pub forget_last-requires : goal.forget_last-requires
forget_last-requires g c =
    let same = (last-same c.loop-trail.trail.marks.items _ c.last_of.result.now c.last_of-last.result.now c.last_of.ensures c.last_of-last.ensures).0 in
    let none = subst (λ (m : Mark g.row.N). (n : ℕ) → IsNoMark c.args.input.now.dfa.now m.state m.byte m.goals m.mark n) (sym same) c.in-None.ensures in
    (omega (arith, c.requires.input.narrow), (omega (arith, c.requires.input.narrow), (omega (arith, c.requires.input.narrow), (c.requires.input, (c.loop-trail.invariant.trail, (c.last_of-last.ensures, none))))))

pub returns-clause-lowers : goal.returns-clause-lowers
returns-clause-lowers g c =
    let trail = c.loop-trail.trail in
    none-at_start c.args.input.now c.args.t.now trail.marks.items trail.ahead.items c.loop-trail.invariant.trail (omega (arith, c.len.ensures.value, c.loop-trail-test.false))
