use Rattle.span_enum.proofs.Base.{arith}
use Rattle.span_enum.proofs.Tables.{all-byte, greatest-at, none-at}
use Rattle.span_enum.proofs.walk.greatest_mark.Goals as goal

pub returns-in-Some-clause-mark : goal.returns-in-Some-clause-mark
returns-in-Some-clause-mark g c =
    let facts = c.in-Some.ensures.step in
    let auto = c.states-states.ensures.automaton in
    let ms = c.marks-mark-items in
    let all = all-byte c.args.dfa.now auto c.args.p c.args.byte ms.result.now ms.ensures (omega arith) in
    greatest-at c.args.dfa.now c.args.p c.args.byte c.args.goals.now c.args.limit c.loop-mark.mark-index ms.result.now all c.loop-mark.invariant c.in-Some.q
    (rw ms.ensures (auto.marks_fall c.args.p c.args.byte)) c.loop-mark-test.true facts.0 facts.1 facts.2

pub returns-clause-mark : goal.returns-clause-mark
returns-clause-mark g c =
    let ms = c.marks-mark-items in
    let all = all-byte c.args.dfa.now c.states-states.ensures.automaton c.args.p c.args.byte ms.result.now ms.ensures (omega arith) in
    none-at c.args.dfa.now c.args.p c.args.byte c.args.goals.now c.args.limit c.loop-mark.mark-index ms.result.now all c.loop-mark.invariant c.loop-mark-test.false
