use Rattle.span_enum.proofs.Runs.{member-one}
use Rattle.span_enum.proofs.Tables.{all-end, end-at, greatest-at, none-at}
use Rattle.span_enum.proofs.ends.greatest_end.Goals as goal

pub returns-then-mark-limit : goal.returns-then-mark-limit
returns-then-mark-limit c =
    let ms = c.ends-mark-items in
    let i = c.loop-mark.mark-index in
    greatest-at c.args.dfa.now c.args.q 256 1 c.args.limit i ms.result.now (all-end c.args.dfa.now c.args.q ms.result.now ms.ensures) c.loop-mark.invariant 0
    (rw ms.ensures (c.states-states.ensures.automaton.ends_fall c.args.q)) c.loop-mark-test.true (end-at c.args.dfa.now c.args.q i ms.result.now ms.ensures c.loop-mark-test.true) member-one c.if-mark-limit.true

pub returns : goal.returns
returns c =
    let ms = c.ends-mark-items in
    none-at c.args.dfa.now c.args.q 256 1 c.args.limit c.loop-mark.mark-index ms.result.now (all-end c.args.dfa.now c.args.q ms.result.now ms.ensures) c.loop-mark.invariant c.loop-mark-test.false
