use Rattle.span_enum.proofs.Base.{arith, sym, ◌<◌, ◌∙◌}
use Rattle.span_enum.proofs.Runs.{step-byte}
use Rattle.span_enum.proofs.walk.step.Goals as goal

pub returns-clause-value : goal.returns-clause-value
returns-clause-value c =
    let byte : c.args.byte < 256 = omega arith in
    c.next.ensures ∙ sym (step-byte c.args.dfa.now c.args.p c.args.mark c.args.byte byte)
