use Rattle.std.proofs.Common.{arith}
use Rattle.script_syntax.proofs.OptionWords.{same_answer_number}
use Rattle.script_syntax.proofs.options.answer_number.Goals as goal

pub returns-then-number-eq0 : goal.returns-then-number-eq0
returns-then-number-eq0 c = λ n low high is.
    let same = same_answer_number c.args.text.now c.in_ok-number.number n c.in_ok-number.ensures high is in
    omega (arith, same)

pub returns-then-number : goal.returns-then-number
returns-then-number c = λ n low high is.
    let same = same_answer_number c.args.text.now c.in_ok-number.number n c.in_ok-number.ensures high is in
    omega (arith, same)
