use Rattle.script_syntax.proofs.OptionWords.{not_limited}
use Rattle.script_syntax.proofs.options.limited.Goals as goal

pub returns-in_err-limit : goal.returns-in_err-limit
returns-in_err-limit c = rw c.from_residual.ensures (not_limited c.args.text.now c.in-Some.word.now c.in-Some.options.now c.in-Some.ensures.0 c.in-Some.ensures.1 c.in_err-limit.ensures)
