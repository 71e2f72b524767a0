use Rattle.std.proofs.Common.{subst, IsTrue}
use Rattle.line_parts.proofs.Cuts.{not_true}
use Rattle.script_syntax.proofs.OptionWords.{not_longest}
use Rattle.script_syntax.proofs.options.longest_of.Goals as goal

pub returns-then-not-is_same : goal.returns-then-not-is_same
returns-then-not-is_same c = not_longest c.args.text.now c.in-Some.word.now c.in-Some.option.now c.in-Some.ensures.0 c.in-Some.ensures.1
    (λ e. not_true (subst IsTrue c.if-not-is_same.true (c.is_same.ensures.1 e)))
