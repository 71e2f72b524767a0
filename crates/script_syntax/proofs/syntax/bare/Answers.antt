use Rattle.std.proofs.Common.{refl, subst, IsTrue}
use Rattle.line_parts.proofs.Cuts.{not_true}
use Rattle.script_syntax.proofs.OptionWords.{bare_line}
use Rattle.script_syntax.proofs.syntax.bare.Goals as goal

pub returns-clause-syntax : goal.returns-clause-syntax
returns-clause-syntax c = (
  refl,
  λ command. bare_line c.args.line.now c.requires.one c.requires.some c.requires.loud
      (λ e. not_true (subst IsTrue c.if-is_same.false (c.is_same.ensures.1 e))) (λ e. not_true (subst IsTrue c.if-is_same-2.false (c.is_same-2.ensures.1 e))) command,
)
