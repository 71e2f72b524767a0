use Rattle.std.proofs.Common.{subst, IsTrue, arith}
use Rattle.line_parts.proofs.Cuts.{not_true}
use Rattle.script_syntax.proofs.OptionWords.{not_limit, same_limit}
use Rattle.script_syntax.proofs.options.limit_of.Goals as goal

pub returns-then-not-is_same : goal.returns-then-not-is_same
returns-then-not-is_same c = not_limit c.args.options.now c.in_ok-word.word.now c.in_ok-word.digits.now c.in_ok-word.ensures.0 c.in_ok-word.ensures.1
    (λ e. not_true (subst IsTrue c.if-not-is_same.true (c.is_same.ensures.1 e)))

pub returns-then-limit-eq0 : goal.returns-then-limit-eq0
returns-then-limit-eq0 c = λ n low high is.
    let same = same_limit c.args.options.now c.in_ok-word.word.now c.in_ok-word.digits.now c.in_ok-limit.limit c.in_ok-word.ensures.0 c.in_ok-word.ensures.1 c.in_ok-limit.ensures n high is in
    omega (arith, same)

pub returns-then-limit-gt-MAX_LIMIT : goal.returns-then-limit-gt-MAX_LIMIT
returns-then-limit-gt-MAX_LIMIT c = λ n low high is.
    let same = same_limit c.args.options.now c.in_ok-word.word.now c.in_ok-word.digits.now c.in_ok-limit.limit c.in_ok-word.ensures.0 c.in_ok-word.ensures.1 c.in_ok-limit.ensures n high is in
    omega (arith, same)
