use Rattle.std.proofs.Common.{◌≡◌, ap, arith, length}
use Rattle.span_replace.proofs.Choices.{span-lies}
use Rattle.span_replace.proofs.choice.longest_left.Goals as goal

pub returns-clause-index : goal.returns-clause-index
returns-clause-index g c =
    let text : c.next_span.new.answers.text ≡ c.args.answers.now.text = c.in_ok-first.ensures.text in
    span-lies (length c.next_span.new.answers.text) (record { start = c.in_ok-first.first.start; end = c.last_end-end.result }) (omega (arith, ap length text, c.requires.short)) c.last_end-end.ensures.end.member.lies
