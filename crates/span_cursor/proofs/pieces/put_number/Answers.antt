use Rattle.std.proofs.Common.{ap, arith, length, ◌∙◌}
use Rattle.std.proofs.lemmas.Fmt.{length-decimal-le}
use Rattle.span_cursor.proofs.pieces.put_number.Goals as goal

pub put-requires : goal.put-requires
put-requires c =
    let short = length-decimal-le 15 c.args.number (omega arith) c.requires.small (omega arith) in
    let is = ap length (c.as_bytes.ensures.value ∙ c.format.ensures.text) in
    omega (arith, short, is)

pub returns-clause-end : goal.returns-clause-end
returns-clause-end c =
    let short = length-decimal-le 15 c.args.number (omega arith) c.requires.small (omega arith) in
    let is = ap length (c.as_bytes.ensures.value ∙ c.format.ensures.text) in
    omega (arith, short, is)
