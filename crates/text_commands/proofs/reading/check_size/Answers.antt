use Rattle.text_commands.proofs.Names.{arith}
use Rattle.text_commands.proofs.Facts.{past_limit}
use Rattle.text_commands.proofs.reading.check_size.Goals as goal

pub returns-then-count-gt0-clause-refused : goal.returns-then-count-gt0-clause-refused
returns-then-count-gt0-clause-refused g c =
    past_limit (g.F.Shelf.files c.args.shelf.now) c.args.name.now c.args.limit c.in_ok-count.count c.args.limit c.read_at.new.into c.if-count-gt0.true (omega (arith, c.if-count-gt0.true)) c.in_ok-count.ensures.bound.0 c.in_ok-count.ensures.allowed c.in_ok-count.ensures.bytes
