use Rattle.text_commands.proofs.Names.{arith}
use Rattle.text_commands.proofs.Facts.{is_next, past_limit}
use Rattle.text_commands.proofs.files.next_piece.Goals as goal

pub returns-then-count-limit-clause-refused : goal.returns-then-count-limit-clause-refused
returns-then-count-limit-clause-refused g c =
    past_limit (g.F.Shelf.files c.args.shelf.now) c.args.name.now c.args.at c.in_ok-count.count c.args.limit c.read_at.new.into (omega arith) (omega arith) c.in_ok-count.ensures.bound.0 c.in_ok-count.ensures.allowed c.in_ok-count.ensures.bytes

pub returns-clause-next : goal.returns-clause-next
returns-clause-next g c = is_next (g.F.Shelf.files c.args.shelf.now) c.args.name.now c.args.limit c.args.at c.in_ok-count.count c.read_at.new.into c.requires.within c.in_ok-count.ensures.bound.0 c.in_ok-count.ensures.bytes
