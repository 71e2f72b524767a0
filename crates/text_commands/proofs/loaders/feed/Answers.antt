use Rattle.text_commands.proofs.Names.{arith, length}
use Rattle.text_commands.proofs.Facts.{shared_within}
use Rattle.text_commands.proofs.loaders.feed.Goals as goal

pub returns-in-Share-clause-most : goal.returns-in-Share-clause-most
returns-in-Share-clause-most g c =
    rw c.in-Share.is (λ before h. shared_within c.args.store.now c.in-Share.sharer (length c.args.piece.now) _ before c.args.pairs.now c.feed-in-Share.new.pairs h (omega arith) c.feed-in-Share.ensures.most)
