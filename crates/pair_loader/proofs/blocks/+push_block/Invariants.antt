use Rattle.std.proofs.Common.{vec_len}
use Rattle.pair_loader.proofs.blocks.+push_block.Given as goal

abbrev pub decreases-push_block : goal.decreases-push_block
decreases-push_block g l = vec_len l.blocks.now
