use Rattle.std.proofs.Common.{length}
use Rattle.share_loader.proofs.words.+node_of.Given as goal

abbrev pub decreases-node_of : goal.decreases-node_of
decreases-node_of g l = length l.bytes.now
