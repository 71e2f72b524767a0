use Rattle.share_loader.proofs.SharerLemmas.{sharer-starts}
use Rattle.share_loader.proofs.law.sharer_starts.Goals as goal

pub returns : goal.returns
returns c = sharer-starts
