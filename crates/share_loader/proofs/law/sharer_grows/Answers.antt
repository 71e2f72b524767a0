use Rattle.share_loader.proofs.SharerLemmas.{sharer-grows}
use Rattle.share_loader.proofs.law.sharer_grows.Goals as goal

pub returns : goal.returns
returns c = sharer-grows
