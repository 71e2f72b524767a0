use Rattle.slp_model.proofs.CompactionLemmas.{thin-law}
use Rattle.slp_model.proofs.law.compacted_store.Goals as goal

pub returns : goal.returns
returns c = thin-law
