use Rattle.std.specs.Prelude.{is_ok}
use Rattle.std.proofs.Common.{ap, ◌∙◌}
use Rattle.slp_image.proofs.DocumentLemmas.{among-found}
use Rattle.slp_image.proofs.documents.is_present.Goals as goal

pub returns : goal.returns
returns c = c.is_ok.ensures.value ∙ (ap is_ok c.get.ensures ∙ among-found c.args.docs.now c.args.name.now)
