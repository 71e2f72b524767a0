use Rattle.slp_image.proofs.RowLemmas.{image_rows}
use Rattle.slp_image.proofs.law.image_rows.Goals as goal

pub returns : goal.returns
returns c = image_rows
