use Rattle.formula_law.proofs.Tuples.{fits-accepted}
use Rattle.formula_law.proofs.law.fits_accepted.Goals as goal

pub returns : goal.returns
returns c = fits-accepted c.marks_determine.ensures
