use Rattle.formula_law.proofs.Tuples.{marked-word}
use Rattle.formula_law.proofs.law.marked_word.Goals as goal

pub returns : goal.returns
returns c = marked-word c.pieces.ensures
