use Rattle.edit_expr.proofs.MeaningLemmas as lemma
use Rattle.edit_expr.proofs.law.one_expression.Goals as goal

pub returns : goal.returns
returns c = lemma.one_expression
