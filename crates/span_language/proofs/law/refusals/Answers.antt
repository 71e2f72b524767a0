use Rattle.span_language.proofs.Laws.{changes_nothing}
use Rattle.span_language.proofs.law.refusals.Goals as goal

pub returns : goal.returns
returns c = changes_nothing
