use Rattle.script_syntax.specs.Fields.{Named}
use Rattle.script_syntax.proofs.FieldsLemmas.{one_field}
use Rattle.script_syntax.proofs.parts.two_words.Goals as goal

pub returns-in_err-first : goal.returns-in_err-first
returns-in_err-first c = rw c.from_residual.ensures (λ g fs. one_field c.args.text.now Named g fs c.in_err-first.ensures)
