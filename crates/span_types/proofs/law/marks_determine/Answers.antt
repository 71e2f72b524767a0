use Rattle.span_types.proofs.Digits as digits
use Rattle.span_types.proofs.law.marks_determine.Goals as goal

pub returns : goal.returns
returns c = digits.marks_determine
