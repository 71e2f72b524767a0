use Rattle.span_types.specs.ByteWordLaws.{members-none}
use Rattle.span_types.proofs.bytes.ByteSet.empty.Goals as goal

pub returns : goal.returns
returns c = members-none
