use Rattle.span_cursor.proofs.TupleLemmas.{one_tuple_of}
use Rattle.span_cursor.proofs.law.one_tuple.Goals as goal

pub returns : goal.returns
returns c = one_tuple_of
