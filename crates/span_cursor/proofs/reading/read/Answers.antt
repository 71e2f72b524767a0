use Rattle.std.proofs.Common.{Ok, ap}
use Rattle.span_cursor.proofs.TupleLemmas.{one_tuple_of}
use Rattle.span_cursor.proofs.reading.read.Goals as goal

pub returns-in-Some-clause-read_back : goal.returns-in-Some-clause-read_back
returns-in-Some-clause-read_back c = λ tuple t. ap Ok (one_tuple_of c.args.text.now c.args.vars.now c.args.vars.now c.in-Some.tuple tuple c.in-Some.ensures t).1

pub returns-in-Some-clause-other_variables : goal.returns-in-Some-clause-other_variables
returns-in-Some-clause-other_variables c = (
  (λ e. let bad : ⊥ = cc in absurd bad),
  (λ other. absurd (other.3 (one_tuple_of c.args.text.now other.0 c.args.vars.now other.1 c.in-Some.tuple other.2 c.in-Some.ensures).0)),
)
