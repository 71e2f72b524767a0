use Rattle.span_enum.proofs.WordSets.{number-zeros}
use Rattle.span_enum.proofs.states.StatesDefault.default.Goals as goal

pub returns : goal.returns
returns g c = number-zeros g.row.N
