use Rattle.formula_bench.proofs.Bounds.{within}
use Rattle.formula_bench.proofs.queries.read_query.Goals as goal

pub of_formula-requires : goal.of_formula-requires
of_formula-requires c = within _ _ _ c.in-Ok-read.ensures
