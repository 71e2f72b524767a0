use Rattle.std.proofs.Common.{length, subst}
use Rattle.state_tables.specs.Table.{IsTableOf}
use Rattle.state_tables.specs.Coded.{list_of}
use Rattle.state_tables.proofs.ClassedTables.{shape-classed}
use Rattle.state_tables.proofs.table.Table.states.Goals as goal

pub returns-clause-shape : goal.returns-clause-shape
returns-clause-shape c = subst (λ t. IsTableOf (length t) t) c.self.view_is (shape-classed c.self.inside.partition (list_of c.self.inside.rows) c.self.invariant.classed.states)
