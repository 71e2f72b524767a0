use Rattle.std.proofs.Common.{sym, ◌∙◌}
use Rattle.state_tables.specs.Same.{table_same}
use Rattle.state_tables.proofs.ClassedTables.{tables-same}
use Rattle.state_tables.proofs.table.TableDigested.is_same.Goals as goal

pub returns : goal.returns
returns c = (λ h. table_same c.args.self.now c.args.other.now (sym c.eq.ensures ∙ h), λ e. c.eq.ensures ∙ tables-same c.args.self.now c.args.other.now e)
