use Rattle.std.proofs.Common.{◌≡◌, ℕ, ◌<◌, get_or}
use Rattle.state_tables.specs.TableRows.{sets_in}
use Rattle.state_tables.proofs.table_sets.TableSets.is_same.Given as goal

abbrev pub invariant-loop-set : goal.invariant-loop-set
invariant-loop-set l = (k : ℕ) → k < l.set → get_or (sets_in l.self).sets k 0 ≡ get_or (sets_in l.others).sets k 0
