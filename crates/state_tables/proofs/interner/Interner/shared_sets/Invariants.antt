use Rattle.std.proofs.Common.{◌≡◌, take}
use Rattle.state_tables.proofs.interner.Interner.shared_sets.Given as goal

abbrev pub invariant-loop-index : goal.invariant-loop-index
invariant-loop-index l = l.shared ≡ record { width = l.sets.width; sets = take l.index l.sets.sets }
