use Rattle.std.proofs.Common.{take}
use Rattle.count_tables.specs.Ahead.{AreMade}
use Rattle.count_tables.proofs.pieces.one_piece.Given as goal

abbrev pub invariant-loop-job : goal.invariant-loop-job
invariant-loop-job g l = AreMade l.kept (take l.job-index l.jobs) l.made.items
