use Rattle.std.proofs.Common.{◌≡◌}
use Rattle.std.specs.Io.KnownBytes.{Keeps}
use Rattle.edge_io.proofs.outside.StdSourceSource.read.Given as goal

abbrev pub invariant-loop : goal.invariant-loop
invariant-loop g l = record { kept : Keeps l.fn.self.left (g.R.Read.remaining l.self-inside.reader); same : l.self-inside.faults ≡ l.fn.self.faults }
