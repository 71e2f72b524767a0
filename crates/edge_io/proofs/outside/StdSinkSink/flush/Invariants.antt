use Rattle.std.proofs.Common.{◌≡◌}
use Rattle.std.specs.Io.KnownBytes.{Keeps}
use Rattle.edge_io.proofs.outside.StdSinkSink.flush.Given as goal

abbrev pub invariant-loop : goal.invariant-loop
invariant-loop g l = record { kept : Keeps l.fn.self.written (g.W.Write.contents l.self-inside.writer); same : l.self-inside.faults ≡ l.fn.self.faults }
