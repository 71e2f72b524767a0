use Rattle.std.proofs.Common.{◌≡◌, ◌++◌, IsSome, List, length, ℕ}
use Rattle.edge_io.specs.Causes.{AreUnchanged}
use Rattle.edge_io.specs.Files.{IsBegun}
use Rattle.text_commands.proofs.writing.append_bytes.Given as goal

abbrev pub invariant-loop-piece : goal.invariant-loop-piece
invariant-loop-piece g l = record {
  some : IsSome (g.F.Shelf.begun l.shelf);
  room : length l.piece ≡ 65536;
  done : (done : List ℕ) × (done ++ l.bytes ≡ l.fn.bytes) × ((name so_far : List ℕ) → IsBegun (g.F.Shelf.begun l.fn.shelf) name so_far → IsBegun (g.F.Shelf.begun l.shelf) name (so_far ++ done));
  files : g.F.Shelf.files l.shelf ≡ g.F.Shelf.files l.fn.shelf;
  stand : AreUnchanged (g.F.Shelf.faults l.fn.shelf) (g.F.Shelf.faults l.shelf) (g.F.Shelf.wants l.fn.shelf) (g.F.Shelf.wants l.shelf);
}

abbrev pub decreases-loop-piece : goal.decreases-loop-piece
decreases-loop-piece g l = length l.bytes
