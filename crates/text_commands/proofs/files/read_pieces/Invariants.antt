use Rattle.text_commands.proofs.Names.{IsFilePrefix, length, open_size, ◌-◌, ◌≡◌, ◌≤◌}
use Rattle.text_commands.proofs.files.read_pieces.Given as goal

abbrev pub invariant-loop-piece : goal.invariant-loop-piece
invariant-loop-piece g l = record {
  within : length l.bytes.items ≤ open_size;
  prefix : IsFilePrefix (g.F.Shelf.files l.fn.shelf) l.name open_size l.bytes.items;
  files : g.F.Shelf.files l.shelf ≡ g.F.Shelf.files l.fn.shelf;
  sound : g.F.Shelf.faults l.shelf ≡ g.F.Shelf.faults l.fn.shelf;
}

abbrev pub decreases-loop-piece : goal.decreases-loop-piece
decreases-loop-piece g l = open_size - length l.bytes.items
