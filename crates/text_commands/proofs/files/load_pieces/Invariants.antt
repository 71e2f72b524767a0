use Rattle.text_commands.proofs.Names.{fed_to, Grows, IsFileLoader, IsFilePrefix, IsWithinLimit, length, load_size, method_of, ◌-◌, ◌≡◌, ◌≤◌}
use Rattle.text_commands.proofs.files.load_pieces.Given as goal

abbrev pub invariant-loop-loader : goal.invariant-loop-loader
invariant-loop-loader g l = record {
  used : IsFileLoader l.store l.loader;
  method : method_of l.loader ≡ l.fn.method;
  at : l.at ≡ length (fed_to l.store l.loader);
  within : l.at ≤ load_size;
  prefix : IsFilePrefix (g.F.Shelf.files l.fn.shelf) l.name load_size (fed_to l.store l.loader);
  grows : Grows l.fn.store l.store l.fn.pairs l.pairs;
  cost : IsWithinLimit l.store l.loader l.fn.pairs l.pairs;
  files : g.F.Shelf.files l.shelf ≡ g.F.Shelf.files l.fn.shelf;
  sound : g.F.Shelf.faults l.shelf ≡ g.F.Shelf.faults l.fn.shelf;
}

abbrev pub decreases-loop-loader : goal.decreases-loop-loader
decreases-loop-loader g l = load_size - l.at
