use Rattle.std.proofs.Common.{◌≡◌, length, take}
use Rattle.list_all.specs.Pages.{AreEach}
use Rattle.list_all.specs.Places.{HaveEach}
use Rattle.list_all.proofs.documents.first_piece.Given as goal

abbrev pub invariant-loop-index : goal.invariant-loop-index
invariant-loop-index g l = record {
  pages : AreEach (g.F.FindPage.is_page l.finder) l.seen.keys l.found.items;
  each : HaveEach (g.F.FindPage.is_page l.finder) l.found.items (take l.index l.documents.roots.now) l.places.items;
  count : length l.places.items ≡ l.index;
}
