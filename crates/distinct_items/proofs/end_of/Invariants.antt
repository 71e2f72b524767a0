use Rattle.std.proofs.Common.{◌*◌, ◌-◌, length}
use Rattle.distinct_items.specs.Search.{bits_of}
use Rattle.distinct_items.proofs.SearchLemmas.{IsOnWay, IsAhead}
use Rattle.distinct_items.proofs.end_of.Given as goal

abbrev pub invariant-way : goal.invariant-way
invariant-way g l = record {
  way : IsOnWay (bits_of g.T.Digested.root g.T.Digested.branch) l.roots l.item (length l.items) l.links l.depth l.slot;
  ahead : IsAhead (bits_of g.T.Digested.root g.T.Digested.branch) l.roots l.item l.items l.links l.depth l.slot;
}

abbrev pub decreases-way : goal.decreases-way
decreases-way g l = 3 * l.roots - l.slot
