use Rattle.std.proofs.Common.{◌*◌, ◌-◌}
use Rattle.distinct_items.specs.Search.{bits_of}
use Rattle.distinct_items.proofs.SearchLemmas.{IsOnWay}
use Rattle.distinct_items.proofs.open_of.Given as goal

abbrev pub invariant-way : goal.invariant-way
invariant-way g l = IsOnWay (bits_of g.T.Digested.root g.T.Digested.branch) l.roots l.item l.index l.links l.depth l.slot

abbrev pub decreases-way : goal.decreases-way
decreases-way g l = 3 * l.roots - l.slot
