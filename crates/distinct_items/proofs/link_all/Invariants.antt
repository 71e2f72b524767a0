use Rattle.distinct_items.specs.Search.{bits_of, IsSearchTree}
use Rattle.distinct_items.proofs.link_all.Given as goal

abbrev pub invariant-loop-index : goal.invariant-loop-index
invariant-loop-index g l = IsSearchTree (bits_of g.T.Digested.root g.T.Digested.branch) l.roots l.items l.index l.links
