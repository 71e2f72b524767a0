use Rattle.std.proofs.Common.{◌≡◌, ◌+◌, ◌<◌, length, subst, arith}
use Rattle.distinct_items.specs.Search.{bits_of, IsOpen, IsSearchTree}
use Rattle.distinct_items.proofs.SearchLemmas.{tree-push, last-of}
use Rattle.distinct_items.proofs.DistinctItems.insert.Goals as goal

pub invariant_of-self-in-Open : goal.invariant_of-self-in-Open
invariant_of-self-in-Open g c =
    let items = c.self.inside.items.items in
    let roots = c.in_ok-self-inside.field-0 in
    let links = c.roots_for_more.new.links.items in
    let more = c.in_ok-self-inside.ensures.more in
    let room : length items < roots = subst (λ ts. length ts < roots) c.deref.ensures.value more.0 in
    let tree : IsSearchTree (bits_of g.T.Digested.root g.T.Digested.branch) roots items (length items) links = subst (λ ts. IsSearchTree (bits_of g.T.Digested.root g.T.Digested.branch) roots ts (length ts) links) c.deref.ensures.value more.1 in
    let free : IsOpen (bits_of g.T.Digested.root g.T.Digested.branch) roots c.args.item (length items) links c.in-Open.slot =
    subst (λ ls. IsOpen (bits_of g.T.Digested.root g.T.Digested.branch) roots c.args.item (length items) ls c.in-Open.slot) c.deref-3.ensures.value
    (subst (λ ts. IsOpen (bits_of g.T.Digested.root g.T.Digested.branch) roots c.args.item (length ts) c.deref-3.result.now c.in-Open.slot) c.deref-2.ensures.value c.in-Open.ensures.1) in
    let link : c.len-index.result + 1 ≡ length items + 1 = omega (arith, c.len-index.ensures) in
    rw (c.push_reserved.ensures.items, c.reserve.ensures.items) (tree-push (bits_of g.T.Digested.root g.T.Digested.branch) roots items links c.args.item c.in-Open.slot (c.len-index.result + 1) tree room free link)

pub returns-in_ok-reserve-in-Open-clause-index : goal.returns-in_ok-reserve-in-Open-clause-index
returns-in_ok-reserve-in-Open-clause-index g c =
    let last : c.len-index.result ≡ length c.self.inside.items.items = omega (arith, c.len-index.ensures) in
    rw (c.push_reserved.ensures.items, c.reserve.ensures.items, last) (last-of c.self.inside.items.items c.args.item)
