use Rattle.std.proofs.Common.{rules, ◌≡◌, ◌+◌, length}
use Rattle.node_store.proofs.SearchTreeLemmas.{tree-same, tree-added}
use Rattle.node_store.proofs.search_tree.add.Goals as goal

pub returns-in_err-lengthen-clause-tree : goal.returns-in_err-lengthen-clause-tree
returns-in_err-lengthen-clause-tree c = rw c.reserve.ensures.items (tree-same c.args.nodes.now.items c.args.links.now.items c.lengthen.new.links.items c.lengthen.ensures.same c.requires.tree)

pub returns-clause-tree : goal.returns-clause-tree
returns-clause-tree c =
    let link : c.in_ok-link.link ≡ length c.args.nodes.now.items + 1 = search rules in
    rw (c.push_reserved.ensures.items, c.reserve.ensures.items) (tree-added c.args.nodes.now.items c.args.links.now.items c.lengthen.new.links.items c.args.narrow c.args.slot c.in_ok-link.link c.requires.tree c.requires.open c.lengthen.ensures.same c.in_ok-lengthen.ensures.long link)
