use Rattle.std.proofs.Common.{rules, arith, ◌≡◌, suc, ◌-◌, true, false, get_or}
use Rattle.node_store.specs.contracts.narrow.NarrowPartialEq.TheImpl.{ghosts}
use Rattle.node_store.proofs.NarrowLemmas.{differs-at, equals-at}
use Rattle.node_store.proofs.SearchTreeLemmas.{on_way-step, on_way-end}
use Rattle.node_store.proofs.search_tree.end_of.Goals as goal

pub returns-then-link-eq0 : goal.returns-then-link-eq0
returns-then-link-eq0 c =
    let none : get_or c.args.links.now c.way.slot 0 ≡ 0 = search rules in
    on_way-end c.args.nodes.now c.args.links.now c.args.narrow c.way.digits c.way.slot c.way.invariant none

pub bounds-nodes-index : goal.bounds-nodes-index
bounds-nodes-index c =
    let linked : get_or c.args.links.now c.way.slot 0 ≡ suc (c.link_at-link.result - 1) = grind arith in
    (c.requires.later c.way.slot (c.link_at-link.result - 1) linked).1

pub returns-then-eq : goal.returns-then-eq
returns-then-eq c =
    let linked : get_or c.args.links.now c.way.slot 0 ≡ suc (c.link_at-link.result - 1) = grind arith in
    let within = (c.requires.later c.way.slot (c.link_at-link.result - 1) linked).1 in
    let same : ghosts.eq (get_or c.args.nodes.now (c.link_at-link.result - 1) c.args.narrow) c.args.narrow ≡ true = search rules in
    equals-at c.args.nodes.now c.args.narrow (c.link_at-link.result - 1) within same

pub way-smaller : goal.way-smaller
way-smaller c =
    let linked : get_or c.args.links.now c.way.slot 0 ≡ suc (c.link_at-link.result - 1) = grind arith in
    let later = c.requires.later c.way.slot (c.link_at-link.result - 1) linked in
    omega (arith, later.0, later.1)

pub way-preserved : goal.way-preserved
way-preserved c =
    let linked : get_or c.args.links.now c.way.slot 0 ≡ suc (c.link_at-link.result - 1) = grind arith in
    let other : ghosts.eq (get_or c.args.nodes.now (c.link_at-link.result - 1) (record { left = 0; right = 0 })) c.args.narrow ≡ false = search rules in
    on_way-step c.args.nodes.now c.args.links.now c.args.narrow c.way.digits c.way.slot (c.link_at-link.result - 1) c.requires c.way.invariant linked (differs-at c.args.nodes.now c.args.narrow (record { left = 0; right = 0 }) (c.link_at-link.result - 1) other)
