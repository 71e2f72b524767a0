use Rattle.std.proofs.Common.{length, sym}
use Rattle.node_store.specs.declared.nodes.Way.TheVariants.{First, Second}
use Rattle.node_store.specs.Firsts.{IsWay}
use Rattle.node_store.proofs.FirstLemmas.{first-absent, first-added, second-absent, second-added, get-last}
use Rattle.node_store.proofs.NarrowLemmas.{below-pair}
use Rattle.node_store.proofs.nodes.insert_narrow.Goals as goal

pub way_of-requires-clause-left : goal.way_of-requires-clause-left
way_of-requires-clause-left c = λ pair. rw (c.deref-2.ensures.value, c.requires.indexed.as_many) (below-pair (length c.args.all.now.items) c.args.narrow c.requires.below pair).0

pub way_of-requires-clause-right : goal.way_of-requires-clause-right
way_of-requires-clause-right c = λ pair. rw (c.deref-3.ensures.value, c.requires.indexed.as_many_right) (below-pair (length c.args.all.now.items) c.args.narrow c.requires.below pair).1

pub way_of-requires-clause-inside : goal.way_of-requires-clause-inside
way_of-requires-clause-inside c = rw (c.deref.ensures.value, c.deref-2.ensures.value) c.requires.indexed.inside

pub way_of-requires-clause-inside_right : goal.way_of-requires-clause-inside_right
way_of-requires-clause-inside_right c = rw (c.deref.ensures.value, c.deref-3.ensures.value) c.requires.indexed.inside_right

pub returns-in_ok-index-in-First-clause-indexed : goal.returns-in_ok-index-in-First-clause-indexed
returns-in_ok-index-in-First-clause-indexed c =
    let way : IsWay c.args.all.now.items c.args.firsts.now.items c.args.seconds.now.items c.args.narrow (First c.in-First.left) = rw (sym c.deref-2.ensures.value) c.in-First.ensures in
    rw (c.in_ok-index-in-First.ensures.all, c.in_ok-index-in-First.ensures.links, c.in_ok-index-in-First.ensures.rest)
    (first-added c.args.all.now.items c.args.firsts.now.items c.args.seconds.now.items c.args.others.now c.args.narrow c.requires.indexed c.in-First.left c.requires.byte way)

pub returns-in_ok-index-in-First-clause-added : goal.returns-in_ok-index-in-First-clause-added
returns-in_ok-index-in-First-clause-added c = λ was.
    let way : IsWay c.args.all.now.items c.args.firsts.now.items c.args.seconds.now.items c.args.narrow (First c.in-First.left) = rw (sym c.deref-2.ensures.value) c.in-First.ensures in
    (c.in_ok-index-in-First.ensures.all, first-absent c.args.all.now.items c.args.firsts.now.items c.args.seconds.now.items c.args.others.now c.args.narrow c.requires.indexed c.in-First.left way)

pub returns-in_ok-index-in-First-clause-node : goal.returns-in_ok-index-in-First-clause-node
returns-in_ok-index-in-First-clause-node c =
    rw (c.in_ok-index-in-First.ensures.all, c.in_ok-index-in-First.ensures.index) (get-last c.args.all.now.items c.args.narrow)

pub returns-in_ok-index-in-Second-clause-indexed : goal.returns-in_ok-index-in-Second-clause-indexed
returns-in_ok-index-in-Second-clause-indexed c =
    let way : IsWay c.args.all.now.items c.args.firsts.now.items c.args.seconds.now.items c.args.narrow (Second c.in-Second.right) = rw (sym c.deref.ensures.value, sym c.deref-2.ensures.value, sym c.deref-3.ensures.value) c.in-Second.ensures in
    rw (c.in_ok-index-in-Second.ensures.all, c.in_ok-index-in-Second.ensures.links, c.in_ok-index-in-Second.ensures.rest)
    (second-added c.args.all.now.items c.args.firsts.now.items c.args.seconds.now.items c.args.others.now c.args.narrow c.requires.indexed c.in-Second.right c.requires.byte way)

pub returns-in_ok-index-in-Second-clause-added : goal.returns-in_ok-index-in-Second-clause-added
returns-in_ok-index-in-Second-clause-added c = λ was.
    let way : IsWay c.args.all.now.items c.args.firsts.now.items c.args.seconds.now.items c.args.narrow (Second c.in-Second.right) = rw (sym c.deref.ensures.value, sym c.deref-2.ensures.value, sym c.deref-3.ensures.value) c.in-Second.ensures in
    (c.in_ok-index-in-Second.ensures.all, second-absent c.args.all.now.items c.args.firsts.now.items c.args.seconds.now.items c.args.others.now c.args.narrow c.requires.indexed c.in-Second.right way)

pub returns-in_ok-index-in-Second-clause-node : goal.returns-in_ok-index-in-Second-clause-node
returns-in_ok-index-in-Second-clause-node c =
    rw (c.in_ok-index-in-Second.ensures.all, c.in_ok-index-in-Second.ensures.index) (get-last c.args.all.now.items c.args.narrow)
