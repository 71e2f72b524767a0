use Rattle.std.proofs.Common.{rules, arith, ◌≡◌, ◌≢◌, ◌-◌, true, false, get_or}
use Rattle.node_store.specs.contracts.narrow.NarrowPartialEq.TheImpl.{ghosts}
use Rattle.node_store.specs.Narrow.{IsPair}
use Rattle.node_store.proofs.FirstLemmas.{not-first, right-way}
use Rattle.node_store.proofs.NarrowLemmas.{equals-at}
use Rattle.node_store.proofs.nodes.way_of.Goals as goal

pub bounds-all-index : goal.bounds-all-index
bounds-all-index c =
    let some : get_or c.args.firsts.now c.args.narrow.left 0 ≢ 0 = search rules in
    c.requires.inside c.args.narrow.left (get_or c.args.firsts.now c.args.narrow.left 0 - 1) (omega (arith, some))

pub returns-then-eq : goal.returns-then-eq
returns-then-eq c =
    let some : get_or c.args.firsts.now c.args.narrow.left 0 ≢ 0 = search rules in
    let within = c.requires.inside c.args.narrow.left (get_or c.args.firsts.now c.args.narrow.left 0 - 1) (omega (arith, some)) in
    let e : ghosts.eq (get_or c.args.all.now (get_or c.args.firsts.now c.args.narrow.left 0 - 1) c.args.narrow) c.args.narrow ≡ true = search rules in
    equals-at c.args.all.now c.args.narrow (get_or c.args.firsts.now c.args.narrow.left 0 - 1) within e

pub returns-else-eq : goal.returns-else-eq
returns-else-eq c =
    let pair : IsPair c.args.narrow = search rules in
    let some : get_or c.args.firsts.now c.args.narrow.left 0 ≢ 0 = search rules in
    let e : ghosts.eq (get_or c.args.all.now (get_or c.args.firsts.now c.args.narrow.left 0 - 1) (record { left = 0; right = 0 })) c.args.narrow ≡ false = search rules in
    right-way c.args.all.now c.args.firsts.now c.args.seconds.now c.args.narrow c.right_way_of.result pair
    (not-first c.args.all.now c.args.firsts.now (get_or c.args.firsts.now c.args.narrow.left 0 - 1) c.args.narrow (record { left = 0; right = 0 }) (omega (arith, some)) e) c.right_way_of.ensures
