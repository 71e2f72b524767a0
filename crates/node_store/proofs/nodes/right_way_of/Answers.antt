use Rattle.std.proofs.Common.{rules, arith, ◌≡◌, ◌≢◌, ◌-◌, true, false, get_or}
use Rattle.node_store.specs.contracts.narrow.NarrowPartialEq.TheImpl.{ghosts}
use Rattle.node_store.proofs.FirstLemmas.{not-second}
use Rattle.node_store.proofs.NarrowLemmas.{equals-at}
use Rattle.node_store.proofs.nodes.right_way_of.Goals as goal

pub bounds-all-index : goal.bounds-all-index
bounds-all-index c =
    let some : get_or c.args.seconds.now c.args.pair.right 0 ≢ 0 = search rules in
    c.requires.inside c.args.pair.right (get_or c.args.seconds.now c.args.pair.right 0 - 1) (omega (arith, some))

pub returns-then-eq : goal.returns-then-eq
returns-then-eq c =
    let some : get_or c.args.seconds.now c.args.pair.right 0 ≢ 0 = search rules in
    let within = c.requires.inside c.args.pair.right (get_or c.args.seconds.now c.args.pair.right 0 - 1) (omega (arith, some)) in
    let e : ghosts.eq (get_or c.args.all.now (get_or c.args.seconds.now c.args.pair.right 0 - 1) c.args.pair) c.args.pair ≡ true = search rules in
    equals-at c.args.all.now c.args.pair (get_or c.args.seconds.now c.args.pair.right 0 - 1) within e

pub returns-else-eq : goal.returns-else-eq
returns-else-eq c =
    let some : get_or c.args.seconds.now c.args.pair.right 0 ≢ 0 = search rules in
    let e : ghosts.eq (get_or c.args.all.now (get_or c.args.seconds.now c.args.pair.right 0 - 1) (record { left = 0; right = 0 })) c.args.pair ≡ false = search rules in
    not-second c.args.all.now c.args.seconds.now (get_or c.args.seconds.now c.args.pair.right 0 - 1) c.args.pair (record { left = 0; right = 0 }) (omega (arith, some)) e
