use Rattle.std.proofs.Common.{sym}
use Rattle.node_store.specs.declared.node_table.Search.TheVariants.{Absent}
use Rattle.node_store.specs.Others.{IsOtherSearch}
use Rattle.node_store.proofs.FirstLemmas.{other-added, others-moved, get-last}
use Rattle.node_store.proofs.nodes.insert_other.Goals as goal

pub returns-in_err-index-in-Absent-clause-indexed : goal.returns-in_err-index-in-Absent-clause-indexed
returns-in_err-index-in-Absent-clause-indexed c =
    let moved = others-moved c.args.all.now.items c.args.firsts.now.items c.args.seconds.now.items c.args.others.now c.make_room.new.self c.requires.indexed c.make_room.ensures.slots c.make_room.ensures.late c.make_room.ensures.indices in
    let kept = c.in_err-index-in-Absent.ensures.err in
    rw (kept.0, kept.1, kept.2, kept.3) moved

pub returns-in_ok-index-in-Absent-clause-indexed : goal.returns-in_ok-index-in-Absent-clause-indexed
returns-in_ok-index-in-Absent-clause-indexed c =
    let moved = others-moved c.args.all.now.items c.args.firsts.now.items c.args.seconds.now.items c.args.others.now c.make_room.new.self c.requires.indexed c.make_room.ensures.slots c.make_room.ensures.late c.make_room.ensures.indices in
    let found : IsOtherSearch c.args.all.now.items c.make_room.new.self c.args.narrow (Absent c.in-Absent.slot) = rw (sym c.deref.ensures.value) c.in-Absent.ensures in
    let made = c.in_ok-index-in-Absent.ensures in
    rw (made.all, made.firsts, made.seconds)
    (other-added c.args.all.now.items c.args.firsts.now.items c.args.seconds.now.items c.make_room.new.self c.args.narrow moved c.add_other.new.others c.in-Absent.slot c.requires.byte c.requires.other found.0 found.1 found.2 made.others)

pub returns-in_ok-index-in-Absent-clause-node : goal.returns-in_ok-index-in-Absent-clause-node
returns-in_ok-index-in-Absent-clause-node c = rw (c.in_ok-index-in-Absent.ensures.all, c.in_ok-index-in-Absent.ensures.index) (get-last c.args.all.now.items c.args.narrow)
