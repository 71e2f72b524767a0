use Rattle.table_grow.proofs.Placed.{entry-number}
use Rattle.table_grow.proofs.Spots.{added-kept, added-made, added-own, added-spot, own-kept, own-spot}
use Rattle.table_grow.proofs.pieces.spot_of.Goals as goal

pub returns-in-Some-recall-clause-spot : goal.returns-in-Some-recall-clause-spot
returns-in-Some-recall-clause-spot c =
    entry-number c.args.finder.now c.args.id.index (c.in-Some.left, c.in-Some.right) c.in-Some-recall.number c.parts-parts.ensures.ready c.in-Some.ensures.parts c.in-Some-recall.ensures

pub returns-in-Some-find-clause-spot : goal.returns-in-Some-find-clause-spot
returns-in-Some-find-clause-spot c =
    own-spot c.args.finder.now c.args.made.now.items c.requires.own.0 c.args.id (c.in-Some.left, c.in-Some.right) c.in-Some-find.index c.parts-parts.ensures.ready c.in-Some.ensures.parts
    c.requires.made c.requires.own.2 (c.in-Some-find.ensures c.requires.own.0 c.requires.own.1)

pub returns-in_ok-push_computed-in-None-clause-made : goal.returns-in_ok-push_computed-in-None-clause-made
returns-in_ok-push_computed-in-None-clause-made c = added-made c.args.finder.now c.args.made.now.items c.push_computed.new.made.items c.args.id _ _ c.in_ok-push_computed-in-None.ensures c.requires.made

pub returns-in_ok-push_computed-in-None-clause-kept : goal.returns-in_ok-push_computed-in-None-clause-kept
returns-in_ok-push_computed-in-None-clause-kept c = added-kept c.args.finder.now c.args.made.now.items c.push_computed.new.made.items c.args.id _ _ c.in_ok-push_computed-in-None.ensures

pub returns-in_ok-push_computed-in-None-clause-own : goal.returns-in_ok-push_computed-in-None-clause-own
returns-in_ok-push_computed-in-None-clause-own c =
    own-kept c.args.own.now c.args.made.now.items c.push_computed.new.made.items (returns-in_ok-push_computed-in-None-clause-kept c) c.requires.own

pub returns-in_ok-push_computed-in-None-clause-spot : goal.returns-in_ok-push_computed-in-None-clause-spot
returns-in_ok-push_computed-in-None-clause-spot c = added-spot c.args.finder.now c.args.made.now.items c.push_computed.new.made.items c.args.id _ _ c.in_ok-push_computed-in-None.ensures

pub returns-in_ok-index-in-Some-clause-made : goal.returns-in_ok-index-in-Some-clause-made
returns-in_ok-index-in-Some-clause-made c = added-made c.args.finder.now c.args.made.now.items c.push_computed-in-Some.new.made.items c.args.id _ _ c.in_ok-index-in-Some.ensures c.requires.made

pub returns-in_ok-index-in-Some-clause-kept : goal.returns-in_ok-index-in-Some-clause-kept
returns-in_ok-index-in-Some-clause-kept c = added-kept c.args.finder.now c.args.made.now.items c.push_computed-in-Some.new.made.items c.args.id _ _ c.in_ok-index-in-Some.ensures

pub returns-in_ok-index-in-Some-clause-own : goal.returns-in_ok-index-in-Some-clause-own
returns-in_ok-index-in-Some-clause-own c =
    added-own c.args.finder.now c.args.made.now.items c.push_computed-in-Some.new.made.items c.args.id _ _ c.in_ok-index-in-Some.ensures
    c.args.own.now c.note.new.self (c.in-Some.left, c.in-Some.right) c.in-Some.is c.requires.own c.note.ensures

pub returns-in_ok-index-in-Some-clause-spot : goal.returns-in_ok-index-in-Some-clause-spot
returns-in_ok-index-in-Some-clause-spot c = added-spot c.args.finder.now c.args.made.now.items c.push_computed-in-Some.new.made.items c.args.id _ _ c.in_ok-index-in-Some.ensures
