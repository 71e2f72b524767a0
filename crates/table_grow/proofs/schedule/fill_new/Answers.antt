use Rattle.std.proofs.Common.{get_or, subst}
use Rattle.slp_model.specs.declared.NodeId.{NodeId}
use Rattle.table_grow.specs.Filling.{AssignsOne, Filling}
use Rattle.table_grow.proofs.Growing.{assigns-next}
use Rattle.table_grow.proofs.Scheduling.{due-scheduled, filled-scheduled}
use Rattle.table_grow.proofs.schedule.fill_new.Goals as goal

abbrev none : NodeId
none = record { index = 0 }

pub find-requires : goal.find-requires
find-requires c =
    due-scheduled c.args.filling.now c.loop-id.filling c.loop-id.id-index c.args.schedule.now c.requires.schedule c.loop-id.invariant none c.loop-id-test.true c.requires.filled

pub loop-id-preserved : goal.loop-id-preserved
loop-id-preserved c =
    let at = c.loop-id in
    let now = c.place_found.new.filling in
    assigns-next c.args.filling.now at.filling now at.id-index c.args.schedule.now none c.loop-id-test.true at.invariant
    (subst (λ (s : Filling). AssignsOne s now (get_or c.args.schedule.now at.id-index none)) c.find.ensures.same c.in_ok-place_found.ensures.one)

pub returns-clause-filled : goal.returns-clause-filled
returns-clause-filled c = filled-scheduled c.args.filling.now c.loop-id.filling c.loop-id.id-index c.args.schedule.now c.requires.schedule c.loop-id.invariant c.loop-id-test.false
