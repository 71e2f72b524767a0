use Rattle.std.proofs.Common.{◌∙◌, arith}
use Rattle.span_language.specs.Lines.{lines_of}
use Rattle.span_language.specs.Runs.{outside, RunsPrefix}
use Rattle.session_state.specs.Carried.{outlet}
use Rattle.span_talk.specs.Talk.{OfSent}
use Rattle.script_driver.specs.Progress.{IsHalted}
use Rattle.script_driver.proofs.Halting.{halted_later}
use Rattle.span_talk.proofs.Ends.{kept_or, same_stop}
use Rattle.span_talk.proofs.Known.{each_sent}
use Rattle.span_talk.proofs.hearing.hear_script.Given.{Over}
use Rattle.span_talk.proofs.hearing.hear_script.Goals.{In-Err}
use Rattle.span_talk.proofs.hearing.hear_script.Goals as goal

pub returns-in-Ok-clause-done : goal.returns-in-Ok-clause-done
returns-in-Ok-clause-done g c = each_sent (g.C.Client.left c.args.client.now) _ _ (λ sent talks. c.in-Ok.ensures.done sent _ _ talks) c.in_ok-progress.ensures.all

-- stopped in the last line
halted : (g : Over) (c : In-Err g) → IsHalted
    (λ Ends. OfSent (g.C.Client.left c.args.client.now) (λ sent. RunsPrefix Ends (lines_of sent) c.args.states
    (outside (g.K.Sink.written c.args.io.now.out.now) (g.F.Shelf.files c.args.io.now.shelf.now) c.args.meters.now.looks.now c.args.meters.now.pairs.now c.args.meters.now.places.now)
    (outside (g.K.Sink.written c.finish.new.io.out.now) (g.F.Shelf.files c.finish.new.io.shelf.now) c.finish.new.meters.looks.now c.finish.new.meters.pairs.now c.finish.new.meters.places.now)))
    (outlet (g.K.Sink.written c.args.io.now.out.now) (g.K.Sink.faults c.args.io.now.out.now) (g.K.Sink.wants c.args.io.now.out.now)) (g.F.Shelf.faults c.args.io.now.shelf.now)
    (outlet (g.K.Sink.written c.finish.new.io.out.now) (g.K.Sink.faults c.finish.new.io.out.now) (g.K.Sink.wants c.finish.new.io.out.now)) (g.F.Shelf.faults c.finish.new.io.shelf.now) c.in-Err.stop
halted g c =
    let k = g.K.Sink in
    let m = c.hear_all.new in
    let e = c.hear_all.ensures in
    halted_later _ _ _ (outlet (k.written m.io.out.now) (k.faults m.io.out.now) (k.wants m.io.out.now)) _ _ (g.F.Shelf.faults m.io.shelf.now) _ _ e.later e.wants_later e.shelf_later c.in-Err.ensures.stopped
    (λ Ends stops. each_sent (g.C.Client.left c.args.client.now) _ _ (λ sent talks. stops sent _ _ talks) c.in_ok-progress.ensures.all)

pub returns-clause-out_fault : goal.returns-clause-out_fault
returns-clause-out_fault g c = λ is. (halted g (goal.at.returns-clause-out_fault g c).In-Err).out_fault (same_stop _ _ is)

pub returns-clause-shelf_fault : goal.returns-clause-shelf_fault
returns-clause-shelf_fault g c = λ is. (halted g (goal.at.returns-clause-shelf_fault g c).In-Err).shelf_fault (same_stop _ _ is)

pub returns-clause-want : goal.returns-clause-want
returns-clause-want g c = λ is. (halted g (goal.at.returns-clause-want g c).In-Err).want (same_stop _ _ is) (g.K.Sink.wants c.args.io.now.out.now) (omega arith)

pub returns-in-Ok-clause-sound : goal.returns-in-Ok-clause-sound
returns-in-Ok-clause-sound g c =
    let first = c.in_ok-progress.ensures.sound in
    let last = c.in-Ok.ensures.sound in
    (first.0, last.0 ∙ first.1, last.1 ∙ first.2, last.2 ∙ first.3)

pub returns-in-Ok-clause-gone : goal.returns-in-Ok-clause-gone
returns-in-Ok-clause-gone g c = λ none. c.in-Ok.ensures.gone (c.in_ok-progress.ensures.gone none)

pub returns-clause-gone : goal.returns-clause-gone
returns-clause-gone g c = λ none. kept_or c.in-Err.stop _ (c.in-Err.ensures.gone (c.in_ok-progress.ensures.gone none))
