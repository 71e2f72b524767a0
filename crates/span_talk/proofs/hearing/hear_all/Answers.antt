use Rattle.std.proofs.Common.{◌++◌, ◌∙◌, inl, [], arith, ap, length, length-append, take, refl}
use Rattle.std.proofs.KnownBytes.{Consumes-nil, Consumes-trans, Consumes-kept}
use Rattle.span_language.specs.Lines.{lines_of}
use Rattle.span_language.specs.Runs.{outside, RunsPrefix}
use Rattle.session_state.specs.Carried.{outlet}
use Rattle.script_driver.proofs.RunsLemmas.{increased_later}
use Rattle.span_talk.specs.Talk.{AreServed, OfSent, moment}
use Rattle.script_driver.specs.Progress.{IsHalted}
use Rattle.script_driver.proofs.Halting.{halted_later}
use Rattle.span_talk.proofs.Ends.{kept_or, same_stop}
use Rattle.span_talk.proofs.Known.{more_served, none_served}
use Rattle.span_talk.proofs.Talking.{have_run, replied, stops_sent}
use Rattle.span_talk.proofs.hearing.hear_all.Given.{Over}
use Rattle.span_talk.proofs.hearing.hear_all.Goals.{After-hear, In-Err-feed}
use Rattle.span_talk.proofs.hearing.hear_all.Goals as goal

pub pieces-init : goal.pieces-init
pieces-init g c =
    let t = g.C.Client in
    let a = c.args in
    let before = outside (g.K.Sink.written a.io.now.out.now) (g.F.Shelf.files a.io.now.shelf.now) a.meters.now.looks.now a.meters.now.pairs.now a.meters.now.places.now in
    let p = c.new-progress.ensures in
    record {
      same_io = record { out = refl; shelf = refl };
      same_meters = record { pairs = refl; places = refl; looks = refl };
      so_far = ([], Consumes-nil (t.left a.client.now), refl, p.begins before);
      model = p.model;
      next = omega (arith, p.next);
      kept = omega (arith, ap length p.empty);
      served = none_served (t.left a.client.now) a.states before (t.moments a.client.now);
      client_faults = refl;
      faults = refl;
      wants = refl;
      shelf_faults = refl;
      gone = λ none. none;
    }

pub returns-in-Err-clause-fault : goal.returns-in-Err-clause-fault
returns-in-Err-clause-fault g c =
    let t = g.C.Client in
    let i = c.pieces.invariant in
    λ _. (
      increased_later (t.faults c.args.client.now) (t.faults c.pieces.client) (t.faults c.hear.new.self) (omega (arith, i.client_faults)) c.in-Err.ensures.cause.failed,
      (i.so_far.0, Consumes-kept (t.left c.args.client.now) (t.left c.pieces.client) (t.left c.hear.new.self) i.so_far.0 i.so_far.1 c.in-Err.ensures.bytes, have_run i.so_far.0 _ _ _ _ i.so_far.3 i.model),
    )

-- the replies to all complete lines had been written when the client was called
served : (g : Over) (c : After-hear g)
    → AreServed (g.C.Client.left c.args.client.now) c.args.states (outside (g.K.Sink.written c.args.io.now.out.now) (g.F.Shelf.files c.args.io.now.shelf.now) c.args.meters.now.looks.now c.args.meters.now.pairs.now c.args.meters.now.places.now) (g.C.Client.moments c.args.client.now) (g.C.Client.moments c.hear.new.self)
served g c =
    let t = g.C.Client in
    let l = c.pieces in
    let i = l.invariant in
    more_served (t.left c.args.client.now) _ _ (t.moments c.args.client.now) (t.moments l.client) (t.moments c.hear.new.self) (moment (t.left l.client) (g.K.Sink.written l.io.out.now) l.progress.number)
    i.served c.hear.ensures.moment (i.so_far.0, i.so_far.1, replied i.so_far.0 _ _ _ _ i.so_far.3)

pub returns-in-Err-clause-served : goal.returns-in-Err-clause-served
returns-in-Err-clause-served g c = served g (goal.at.returns-in-Err-clause-served g c).After-hear

pub returns-then-count-eq0-clause-served : goal.returns-then-count-eq0-clause-served
returns-then-count-eq0-clause-served g c = served g (goal.at.returns-then-count-eq0-clause-served g c).After-hear

pub returns-in-Err-feed-clause-served : goal.returns-in-Err-feed-clause-served
returns-in-Err-feed-clause-served g c = served g (goal.at.returns-in-Err-feed-clause-served g c).After-hear

-- a run that was stopped in a piece
halted : (g : Over) (c : In-Err-feed g) → IsHalted
    (λ Ends. OfSent (g.C.Client.left c.args.client.now) (λ sent. RunsPrefix Ends (lines_of sent) c.args.states
    (outside (g.K.Sink.written c.args.io.now.out.now) (g.F.Shelf.files c.args.io.now.shelf.now) c.args.meters.now.looks.now c.args.meters.now.pairs.now c.args.meters.now.places.now)
    (outside (g.K.Sink.written c.feed.new.io.out.now) (g.F.Shelf.files c.feed.new.io.shelf.now) c.feed.new.meters.looks.now c.feed.new.meters.pairs.now c.feed.new.meters.places.now)))
    (outlet (g.K.Sink.written c.args.io.now.out.now) (g.K.Sink.faults c.args.io.now.out.now) (g.K.Sink.wants c.args.io.now.out.now)) (g.F.Shelf.faults c.args.io.now.shelf.now)
    (outlet (g.K.Sink.written c.feed.new.io.out.now) (g.K.Sink.faults c.feed.new.io.out.now) (g.K.Sink.wants c.feed.new.io.out.now)) (g.F.Shelf.faults c.feed.new.io.shelf.now) c.in-Err-feed.stop
halted g c =
    let t = g.C.Client in
    let k = g.K.Sink in
    let l = c.pieces in
    let i = l.invariant in
    halted_later _ _ _ (outlet (k.written l.io.out.now) (k.faults l.io.out.now) (k.wants l.io.out.now)) _ _ (g.F.Shelf.faults l.io.shelf.now) _ _ (omega (arith, i.faults)) (omega (arith, i.wants)) (omega (arith, i.shelf_faults)) c.in-Err-feed.ensures.stopped
    (λ Ends stops. stops_sent (t.left c.args.client.now) (t.left l.client) (t.left c.hear.new.self) i.so_far.0 _ _ _ _ _ Ends _ i.so_far.1 c.in-Ok.ensures.bytes.0 i.so_far.3 stops)

pub returns-in-Err-feed-clause-out_fault : goal.returns-in-Err-feed-clause-out_fault
returns-in-Err-feed-clause-out_fault g c = λ is. (halted g (goal.at.returns-in-Err-feed-clause-out_fault g c).In-Err-feed).out_fault (same_stop _ _ is)

pub returns-in-Err-feed-clause-shelf_fault : goal.returns-in-Err-feed-clause-shelf_fault
returns-in-Err-feed-clause-shelf_fault g c = λ is. (halted g (goal.at.returns-in-Err-feed-clause-shelf_fault g c).In-Err-feed).shelf_fault (same_stop _ _ is)

pub returns-in-Err-feed-clause-want : goal.returns-in-Err-feed-clause-want
returns-in-Err-feed-clause-want g c =
    λ is. (halted g (goal.at.returns-in-Err-feed-clause-want g c).In-Err-feed).want (same_stop _ _ is) (g.K.Sink.wants c.args.io.now.out.now) (omega arith)

pub pieces-preserved : goal.pieces-preserved
pieces-preserved g c =
    let t = g.C.Client in
    let i = c.pieces.invariant in
    let bytes = i.so_far.0 in
    let o = c.in-Ok-feed in
    let count = c.in-Ok.ensures.bound.1 in
    let piece = take c.in-Ok.count c.hear.new.into in
    record {
      same_io = record { out = c.feed.ensures.same_io.out ∙ i.same_io.out; shelf = c.feed.ensures.same_io.shelf ∙ i.same_io.shelf };
      same_meters = record { pairs = c.feed.ensures.same_meters.pairs ∙ i.same_meters.pairs; places = c.feed.ensures.same_meters.places ∙ i.same_meters.places; looks = c.feed.ensures.same_meters.looks ∙ i.same_meters.looks };
      so_far = (
        bytes ++ piece,
        Consumes-trans (t.left c.args.client.now) (t.left c.pieces.client) (t.left c.hear.new.self) bytes piece i.so_far.1 c.in-Ok.ensures.bytes.0,
        omega (arith, i.so_far.2, count, length-append bytes piece),
        o.ensures.done bytes _ _ i.so_far.3,
      );
      model = c.feed.ensures.model;
      next = omega (arith, i.next, o.ensures.next, count);
      kept = o.ensures.kept;
      served = served g (goal.at.pieces-preserved g c).After-hear;
      client_faults = c.in-Ok.ensures.cause.kept ∙ i.client_faults;
      faults = o.ensures.sound.0 ∙ i.faults;
      wants = o.ensures.sound.1 ∙ i.wants;
      shelf_faults = o.ensures.sound.2 ∙ i.shelf_faults;
      gone = λ none. o.ensures.gone (i.gone none);
    }

pub returns-clause-too_long : goal.returns-clause-too_long
returns-clause-too_long g c =
    let i = c.pieces.invariant in
    λ _. (i.so_far.0, i.so_far.1, (omega (arith, i.so_far.2), have_run i.so_far.0 _ _ _ _ i.so_far.3 i.model))

pub returns-in-Err-clause-gone : goal.returns-in-Err-clause-gone
returns-in-Err-clause-gone g c = λ none. inl (c.pieces.invariant.gone none)

pub returns-in-Err-feed-clause-gone : goal.returns-in-Err-feed-clause-gone
returns-in-Err-feed-clause-gone g c = λ none. kept_or c.in-Err-feed.stop _ (c.in-Err-feed.ensures.gone (c.pieces.invariant.gone none))

pub returns-clause-gone : goal.returns-clause-gone
returns-clause-gone g c = λ none. inl (c.pieces.invariant.gone none)

pub returns-then-count-eq0-clause-sound : goal.returns-then-count-eq0-clause-sound
returns-then-count-eq0-clause-sound g c =
    let i = c.pieces.invariant in
    (c.in-Ok.ensures.cause.kept ∙ i.client_faults, i.faults, i.wants, i.shelf_faults)
