use Rattle.span_run.proofs.Names.{[], arith, err_from_is_err_and, lines_of, outlet, outside, RunsPrefix, ◌∙◌}
use Rattle.std.proofs.lemmas.Result.{IfOk-weaker}
use Rattle.script_driver.proofs.Halting.{out_faults, shelf_faults, wants_more}
use Rattle.span_run.proofs.Facts.{halted_at_end, halted_in_line}
use Rattle.span_run.proofs.run_script.run_lines.Goals as goal

pub returns-in_err-feed : goal.returns-in_err-feed
returns-in_err-feed g c =
    let k = g.K.Sink in
    let f = g.F.Shelf in
    let a = c.args in
    let n = c.feed.new in
    let before = outside (k.written a.io.now.out.now) (f.files a.io.now.shelf.now) a.meters.now.looks.now a.meters.now.pairs.now a.meters.now.places.now in
    let after = outside (k.written n.io.out.now) (f.files n.io.shelf.now) n.meters.looks.now n.meters.pairs.now n.meters.places.now in
    let sink = outlet (k.written a.io.now.out.now) (k.faults a.io.now.out.now) (k.wants a.io.now.out.now) in
    let last = outlet (k.written n.io.out.now) (k.faults n.io.out.now) (k.wants n.io.out.now) in
    let h = halted_in_line a.script.now a.states before after _ _ sink last (f.faults a.io.now.shelf.now) (f.faults n.io.shelf.now) c.in_err-feed.field-0.0 (c.new-progress.ensures.begins before) c.in_err-feed.ensures.stopped in
    let p = err_from_is_err_and c.from_residual.result c.from_residual.ensures.1 in
    rw (p.1, p.2) (record {
      same_io = c.feed.ensures.same_io;
      same_meters = c.feed.ensures.same_meters;
      done = tt;
      out_fault = h.out_fault;
      shelf_fault = h.shelf_fault;
      want = λ is. h.want is (k.wants a.io.now.out.now) (omega arith);
      sound = tt;
      gone = c.in_err-feed.ensures.gone;
    })

pub returns : goal.returns
returns g c =
    let k = g.K.Sink in
    let f = g.F.Shelf in
    let a = c.args in
    let m = c.feed.new in
    let n = c.finish.new in
    let first = c.in_ok-feed.ensures in
    let e = c.finish.ensures in
    let before = outside (k.written a.io.now.out.now) (f.files a.io.now.shelf.now) a.meters.now.looks.now a.meters.now.pairs.now a.meters.now.places.now in
    let after = outside (k.written n.io.out.now) (f.files n.io.shelf.now) n.meters.looks.now n.meters.pairs.now n.meters.places.now in
    let sink = outlet (k.written a.io.now.out.now) (k.faults a.io.now.out.now) (k.wants a.io.now.out.now) in
    let mid = outlet (k.written m.io.out.now) (k.faults m.io.out.now) (k.wants m.io.out.now) in
    let last = outlet (k.written n.io.out.now) (k.faults n.io.out.now) (k.wants n.io.out.now) in
    let talks = first.done [] a.states before (c.new-progress.ensures.begins before) in
    let h = halted_at_end c.finish.result a.script.now a.states before after _ _ sink mid last (f.faults a.io.now.shelf.now) (f.faults m.io.shelf.now) (f.faults n.io.shelf.now) talks c.feed.ensures.later c.feed.ensures.wants_later c.feed.ensures.shelf_later e.stopped in
    record {
      same_io = record { out = e.same_io.out ∙ c.feed.ensures.same_io.out; shelf = e.same_io.shelf ∙ c.feed.ensures.same_io.shelf };
      same_meters = record { pairs = e.same_meters.pairs ∙ c.feed.ensures.same_meters.pairs; places = e.same_meters.places ∙ c.feed.ensures.same_meters.places; looks = e.same_meters.looks ∙ c.feed.ensures.same_meters.looks };
      done = IfOk-weaker c.finish.result _ _ (λ refused finishes. finishes a.script.now a.states before talks) e.done;
      out_fault = out_faults (λ Ends. RunsPrefix Ends (lines_of a.script.now) a.states before after) sink last _ _ c.finish.result h;
      shelf_fault = shelf_faults (λ Ends. RunsPrefix Ends (lines_of a.script.now) a.states before after) sink last _ _ c.finish.result h;
      want = wants_more (λ Ends. RunsPrefix Ends (lines_of a.script.now) a.states before after) sink last _ _ c.finish.result h;
      sound = IfOk-weaker c.finish.result _ _ (λ _ kept. (kept.0 ∙ first.sound.0, kept.1 ∙ first.sound.1, kept.2 ∙ first.sound.2)) e.sound;
      gone = λ none. e.gone (first.gone none);
    }
