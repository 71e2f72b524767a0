use Rattle.std.proofs.Common.{◌∙◌, ◌≢◌, All, arith, rules, ap, length, length-append, List, refl, subst, sym, ℕ, [], ◌∷◌}
use Rattle.std.proofs.lemmas.List.{append-nil}
use Rattle.std.proofs.lemmas.Result.{err_from_is_err_and}
use Rattle.span_language.specs.Runs.{outside}
use Rattle.session_state.specs.Carried.{outlet}
use Rattle.script_driver.specs.Position.{conversation}
use Rattle.script_driver.specs.Progress.{IsTalking}
use Rattle.script_driver.proofs.Halting.{halted_later, halted_wanting, kept_on}
use Rattle.script_driver.proofs.Pieces.{hears_line, hears_rest, stops_between, stops_line}
use Rattle.script_driver.proofs.progress.Progress.feed.Goals as goal

pub returns-in_err-keep-clause-stopped : goal.returns-in_err-keep-clause-stopped
returns-in_err-keep-clause-stopped g c =
    let i = c.lines.invariant in
    halted_wanting _ _ _ _ _ _ c.from_residual.ensures.1 (λ Ends none. stops_between _ _ _ _ _ _ _ i.so_far.1 i.so_far.2 Ends i.model (none _))

pub returns-in_err-keep-2-clause-stopped : goal.returns-in_err-keep-2-clause-stopped
returns-in_err-keep-2-clause-stopped g c =
    let i = c.lines.invariant in
    halted_wanting _ _ _ _ _ _ c.from_residual-in_err-keep-2.ensures.1 (λ Ends none. stops_between _ _ _ _ _ _ _ i.so_far.1 i.so_far.2 Ends i.model (none _))

pub returns-in_err-end_line-clause-stopped : goal.returns-in_err-end_line-clause-stopped
returns-in_err-end_line-clause-stopped g c =
    let k = g.K.Sink in
    let l = c.lines in
    let i = l.invariant in
    let p = err_from_is_err_and c.from_residual-in_err-end_line.result c.from_residual-in_err-end_line.ensures.1 in
    rw (p.1, p.2) (halted_later _ _ _ (outlet (k.written l.io.out.now) (k.faults l.io.out.now) (k.wants l.io.out.now)) _ _ (g.F.Shelf.faults l.io.shelf.now) _ _ (omega (arith, i.faults)) (omega (arith, i.wants)) (omega (arith, i.shelf_faults)) c.in_err-end_line.ensures.stopped
    (λ Ends stops. stops_line _ _ _ _ _ _ _ i.so_far.1 i.so_far.2 _ _ _ c.in-Some.ensures.0 c.in-Some.ensures.1 c.in_ok-keep.ensures.kept Ends _ stops))

pub lines-init : goal.lines-init
lines-init g c =
    let a = c.args in
    let p = a.self.now in
    let now = conversation p.number p.refused p.session (outside (g.K.Sink.written a.io.now.out.now) (g.F.Shelf.files a.io.now.shelf.now) a.meters.now.looks.now a.meters.now.pairs.now a.meters.now.places.now) in
    record {
      same_io = record { out = refl; shelf = refl };
      same_meters = record { pairs = refl; places = refl; looks = refl };
      so_far = ([], refl, λ bytes most before talks. subst (λ (l : List ℕ). IsTalking l most before p.kept.items now) (sym (append-nil bytes)) talks);
      model = c.requires.model;
      next = omega arith;
      kept = c.requires.kept;
      faults = refl;
      wants = refl;
      shelf_faults = refl;
      gone = λ none. none;
    }

pub lines-preserved : goal.lines-preserved
lines-preserved g c =
    let n = c.end_line.new in
    let i = c.lines.invariant in
    let e = c.in_ok-end_line.ensures in
    let new = conversation n.self.number n.self.refused n.self.session (outside (g.K.Sink.written n.io.out.now) (g.F.Shelf.files n.io.shelf.now) n.meters.looks.now n.meters.pairs.now n.meters.places.now) in
    record {
      same_io = record { out = c.end_line.ensures.same_io.out ∙ i.same_io.out; shelf = c.end_line.ensures.same_io.shelf ∙ i.same_io.shelf };
      same_meters = record { pairs = c.end_line.ensures.same_meters.pairs ∙ i.same_meters.pairs; places = c.end_line.ensures.same_meters.places ∙ i.same_meters.places; looks = c.end_line.ensures.same_meters.looks ∙ i.same_meters.looks };
      so_far = hears_line _ _ _ _ _ _ _ i.so_far.1 i.so_far.2 _ _ _ c.in-Some.ensures.0 c.in-Some.ensures.1 c.in_ok-keep.ensures.kept new n.self.kept.items e.empty e.done;
      model = c.end_line.ensures.model;
      next = omega (arith, i.next, e.next, ap length c.in-Some.ensures.0, length-append c.in-Some.parts.0.now (10 ∷ c.in-Some.parts.1.now));
      kept = omega (arith, ap length e.empty);
      faults = e.sound.0 ∙ i.faults;
      wants = e.sound.1 ∙ i.wants;
      shelf_faults = e.sound.2 ∙ i.shelf_faults;
      gone = λ none. c.in_ok-end_line.ensures.gone (i.gone none);
    }

pub returns-clause-done : goal.returns-clause-done
returns-clause-done g c =
    let i = c.lines.invariant in
    let plain : All (λ b. b ≢ 10) c.lines.rest.now = search rules in
    hears_rest _ _ _ _ _ _ _ i.so_far.1 i.so_far.2 c.keep-2.new.kept.items plain c.in_ok-keep-2.ensures.kept

pub returns-in_err-keep-clause-gone : goal.returns-in_err-keep-clause-gone
returns-in_err-keep-clause-gone g c = λ none. kept_on c.from_residual.result _ (c.lines.invariant.gone none)

pub returns-in_err-keep-2-clause-gone : goal.returns-in_err-keep-2-clause-gone
returns-in_err-keep-2-clause-gone g c = λ none. kept_on c.from_residual-in_err-keep-2.result _ (c.lines.invariant.gone none)

pub returns-in_err-end_line-clause-gone : goal.returns-in_err-end_line-clause-gone
returns-in_err-end_line-clause-gone g c =
    let p = err_from_is_err_and c.from_residual-in_err-end_line.result c.from_residual-in_err-end_line.ensures.1 in
    rw (p.1, p.2) (λ none. c.in_err-end_line.ensures.gone (c.lines.invariant.gone none))
