use Rattle.std.proofs.Common.{arith}
use Rattle.std.proofs.lemmas.Result.{err_from_is_err_and}
use Rattle.span_language.specs.Runs.{outside}
use Rattle.session_state.specs.Carried.{outlet}
use Rattle.script_driver.specs.Position.{conversation}
use Rattle.script_driver.proofs.Kept.{none_by, some_by}
use Rattle.script_driver.proofs.Halting.{halted_later}
use Rattle.script_driver.proofs.Pieces.{ends_so, ends_with_last, stops_in_last}
use Rattle.script_driver.proofs.progress.Progress.finish.Goals as goal

pub returns-then-is_empty-clause-done : goal.returns-then-is_empty-clause-done
returns-then-is_empty-clause-done g c =
    let kept = c.args.self.now.kept in
    λ sent most before t. ends_so sent most before kept.items _ t c.requires.model (none_by kept.items kept.len (omega (arith, kept.ok.0)) c.if-is_empty.ensures)

pub returns-in_err-end_line-clause-stopped : goal.returns-in_err-end_line-clause-stopped
returns-in_err-end_line-clause-stopped g c =
    let k = g.K.Sink in
    let a = c.args in
    let n = c.end_line.new in
    let kept = a.self.now.kept in
    let sink = outlet (k.written a.io.now.out.now) (k.faults a.io.now.out.now) (k.wants a.io.now.out.now) in
    let some = some_by kept.items kept.len (omega (arith, kept.ok.0)) c.if-is_empty.ensures in
    let p = err_from_is_err_and c.from_residual.result c.from_residual.ensures.1 in
    rw (p.1, p.2) (halted_later _ _ sink sink _ _ _ _ _ (omega arith) (omega arith) (omega arith) c.in_err-end_line.ensures.stopped
    (λ Ends stops sent most before t. stops_in_last sent most before kept.items _ t Ends _ some stops))

pub returns-clause-done : goal.returns-clause-done
returns-clause-done g c =
    let n = c.end_line.new in
    let kept = c.args.self.now.kept in
    let some = some_by kept.items kept.len (omega (arith, kept.ok.0)) c.if-is_empty.ensures in
    let new = conversation n.self.number n.self.refused n.self.session (outside (g.K.Sink.written n.io.out.now) (g.F.Shelf.files n.io.shelf.now) n.meters.looks.now n.meters.pairs.now n.meters.places.now) in
    λ sent most before t. ends_with_last sent most before kept.items _ t new c.end_line.ensures.model some c.in_ok-end_line.ensures.done

pub returns-in_err-end_line-clause-gone : goal.returns-in_err-end_line-clause-gone
returns-in_err-end_line-clause-gone g c =
    let p = err_from_is_err_and c.from_residual.result c.from_residual.ensures.1 in
    rw (p.1, p.2) (λ none. c.in_err-end_line.ensures.gone none)
