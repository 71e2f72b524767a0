use Rattle.std.proofs.lemmas.Result.{err_from_is_err_and}
use Rattle.script_driver.proofs.RunsLemmas.{gone_on, gone_still}
use Rattle.script_driver.proofs.Doing.{does, halts}
use Rattle.script_driver.proofs.progress.Progress.end_line.Goals as goal

pub returns-in_err-told-clause-stopped : goal.returns-in_err-told-clause-stopped
returns-in_err-told-clause-stopped g c =
    let p = err_from_is_err_and c.from_residual.result c.from_residual.ensures.1 in
    rw (p.1, p.2) (halts _ _ _ _ _ _ _ c.args.self.now.refused _ c.deref.ensures.value c.in_err-told.ensures.stopped c.requires.model c.line.ensures.model)

pub returns-clause-done : goal.returns-clause-done
returns-clause-done g c = does _ _ _ _ _ _ _ c.args.self.now.refused _ c.in_ok-told.told c.deref.ensures.value c.with_refusal-self.ensures c.in_ok-told.ensures.done

pub returns-clause-sound : goal.returns-clause-sound
returns-clause-sound g c = let d = c.in_ok-told.ensures.done.2 in (d.sink_sound.0, d.sink_sound.1, d.shelf_sound)

pub returns-clause-gone : goal.returns-clause-gone
returns-clause-gone g c = λ none. gone_on g.K.Sink.kept c.line.new.out c.args.io.now.out.now c.in_ok-told.ensures.gone none

pub returns-in_err-told-clause-gone : goal.returns-in_err-told-clause-gone
returns-in_err-told-clause-gone g c =
    let p = err_from_is_err_and c.from_residual.result c.from_residual.ensures.1 in
    rw (p.1, p.2) (λ none is. gone_still g.K.Sink.kept c.line.new.out c.args.io.now.out.now (c.in_err-told.ensures.unsent is) none)
