use Rattle.script_driver.proofs.Pieces.{begins}
use Rattle.script_driver.proofs.progress.Progress.new.Goals as goal

pub returns-clause-begins : goal.returns-clause-begins
returns-clause-begins c =
    let s = c.with_states in
    λ before. begins c.args.states before s.result c.new.result.items c.new.ensures.items s.ensures.state s.ensures.covered s.ensures.counted s.ensures.store
