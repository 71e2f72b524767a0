use Rattle.span_enum.proofs.Base.{can_reach_of, sym, ◌∙◌, ◌≡◌}
use Rattle.span_enum.proofs.Runs.{accepted-from_run, run-from_accepted, run-from_table, table-from_run, tells}
use Rattle.span_enum.proofs.answers.has_accepted.Goals as goal

pub returns : goal.returns
returns g c = λ s it.
    let a = c.args.dfa.now in
    let auto = c.states-states.ensures.automaton in
    let t = c.args.table.now in
    let finals = c.final_states.result in
    let final = c.final_states.ensures in
    let is = tells a s t it in
    let value : c.can_reach.result ≡ can_reach_of t 0 finals = c.can_reach.ensures in (
      (λ h. accepted-from_run a auto finals final s (run-from_table a s t 0 finals is auto.has_start (sym value ∙ h))),
      (λ run. value ∙ table-from_run a s t 0 finals is auto.has_start (run-from_accepted a auto finals final s run)),
    )
