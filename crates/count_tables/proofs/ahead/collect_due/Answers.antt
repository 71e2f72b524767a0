use Rattle.std.proofs.Common.{ℕ, List, length, inl, inr, sym, subst, ◌∙◌}
use Rattle.std.specs.Prelude.{All}
use Rattle.std.proofs.lemmas.List.Elements.{All-push}
use Rattle.count_tables.specs.Ahead.{IsJob}
use Rattle.count_tables.specs.Remembered.{AreTrueEntries}
use Rattle.count_tables.specs.declared.pieces.Job.{Job}
use Rattle.count_tables.proofs.ahead.collect_due.Goals as goal
use Rattle.count_tables.proofs.ahead.collect_due.Goals.{in-Some+in_ok-push_due, in_default}

pub look_up-requires-clause-entries : goal.look_up-requires-clause-entries
look_up-requires-clause-entries g c κs within = subst (AreTrueEntries c.args.kept.now) (sym c.loop-index.invariant.same) c.requires.entries

pub loop-index-preserved : goal.loop-index-preserved
loop-index-preserved g c =
    let a = c.args.growth.now.dfa.now in
    let nodes = c.args.growth.now.store.now in
    let known = length c.args.numbers.now in
    let count = length c.args.found.now in
    let old = c.loop-index.jobs.items in
    let jobs : All (IsJob c.args.growth.now.dfa.now c.args.growth.now.store.now c.args.kept.now (length c.args.numbers.now) (length c.args.found.now)) c.match-look_up.jobs.items =
    elim c.match-look_up.branch [
      | in-Some+in_ok-push_due w ↦
          let job : IsJob a nodes c.args.kept.now known count w.in-Some.job = subst (λ (n : ℕ). IsJob a nodes c.args.kept.now known n w.in-Some.job) c.loop-index.auto.found w.in-Some.ensures.job in
          rw w.jobs-is (elim w.in_ok-push_due.ensures [
            | inl new ↦ subst (λ (js : List Job). All (IsJob a nodes c.args.kept.now known count) js) (sym new) (All-push (IsJob a nodes c.args.kept.now known count) old w.in-Some.job c.loop-index.invariant.jobs job)
            | inr same ↦ subst (λ (js : List Job). All (IsJob a nodes c.args.kept.now known count) js) (sym same.2) c.loop-index.invariant.jobs
          ])
      | in_default w ↦ rw w.jobs-is c.loop-index.invariant.jobs
    ] in
    record { found = c.look_up.ensures.found; same = c.look_up.ensures.same ∙ c.loop-index.invariant.same; jobs = jobs }
