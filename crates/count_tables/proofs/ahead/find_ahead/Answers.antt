use Rattle.std.proofs.Common.{◌≡◌, ℕ, List, length, sym, subst, ◌∙◌}
use Rattle.std.specs.Prelude.{All}
use Rattle.count_tables.specs.Ahead.{IsComposable, IsJob}
use Rattle.count_tables.specs.Remembered.{AreTrueEntries}
use Rattle.count_tables.specs.declared.pieces.Job.{Job}
use Rattle.count_tables.proofs.Entries.{jobs-composable, made-jobs}
use Rattle.count_tables.proofs.Growing.{entries-extend, extends-on}
use Rattle.count_tables.proofs.ahead.find_ahead.Goals as goal

pub returns-in_err-find_bytes-clause-entries : goal.returns-in_err-find_bytes-clause-entries
returns-in_err-find_bytes-clause-entries g c = entries-extend c.args.kept.now c.find_bytes.new.kept c.args.memo.now c.find_bytes.ensures.extends c.requires.entries

pub loop-height-init : goal.loop-height-init
loop-height-init g c = record {
  found = c.find_bytes.ensures.found;
  entries = entries-extend c.args.kept.now c.find_bytes.new.kept c.args.memo.now c.find_bytes.ensures.extends c.requires.entries;
  extends = c.find_bytes.ensures.extends;
}

pub returns-in_err-jobs-clause-entries : goal.returns-in_err-jobs-clause-entries
returns-in_err-jobs-clause-entries g c = subst (AreTrueEntries c.loop-height.kept) (sym c.collect_due.ensures.same) c.loop-height.invariant.entries

pub returns-then-is_empty-clause-entries : goal.returns-then-is_empty-clause-entries
returns-then-is_empty-clause-entries g c = subst (AreTrueEntries c.loop-height.kept) (sym c.collect_due.ensures.same) c.loop-height.invariant.entries

pub in_pieces-requires-clause-jobs : goal.in_pieces-requires-clause-jobs
in_pieces-requires-clause-jobs g c κs within =
    subst (λ (js : List Job). All (IsComposable c.loop-height.kept) js) (sym c.deref.ensures.value)
    (jobs-composable c.args.growth.now.dfa.now c.args.growth.now.store.now c.loop-height.kept (length c.args.numbers.now) (length c.loop-height.found) c.in_ok-jobs.jobs.items c.loop-height.invariant.found.distinct c.in_ok-jobs.ensures.jobs)

pub returns-in_err-made-clause-entries : goal.returns-in_err-made-clause-entries
returns-in_err-made-clause-entries g c = subst (AreTrueEntries c.loop-height.kept) (sym c.collect_due.ensures.same) c.loop-height.invariant.entries

pub keep_all-requires-clause-entries : goal.keep_all-requires-clause-entries
keep_all-requires-clause-entries g c = subst (AreTrueEntries c.loop-height.kept) (sym c.collect_due.ensures.same) c.loop-height.invariant.entries

pub keep_all-requires-clause-jobs : goal.keep_all-requires-clause-jobs
keep_all-requires-clause-jobs g c =
    let a = c.args.growth.now.dfa.now in
    let nodes = c.args.growth.now.store.now in
    let known = length c.args.numbers.now in
    let same : length c.collect_due.new.found ≡ length c.loop-height.found = c.collect_due.auto.found in
    let jobs = subst (λ (n : ℕ). All (IsJob a nodes c.loop-height.kept known n) c.in_ok-jobs.jobs.items) (sym same) c.in_ok-jobs.ensures.jobs in
    made-jobs (IsJob a nodes c.loop-height.kept known (length c.collect_due.new.found)) c.in_ok-jobs.jobs.items c.in_ok-made.made.items (c.in_ok-made.ensures.in_order ∙ c.deref.ensures.value) jobs

pub keep_all-requires-clause-made : goal.keep_all-requires-clause-made
keep_all-requires-clause-made g c = c.in_ok-made.ensures.each

pub returns-in_err-keep_all-clause-extends : goal.returns-in_err-keep_all-clause-extends
returns-in_err-keep_all-clause-extends g c = extends-on c.args.kept.now c.loop-height.kept c.keep_all.new.kept c.loop-height.invariant.extends c.keep_all.ensures.extends

pub loop-height-preserved : goal.loop-height-preserved
loop-height-preserved g c = record {
  found = c.keep_all.ensures.found;
  entries = c.keep_all.ensures.entries;
  extends = extends-on c.args.kept.now c.loop-height.kept c.keep_all.new.kept c.loop-height.invariant.extends c.keep_all.ensures.extends;
}
