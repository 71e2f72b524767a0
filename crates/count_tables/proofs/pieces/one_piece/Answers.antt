use Rattle.std.proofs.Common.{length, refl, rules}
use Rattle.path_counts.specs.Counting.{IsCountTableOf}
use Rattle.count_tables.specs.declared.pieces.Job.{Job}
use Rattle.count_tables.proofs.Joining.{made-push}
use Rattle.count_tables.proofs.Keeping.{composed-read}
use Rattle.count_tables.proofs.pieces.one_piece.Goals as goal

pub loop-job-preserved : goal.loop-job-preserved
loop-job-preserved g c =
    let at = c.loop-job in
    let t = c.in_ok-table.table in
    let first : Job = record { node = 0; left = 0; right = 0 } in
    let shape : IsCountTableOf (length c.in_ok-table.table) c.in_ok-table.table = search rules in
    rw c.in_ok-push.ensures.items (made-push c.args.kept.now c.args.jobs.now at.job-index first at.made.items _ c.loop-job-test.true at.invariant refl
    (record { composed = composed-read c.args.kept.now _ _ c.at.result.now c.at-in-loop-job.result.now t c.at.ensures c.at-in-loop-job.ensures c.in_ok-table.ensures.value; shape = shape }))
