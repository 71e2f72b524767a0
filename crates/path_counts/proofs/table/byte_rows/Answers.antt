use Rattle.std.proofs.Common.{◌≡◌, ◌<◌, ℕ, arith, sym, ◌∙◌}
use Rattle.marker_dfa.specs.Deterministic.{states_of}
use Rattle.path_counts.specs.Counting.{AreCounts, IsByteRow, unmarked_at}
use Rattle.path_counts.proofs.Adding.{some-within}
use Rattle.path_counts.proofs.Meanings.{IsCountTable-byte}
use Rattle.path_counts.proofs.Rows.{pushed-length, rows-push, shape-of}
use Rattle.path_counts.proofs.table.byte_rows.Goals as goal

pub loop-p-preserved : goal.loop-p-preserved
loop-p-preserved c =
    let a = c.args.dfa.now in
    let before = c.loop-p.invariant in
    let pushed = c.in_ok-push_byte.ensures.row in
    let rows = c.loop-p.rows in
    rw pushed.rows (record {
      long = omega (arith, pushed-length rows pushed.row, before.long);
      sums = c.push_byte.auto.sums ∙ before.sums;
      clear = c.in_ok-push_byte.ensures.clear;
      rows = rows-push (λ p r. IsByteRow a c.args.byte p r) rows c.loop-p.p pushed.row before.long before.rows pushed.holds.0;
      counts = rows-push (λ p r. AreCounts (states_of a) r.counts) rows c.loop-p.p pushed.row before.long before.counts pushed.holds.1;
    })

pub returns : goal.returns
returns c =
    let a = c.args.dfa.now in
    let t = c.loop-p.rows in
    let auto = c.states-states.ensures.automaton in
    let done = c.loop-p.invariant in
    let all : c.loop-p.p ≡ states_of a = omega (arith, c.states-states.ensures.value, c.loop-p-test.false, c.loop-p.auto.p-end) in
    let byte : c.args.byte < 256 = omega (arith, c.ranges.byte.fits) in
    let rows : (p : ℕ) → p < states_of a → IsByteRow a c.args.byte p _ = λ p lt. done.rows p (omega (arith, lt, all)) in
    IsCountTable-byte a c.args.byte t byte auto
    (shape-of (states_of a) t (done.long ∙ all) (omega (arith, auto.few_states))
    (λ p lt. some-within (unmarked_at t p) (states_of a) (λ q e. auto.within p 0 c.args.byte q (sym (rows p lt).unmarked ∙ e)))
    (λ p lt. done.counts p (omega (arith, lt, all)))) rows
