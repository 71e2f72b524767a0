use Rattle.std.proofs.Common.{◌≡◌, ◌<◌, ◌≤◌, ◌++◌, [], ◌∷◌, length, arith, ap, get_or, sym, ◌∙◌, append_assoc}
use Rattle.std.proofs.lemmas.List.{get_or_default}
use Rattle.path_counts.specs.declared.count.Count.{Count}
use Rattle.path_counts.specs.Paths.{most}
use Rattle.path_counts.proofs.Adding.{clear-skip, clear-step, counts-more, counts-push, numbers-push, numbers-skip, rest-step}
use Rattle.path_counts.proofs.count.take_counts.Goals as goal
use Rattle.path_counts.proofs.count.take_counts.Goals.{then-number-gt0+in_ok-push, else-number-gt0}

pub loop-state-preserved : goal.loop-state-preserved
loop-state-preserved c = elim c.if-number-gt0.branch [
  | then-number-gt0+in_ok-push w ↦
      let i = c.loop-state.state in
      let before = c.loop-state.invariant in
      let n = get_or c.loop-state.sums i 0 in
      let new : Count = record { state = i; number = n } in
      let low : n ≤ most = omega arith in
      let lt : i < length c.loop-state.sums = omega (arith, c.loop-state-test.true, c.loop-state.auto.sums) in
      rw (w.sums-is, w.counts-is, w.in_ok-push.ensures.items) (record {
        counts = record {
          more = before.counts.more ++ new ∷ [];
          counts = ap (λ cs. cs ++ new ∷ []) before.counts.counts ∙ append_assoc c.args.counts.now.items before.counts.more (new ∷ []);
          hold = (
            counts-push i n before.counts.more before.counts.hold.0 w.if-number-gt0.true low,
            numbers-push c.args.sums.now i n before.counts.more before.counts.hold.0 (before.rest i (omega arith)) before.counts.hold.1,
          );
        };
        clear = λ q below. clear-step c.loop-state.sums i q lt before.clear below;
        rest = λ q le. rest-step c.loop-state.sums i q le ∙ before.rest q (omega (arith, le));
      })
  | else-number-gt0 w ↦
      let i = c.loop-state.state in
      let before = c.loop-state.invariant in
      let none : get_or c.loop-state.sums i 0 ≡ 0 = omega (arith, w.if-number-gt0.false) in
      rw (w.sums-is, w.counts-is) (record {
        counts = record {
          more = before.counts.more;
          counts = before.counts.counts;
          hold = (
            counts-more i before.counts.more before.counts.hold.0,
            numbers-skip c.args.sums.now i before.counts.more before.counts.hold.0 (sym (before.rest i (omega arith)) ∙ none) before.counts.hold.1,
          );
        };
        clear = λ q below. clear-skip c.loop-state.sums i q none before.clear below;
        rest = λ q le. before.rest q (omega (arith, le));
      })
]

pub returns-clause-clear : goal.returns-clause-clear
returns-clause-clear c = λ k d lt. get_or_default c.loop-state.sums k d 0 lt ∙ c.loop-state.invariant.clear k (omega (arith, c.loop-state-test.false, c.loop-state.auto.sums, lt))
