use Rattle.std.proofs.Common.{◌≡◌, ◌<◌, IfSome, length, arith, ap, sym, subst, ◌∙◌}
use Rattle.std.proofs.lemmas.Result.{on_ok_weaker}
use Rattle.marker_dfa.specs.Deterministic.{and_then}
use Rattle.path_counts.specs.Counting.{AreCounts, number_from, number_through, unmarked_at}
use Rattle.path_counts.proofs.Adding.{sums-two}
use Rattle.path_counts.proofs.table.push_by_sums.Goals as goal
use Rattle.path_counts.proofs.table.push_by_sums.Goals.{in-Some, in-None}

pub returns-clause-row : goal.returns-clause-row
returns-clause-row c =
    let right = c.args.right.now in
    let next : c.match-unmarked.next ≡ and_then c.args.unmarked (unmarked_at right) = (elim c.match-unmarked.branch [
      | in-Some w ↦ w.next-is ∙ w.unmarked-next.ensures.value ∙ ap (λ o. and_then o (unmarked_at right)) (sym w.in-Some.is)
      | in-None w ↦ w.next-is ∙ ap (λ o. and_then o (unmarked_at right)) (sym w.in-None.is)
    ]) in
    let within : IfSome c.match-unmarked.next (λ q. q < length right) = (elim c.match-unmarked.branch [
      | in-Some w ↦ subst (λ o. IfSome o (λ q. q < length right)) (sym w.next-is) w.unmarked-next.ensures.within
      | in-None w ↦ subst (λ o. IfSome o (λ q. q < length right)) (sym w.next-is) tt
    ]) in
    let long : length c.add_through.new.sums ≡ length right = c.add_through.auto.sums ∙ c.add_from.auto.sums ∙ c.requires.long in
    on_ok_weaker c.push_sums.result (λ pushed. record {
      row = pushed.row;
      rows = pushed.rows;
      holds = record {
        composed = record {
          unmarked = pushed.holds.0 ∙ next;
          numbers = λ q lt.
              let first : q < length c.args.sums.now = omega (arith, lt, c.requires.long) in
              let second : q < length c.add_from.new.sums = omega (arith, first, c.add_from.auto.sums) in
              let third : q < length c.add_through.new.sums = omega (arith, second, c.add_through.auto.sums) in
              sums-two _ _ _ _ (number_from right c.args.unmarked q) (number_through right c.args.counts.now q) (c.add_through.ensures q second) (c.add_from.ensures q first)
              (c.requires.clear q 0 first) (pushed.holds.1.numbers q third);
        };
        unmarked = subst (λ o. IfSome o (λ q. q < length right)) (sym pushed.holds.0) within;
        counts = subst (λ n. AreCounts n pushed.row.counts) long pushed.holds.1.counts;
      };
    }) c.push_sums.ensures.row
