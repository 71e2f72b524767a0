use Rattle.std.proofs.Common.{◌≡◌, ◌<◌, length, arith, subst, ◌∙◌}
use Rattle.std.proofs.lemmas.Result.{on_ok_weaker}
use Rattle.marker_dfa.specs.Deterministic.{marks_of, states_of}
use Rattle.path_counts.specs.Counting.{AreCounts, number_by_marks}
use Rattle.path_counts.proofs.Adding.{sums-one}
use Rattle.path_counts.proofs.table.push_byte.Goals as goal

pub returns-clause-row : goal.returns-clause-row
returns-clause-row c =
    let a = c.args.dfa.now in
    let long : length c.add_marks.new.sums ≡ states_of a = c.add_marks.auto.sums ∙ c.requires.long in
    on_ok_weaker c.push_sums.result (λ pushed. record {
      row = pushed.row;
      rows = pushed.rows;
      holds = (
        record {
          unmarked = pushed.holds.0 ∙ c.next.ensures;
          numbers = λ q lt.
              let first : q < length c.args.sums.now = omega (arith, lt, c.requires.long) in
              let second : q < length c.add_marks.new.sums = omega (arith, first, c.add_marks.auto.sums) in
              sums-one _ _ _ (number_by_marks a c.args.p c.args.byte q (marks_of a c.args.p c.args.byte)) (c.add_marks.ensures q first) (c.requires.clear q 0 first) (pushed.holds.1.numbers q second);
        },
        subst (λ n. AreCounts n pushed.row.counts) long pushed.holds.1.counts,
      );
    }) c.push_sums.ensures.row
