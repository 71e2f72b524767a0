use Rattle.std.proofs.Common.{[], length, sym, subst}
use Rattle.std.proofs.lemmas.Result.{on_ok_weaker}
use Rattle.path_counts.specs.Counting.{AreCounts, CountRow, IsComposedRow, counts_at}
use Rattle.path_counts.proofs.Unmarked.{copied-row}
use Rattle.path_counts.proofs.table.push_unmarked.Goals as goal

pub returns-in-Some : goal.returns-in-Some
returns-in-Some c =
    let right = c.args.right.now in
    let q = c.in-Some.q in
    let row : CountRow = record { unmarked = c.unmarked.result; counts = c.counts.result.now } in
    let are : AreCounts (length right) (counts_at right q) = subst (AreCounts (length right)) c.counts.ensures.value c.counts.ensures.counts in
    on_ok_weaker c.push.result (λ rows. record {
      row = row;
      rows = rows;
      holds = record {
        composed = subst (λ o. IsComposedRow right (record { unmarked = o; counts = [] }) row) (sym c.in-Some.is) (copied-row right (length right) q row are c.unmarked.ensures.value c.counts.ensures.value);
        unmarked = c.unmarked.ensures.within;
        counts = c.counts.ensures.counts;
      };
    }) c.push.ensures
