use Rattle.std.proofs.Common.{Some, sym, subst}
use Rattle.query_book.specs.Renumbering.{RenumbersCounts}
use Rattle.query_book.proofs.Used.{used-each-count}
use Rattle.query_book.proofs.renumbering.renumber_counts.Goals as goal

pub returns-in-Some : goal.returns-in-Some
returns-in-Some c =
    let new = c.renumber.new.self in
    subst (λ o. RenumbersCounts c.args.moves.now o (Some new)) (sym c.in-Some.is) (record {
      states = c.renumber.ensures.states;
      count = c.renumber.ensures.count;
      used = used-each-count c.in-Some.counts new c.args.moves.now c.renumber.ensures.kept c.renumber.ensures.numbers;
      tables = c.renumber.ensures.tables;
    })
