use Rattle.std.proofs.Common.{refl, ap, length}
use Rattle.query_book.specs.declared.entry.TabledQuery.{TabledQuery}
use Rattle.query_book.proofs.Renumbered.{sound-forgotten, served-thin, counts-number, counts-used, if-within}
use Rattle.query_book.proofs.Used.{used-each}
use Rattle.query_book.proofs.renumbering.renumber_query.Goals as goal

pub renumber_counts-requires : goal.renumber_counts-requires
renumber_counts-requires c = if-within (length c.args.moves.now) c.args.tabled.now.counts c.requires.within.counts

pub returns : goal.returns
returns c =
    let old = c.args.tabled.now in
    let new : TabledQuery = record c.args.tabled.now { tables = c.renumber.new.self; memory = c.forget.new.self; counts = c.renumber_counts.new.counts } in
    let counts = c.renumber_counts.ensures in
    record {
      query = refl;
      sound = sound-forgotten c.args.moves.now old new refl c.forget.ensures (ap (λ d. d.states) c.renumber.ensures.same) counts c.requires.sound;
      count = c.renumber.ensures.count;
      counts = counts-number c.args.moves.now old.counts new.counts counts;
      used = used-each old.tables new.tables c.args.moves.now c.renumber.ensures.kept c.renumber.ensures.numbers;
      counts_used = counts-used c.args.moves.now old.counts new.counts counts;
      served = λ ns ms thin. served-thin ns ms c.args.moves.now old new thin refl c.renumber.ensures.count (c.renumber.ensures.tables old.query.dfa ns ms thin) counts;
    }
