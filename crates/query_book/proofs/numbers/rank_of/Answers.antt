use Rattle.slp_model.specs.Nodes.{text_of}
use Rattle.count_tables.specs.Rank.{IsRank}
use Rattle.span_types.specs.Query.{query_of}
use Rattle.query_book.specs.Numbers.{IsRankOf, IsSaturated}
use Rattle.query_book.proofs.NumberLaws.{list-counted, rank-ok, rank-saturated}
use Rattle.query_book.proofs.numbers.rank_of.Goals as goal

pub returns-clause-rank : goal.returns-clause-rank
returns-clause-rank g c =
    rank-ok c.rank.result (IsRank c.args.tabled.now.query.dfa (text_of c.args.store.now c.args.root) c.args.tuple.now)
    (IsSaturated (IsRankOf (query_of c.args.tabled.now.query.tree) (text_of c.args.store.now c.args.root) c.args.tuple.now))
    (rank-saturated c.args.store.now c.args.tabled.now c.args.root c.requires.counts c.states-states.ensures.automaton c.count-nodes.ensures.sound c.requires.live c.args.tuple.now) c.rank.ensures.rank

pub returns-clause-list : goal.returns-clause-list
returns-clause-list g c =
    list-counted c.args.store.now c.args.tabled.now c.args.root c.requires.counts c.states-states.ensures.automaton c.count-nodes.ensures.sound c.requires.live c.counts_of-counts.result.now c.counts_of-counts.ensures
