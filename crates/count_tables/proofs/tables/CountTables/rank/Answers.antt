use Rattle.std.proofs.Common.{arith, ap, ◌∙◌}
use Rattle.count_tables.specs.Earlier.{greater_endings}
use Rattle.count_tables.proofs.RankRoot.{empty-rank}
use Rattle.count_tables.proofs.tables.CountTables.rank.Goals as goal

pub returns-in-None-clause-rank : goal.returns-in-None-clause-rank
returns-in-None-clause-rank g c =
    rw c.in-None.is (empty-rank c.args.dfa.now c.states.ensures.automaton c.args.tuple.now c.count.ensures.tuple c.requires.tuple c.greater_ends.result (omega (arith, c.greater_ends.type_inv))
    (c.greater_ends.ensures ∙ ap (greater_endings c.args.dfa.now 0) c.mark_at.ensures))
