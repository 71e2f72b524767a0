use Rattle.std.proofs.Common.{length, refl, subst}
use Rattle.count_tables.specs.Dictionary.{AreKept}
use Rattle.count_tables.proofs.Growing.{entries-extend, pair-table}
use Rattle.count_tables.proofs.growth.number_of.Goals as goal

pub returns-in-Byte-clause-entries : goal.returns-in-Byte-clause-entries
returns-in-Byte-clause-entries g c = entries-extend c.args.kept.now c.byte_number.new.kept c.args.memo.now c.byte_number.ensures.extends c.requires.entries

pub returns-in-Pair-clause-number : goal.returns-in-Pair-clause-number
returns-in-Pair-clause-number g c =
    pair-table c.composed.result c.args.growth.now.dfa.now c.args.growth.now.store.now c.args.kept.now c.composed.new.kept c.args.numbers.now (length c.args.numbers.now) c.in-Pair.left c.in-Pair.right
    c.states-states.ensures.automaton c.requires.tables refl c.in-Pair.ensures.tree
    (subst (λ n. AreKept n c.composed.new.kept) c.states-states.ensures.value c.composed.ensures.kept) c.composed.ensures.number
