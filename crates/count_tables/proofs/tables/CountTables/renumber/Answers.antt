use Rattle.std.proofs.Common.{◌<◌, length, map, refl, ap, sym, subst, ◌∙◌}
use Rattle.std.specs.Prelude.{All}
use Rattle.slp_model.specs.Thin.{rank}
use Rattle.count_tables.specs.Dictionary.{AreCountTables, count_of, table_of}
use Rattle.count_tables.specs.Kept.{view_of}
use Rattle.distinct_items.specs.Renumbering.{kept_items, used_of}
use Rattle.count_tables.proofs.Dropping.{AreDropped, IsCountDictionary-dropped, count-is, kept-within, table-stays, tables-thin}
use Rattle.count_tables.proofs.Growing.{none-true}
use Rattle.count_tables.proofs.tables.CountTables.renumber.Goals as goal

dropped : (c : goal.After-forget) → AreDropped (view_of c.self.inside) c.args.moves.now (view_of (record c.self.inside { kept = c.keep_used.new.self; numbers = c.keep_used.new.numbers }))
dropped c = record {
  kept = c.keep_used.ensures.items ∙ ap (λ xs. kept_items c.self.inside.kept (used_of xs (length c.self.inside.kept))) c.renumber.ensures.numbers;
  numbers = c.keep_used.ensures.numbers ∙ ap (λ xs. map (rank (used_of xs (length c.self.inside.kept))) xs) c.renumber.ensures.numbers;
  states = refl;
}

pub invariant_of-self : goal.invariant_of-self
invariant_of-self c = record {
  dictionary = IsCountDictionary-dropped (view_of c.self.inside) c.args.moves.now (view_of (record c.self.inside { kept = c.keep_used.new.self; numbers = c.keep_used.new.numbers })) c.self.invariant.dictionary (dropped c);
  entries = none-true c.keep_used.new.self c.forget.new.self c.forget.ensures;
}

pub keep_used-requires-clause-within : goal.keep_used-requires-clause-within
keep_used-requires-clause-within c =
    subst (All (λ n. n < length c.self.inside.kept)) (sym c.renumber.ensures.numbers) (kept-within (view_of c.self.inside) c.args.moves.now c.self.invariant.dictionary)

pub returns-clause-count : goal.returns-clause-count
returns-clause-count c =
    count-is (view_of c.self.inside) c.args.moves.now (view_of (record c.self.inside { kept = c.keep_used.new.self; numbers = c.keep_used.new.numbers })) c.self.invariant.dictionary (dropped c)
    ∙ ap (λ d. rank c.args.moves.now (count_of d)) c.self.view_is

pub returns-clause-each : goal.returns-clause-each
returns-clause-each c = λ i lt keeps.
    let low : i < count_of (view_of c.self.inside) = subst (λ d. i < count_of d) (sym c.self.view_is) lt in
    table-stays (view_of c.self.inside) c.args.moves.now (view_of (record c.self.inside { kept = c.keep_used.new.self; numbers = c.keep_used.new.numbers })) c.self.invariant.dictionary (dropped c) i low keeps
    ∙ ap (λ d. table_of d i) c.self.view_is

pub returns-clause-tables : goal.returns-clause-tables
returns-clause-tables c = λ a ns ms thin are.
    tables-thin (view_of c.self.inside) c.args.moves.now (view_of (record c.self.inside { kept = c.keep_used.new.self; numbers = c.keep_used.new.numbers })) c.self.invariant.dictionary (dropped c) a ns ms thin.trees
    (subst (AreCountTables a ns) (sym c.self.view_is) are)
