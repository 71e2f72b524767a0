use Rattle.std.proofs.Common.{◌-◌, Some, None, sym, ap, ◌∙◌, subst, arith}
use Rattle.slp_model.specs.Nodes.{text_of}
use Rattle.span_types.specs.Query.{query_of}
use Rattle.span_types.specs.Writes.{blanks}
use Rattle.count_tables.specs.TextIndex.{IsNth}
use Rattle.query_book.specs.Numbers.{IsCursorAt}
use Rattle.query_book.proofs.NumberLaws.{cursor-answer, cursor-first, cursor-last, list-counted}
use Rattle.query_book.proofs.numbers.cursor_at.Goals as goal

pub returns-then-m-eq1-clause-cursor : goal.returns-then-m-eq1-clause-cursor
returns-then-m-eq1-clause-cursor g c =
    subst (λ m. IsCursorAt (text_of c.args.store.now c.args.root) m (query_of c.args.tabled.now.query.tree) None) (sym c.if-m-eq1.true)
    (cursor-first c.args.store.now c.args.tabled.now c.args.root c.requires.counts c.variables-variables.ensures.automaton c.count-nodes.ensures.sound c.requires.live
    (list-counted c.args.store.now c.args.tabled.now c.args.root c.requires.counts c.variables-variables.ensures.automaton c.count-nodes.ensures.sound c.requires.live c.counts_of-counts.result.now c.counts_of-counts.ensures))

pub returns-then-m-eq1-clause-list : goal.returns-then-m-eq1-clause-list
returns-then-m-eq1-clause-list g c = list-counted c.args.store.now c.args.tabled.now c.args.root c.requires.counts c.variables-variables.ensures.automaton c.count-nodes.ensures.sound c.requires.live c.counts_of-counts.result.now c.counts_of-counts.ensures

pub returns-in_err-answer-clause-list : goal.returns-in_err-answer-clause-list
returns-in_err-answer-clause-list g c = list-counted c.args.store.now c.args.tabled.now c.args.root c.requires.counts c.variables-variables.ensures.automaton c.count-nodes.ensures.sound c.requires.live c.counts_of-counts.result.now c.counts_of-counts.ensures

pub returns-in-Some-clause-cursor : goal.returns-in-Some-clause-cursor
returns-in-Some-clause-cursor g c =
    cursor-answer c.args.store.now c.args.tabled.now c.args.root c.requires.counts c.variables-variables.ensures.automaton c.count-nodes.ensures.sound c.requires.live c.args.m c.in-Some.answer (omega (arith, c.requires.first, c.if-m-eq1.false))
    (subst (IsNth c.args.tabled.now.query.dfa (text_of c.args.store.now c.args.root) (c.args.m - 1)) c.in-Some.is c.in_ok-answer.ensures.nth)

pub returns-in-Some-clause-list : goal.returns-in-Some-clause-list
returns-in-Some-clause-list g c = list-counted c.args.store.now c.args.tabled.now c.args.root c.requires.counts c.variables-variables.ensures.automaton c.count-nodes.ensures.sound c.requires.live c.counts_of-counts.result.now c.counts_of-counts.ensures

pub returns-in-None-clause-cursor : goal.returns-in-None-clause-cursor
returns-in-None-clause-cursor g c =
    subst (λ t. IsCursorAt (text_of c.args.store.now c.args.root) c.args.m (query_of c.args.tabled.now.query.tree) (Some t)) (sym (c.none.ensures ∙ ap blanks c.variables-variables.ensures.value))
    (cursor-last c.args.store.now c.args.tabled.now c.args.root c.requires.counts c.variables-variables.ensures.automaton c.count-nodes.ensures.sound c.requires.live c.args.m (omega (arith, c.requires.first, c.if-m-eq1.false))
    (subst (IsNth c.args.tabled.now.query.dfa (text_of c.args.store.now c.args.root) (c.args.m - 1)) c.in-None.is c.in_ok-answer.ensures.nth))

pub returns-in-None-clause-list : goal.returns-in-None-clause-list
returns-in-None-clause-list g c = list-counted c.args.store.now c.args.tabled.now c.args.root c.requires.counts c.variables-variables.ensures.automaton c.count-nodes.ensures.sound c.requires.live c.counts_of-counts.result.now c.counts_of-counts.ensures
