use Rattle.std.proofs.Common.{◌≡◌, ◌<◌, ◌∙◌, ℕ, List, length, subst, sym, OnErr, OnOk}
use Rattle.state_tables.specs.Dictionary.{AreTables, count_of}
use Rattle.table_grow.proofs.Placed.{Since, since-start}
use Rattle.table_grow.proofs.schedule.fill.Goals as goal
use Rattle.table_grow.proofs.schedule.fill.Goals.{After-drop-memory-inside-2}

since : (g : _) (c : After-drop-memory-inside-2 g) → Since c.args.dfa.now c.args.store.now c.args.tables.now c.fill_new-done.new.filling
since g c = since-start c.args.dfa.now c.args.store.now c.args.tables.now c.in_ok-memory.memory c.in_ok-filling.filling c.fill_new-done.new.filling c.count.ensures.facts c.in_ok-filling.ensures.starts c.fill_new-done.ensures.continues

pub returns-clause-all : goal.returns-clause-all
returns-clause-all g c = subst (λ ns. OnOk c.close.result (count_of c.close.new.tables ≡ length ns)) (since g c).nodes_are c.close.ensures.all

pub returns-clause-meaning : goal.returns-clause-meaning
returns-clause-meaning g c =
    let at = since g c in
    subst (λ a. AreTables a c.args.store.now c.close.new.tables) at.automaton (subst (λ ns. AreTables c.fill_new-done.new.filling.automaton ns c.close.new.tables) at.nodes_are c.close.ensures.meaning)

pub returns-clause-old : goal.returns-clause-old
returns-clause-old g c = λ id h. c.close.ensures.old id (subst (λ (ns : List ℕ). id < length ns) (sym (since g c).numbers) h) ∙ (since g c).old id h

pub returns-clause-err : goal.returns-clause-err
returns-clause-err g c = subst (λ ns. OnErr c.close.result (c.close.new.tables.numbers ≡ ns)) (since g c).numbers c.close.ensures.err
