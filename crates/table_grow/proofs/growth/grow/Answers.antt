use Rattle.std.proofs.Common.{◌≡◌, ◌<◌, ◌∙◌, ℕ, List, length, ap, subst, sym, OnErr, OnOk}
use Rattle.state_tables.specs.Dictionary.{AreTables, Dictionary, count_of}
use Rattle.table_grow.specs.Remembering.{AreTrueEntries}
use Rattle.table_grow.proofs.Growing.{entries-same}
use Rattle.table_grow.proofs.Placed.{Since, since-start}
use Rattle.table_grow.proofs.growth.grow.Goals as goal
use Rattle.table_grow.proofs.growth.grow.Goals.{After-close}

since : (g : _) (c : After-close g) → Since c.args.dfa.now c.args.store.now c.args.tables.now c.place_new-done.new.filling
since g c = since-start c.args.dfa.now c.args.store.now c.args.tables.now c.args.memory.now c.in_ok-filling.filling c.place_new-done.new.filling c.count.ensures.facts c.in_ok-filling.ensures.starts c.place_new-done.ensures.continues

pub returns-in_err-filling-clause-entries : goal.returns-in_err-filling-clause-entries
returns-in_err-filling-clause-entries g c =
    subst (AreTrueEntries c.«open».new.tables) (sym c.in_err-filling.ensures.memory)
    (entries-same c.args.tables.now c.«open».new.tables c.args.memory.now (ap (λ (x : Dictionary). x.kept) c.in_err-filling.ensures.tables) c.requires.true_entries)

pub returns-clause-all : goal.returns-clause-all
returns-clause-all g c = subst (λ ns. OnOk c.close.result (count_of c.close.new.tables ≡ length ns)) (since g c).nodes_are c.close.ensures.all

pub returns-clause-meaning : goal.returns-clause-meaning
returns-clause-meaning g c =
    let at = since g c in
    subst (λ a. AreTables a c.args.store.now c.close.new.tables) at.automaton (subst (λ ns. AreTables c.place_new-done.new.filling.automaton ns c.close.new.tables) at.nodes_are c.close.ensures.meaning)

pub returns-clause-old : goal.returns-clause-old
returns-clause-old g c = λ id h. c.close.ensures.old id (subst (λ (ns : List ℕ). id < length ns) (sym (since g c).numbers) h) ∙ (since g c).old id h

pub returns-clause-err : goal.returns-clause-err
returns-clause-err g c = subst (λ ns. OnErr c.close.result (c.close.new.tables.numbers ≡ ns)) (since g c).numbers c.close.ensures.err
