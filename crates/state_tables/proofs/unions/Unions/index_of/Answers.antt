use Rattle.std.proofs.Common.{◌≡◌, ap, sym, subst, ◌∙◌, get_or, IfOk, OnOk}
use Rattle.std.proofs.lemmas.Result.{on_ok_weaker}
use Rattle.state_tables.specs.RowSet.{IsSetAt, TakesSet}
use Rattle.state_tables.specs.StateSet.{number_of_words}
use Rattle.state_tables.specs.Unions.{AreUnions, UnionMemo, union_of}
use Rattle.state_tables.proofs.UnionLemmas.{union-alone, union-found, union-known, unions-kept, unions-set}
use Rattle.state_tables.proofs.unions.Unions.index_of.Goals as goal
use Rattle.state_tables.proofs.unions.Unions.index_of.Goals.{After-set_of}

-- the image alone
alone : (c : After-set_of) → number_of_words c.words.result.now ≡ union_of c.args.self.now.images c.args.rows.now.sets c.args.image c.args.beyond
alone c =
    c.words.ensures.number ∙ ap (λ v. get_or v.images c.args.image 0) c.self.view_is
    ∙ union-alone c.args.self.now.images c.args.rows.now.sets c.args.image c.args.beyond c.if-beyond-eq0.true

pub returns-then-beyond-eq0-clause-unions : goal.returns-then-beyond-eq0-clause-unions
returns-then-beyond-eq0-clause-unions c =
    on_ok_weaker c.set_of.result (λ taken. unions-kept c.args.self.now c.args.rows.now.sets c.args.found.now.sets c.set_of.new.self.sets _ taken c.requires.unions) c.set_of.ensures.taken

pub returns-then-beyond-eq0-clause-index : goal.returns-then-beyond-eq0-clause-index
returns-then-beyond-eq0-clause-index c = subst (λ n. IfOk c.set_of.result (IsSetAt c.set_of.new.self.sets n)) (alone c) c.set_of.ensures.index

pub returns-then-beyond-eq0-clause-taken : goal.returns-then-beyond-eq0-clause-taken
returns-then-beyond-eq0-clause-taken c = subst (λ n. OnOk c.set_of.result (TakesSet c.args.found.now.sets c.set_of.new.self.sets n)) (alone c) c.set_of.ensures.taken

pub returns-then-known-beyond-clause-index : goal.returns-then-known-beyond-clause-index
returns-then-known-beyond-clause-index c =
    union-found c.args.self.now c.args.rows.now.sets c.args.found.now.sets c.self.inside.slots c.slot_of-slot.result c.args.image c.args.beyond
    (ap (λ v. v.slots) c.self.view_is) c.requires.unions c.if-known-gt0.true c.if-known-image.true c.if-known-beyond.true

pub returns-clause-unions : goal.returns-clause-unions
returns-clause-unions c =
    let images = c.self.inside.images.sets in
    let rights = c.args.rows.now.sets in
    let old = c.args.found.now.sets in
    let new = c.set_of-2.new.self.sets in
    let value = number_of_words c.unite.new.words in
    let m : UnionMemo = record { width = c.self.inside.images.width; images = c.self.inside.images.sets; slots = c.self.inside.slots } in
    let are : AreUnions m rights old = subst (λ v. AreUnions v c.args.rows.now.sets c.args.found.now.sets) (sym c.self.view_is) c.requires.unions in
    unions-set images rights new c.self.inside.slots c.slot_of-slot.result _ (unions-kept m rights old new value c.in_ok-index.ensures.taken are)
    (union-known images rights new c.args.image c.args.beyond c.in_ok-index.index value c.unite.ensures.value c.in_ok-index.ensures.index)
