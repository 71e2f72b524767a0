use Rattle.std.proofs.Common.{sym, ap, ◌∙◌, subst, List, length, Result, Ok, Err, OnOk, arith}
use Rattle.query_book.specs.declared.entry.Entry.{Entry}
use Rattle.query_book.specs.Book.{entries_of, queries_in}
use Rattle.query_book.specs.Kept.{AreSound}
use Rattle.query_book.specs.Serving.{ArePartlyAt, AreServed, all_at, counted_in, covered_in, sum_of}
use Rattle.query_book.proofs.Growth.{sound-after, served-after, queries-after, partly-after, counted-after, covered-after, covers-after}
use Rattle.query_book.proofs.book.QueryBook.grow_all.Goals as goal

on-ok : {A E : Type 0} (r : Result A E) (P Q : Type 0) → (P → Q) → OnOk r P → OnOk r Q
on-ok (Ok x) P Q f h = f h
on-ok (Err e) P Q f h = h

pub grow_entries-requires-clause-kept : goal.grow_entries-requires-clause-kept
grow_entries-requires-clause-kept g c κs within = subst AreSound (sym c.settle.ensures) c.self.invariant.sound

pub grow_entries-requires-clause-served : goal.grow_entries-requires-clause-served
grow_entries-requires-clause-served g c κs within =
    let seen = ap entries_of c.settle.ensures ∙ ap (λ book. book.entries) c.self.view_is in
    subst (AreServed c.args.store.now) (sym seen) c.requires.serves

pub invariant_of-self : goal.invariant_of-self
invariant_of-self g c = record {
  sound = sound-after c.args.store.now c.settle.new.self c.grow_entries.new.by_name (subst AreSound (sym c.settle.ensures) c.self.invariant.sound) c.grow_entries.ensures.some;
  few = c.self.invariant.few;
  many = c.self.invariant.many;
}

pub returns-clause-all : goal.returns-clause-all
returns-clause-all g c = on-ok c.grow_entries.result _ _ (covers-after c.args.store.now c.self.inside.states c.settle.new.self c.grow_entries.new.by_name c.grow_entries.ensures.some) c.grow_entries.ensures.all

pub returns-clause-serves : goal.returns-clause-serves
returns-clause-serves g c = served-after c.args.store.now c.settle.new.self c.grow_entries.new.by_name c.grow_entries.ensures.some

pub returns-clause-queries : goal.returns-clause-queries
returns-clause-queries g c =
    let seen = ap entries_of c.settle.ensures ∙ ap (λ book. book.entries) c.self.view_is in
    queries-after c.args.store.now c.settle.new.self c.grow_entries.new.by_name c.grow_entries.ensures.some ∙ ap queries_in seen

pub returns-clause-counted : goal.returns-clause-counted
returns-clause-counted g c =
    let seen = ap entries_of c.settle.ensures ∙ ap (λ book. book.entries) c.self.view_is in
    counted-after c.args.store.now c.settle.new.self c.grow_entries.new.by_name c.grow_entries.ensures.some ∙ ap counted_in seen

pub returns-clause-done : goal.returns-clause-done
returns-clause-done g c =
    let seen = ap entries_of c.settle.ensures ∙ ap (λ book. book.entries) c.self.view_is in
    on-ok c.grow_entries.result _ _ (λ h. covered-after c.args.store.now c.settle.new.self c.grow_entries.new.by_name h ∙ ap (λ es. all_at (length c.args.store.now) (covered_in es)) seen) c.grow_entries.ensures.all

pub returns-clause-some : goal.returns-clause-some
returns-clause-some g c =
    let seen = ap entries_of c.settle.ensures ∙ ap (λ book. book.entries) c.self.view_is in
    subst (λ (es : List Entry). ArePartlyAt (length c.args.store.now) (covered_in es) (covered_in (entries_of c.grow_entries.new.by_name))) seen (partly-after c.args.store.now c.settle.new.self c.grow_entries.new.by_name c.grow_entries.ensures.some)

pub returns-clause-steps : goal.returns-clause-steps
returns-clause-steps g c =
    let seen = ap entries_of c.settle.ensures ∙ ap (λ book. book.entries) c.self.view_is in
    omega (arith, c.grow_entries.ensures.steps, ap (λ es. sum_of (covered_in es)) seen)
