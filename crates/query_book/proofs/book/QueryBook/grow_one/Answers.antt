use Rattle.std.proofs.Common.{◌≡◌, ◌↔◌, sym, ap, ◌∙◌, subst, List, length, None, OnOk, OnErr, arith}
use Rattle.std.specs.Prelude.{IsErrOf}
use Rattle.query_book.specs.declared.entry.Entry.{Entry}
use Rattle.query_book.specs.declared.refusal.BookRefusal.TheVariants.{NoSuchQuery}
use Rattle.query_book.specs.Named.{put, value_of}
use Rattle.query_book.specs.Book.{entries_of, queries_in}
use Rattle.query_book.specs.Kept.{AreSound}
use Rattle.query_book.specs.Serving.{ArePartlyAt, AreServed, counted_in, covered_in, sum_of}
use Rattle.query_book.proofs.QueryGrowth.{sound-grown, serves-grown, queries-grown, counted-grown, all-grown, done-grown, err-grown, missing-grown, some-grown}
use Rattle.query_book.proofs.book.QueryBook.grow_one.Goals as goal

pub grow_named-requires-clause-kept : goal.grow_named-requires-clause-kept
grow_named-requires-clause-kept g c κs within = subst AreSound (sym c.settle.ensures) c.self.invariant.sound

pub grow_named-requires-clause-served : goal.grow_named-requires-clause-served
grow_named-requires-clause-served g c κs within =
    let seen = ap entries_of c.settle.ensures ∙ ap (λ book. book.entries) c.self.view_is in
    subst (AreServed c.args.store.now) (sym seen) c.requires.serves

pub invariant_of-self : goal.invariant_of-self
invariant_of-self g c = record {
  sound = sound-grown c.args.store.now c.args.name.now c.settle.new.self c.grow_named.new.by_name (subst AreSound (sym c.settle.ensures) c.self.invariant.sound) c.grow_named.result c.grow_named.ensures.changes;
  few = c.self.invariant.few;
  many = c.self.invariant.many;
}

pub returns-clause-all : goal.returns-clause-all
returns-clause-all g c =
    let seen = ap entries_of c.settle.ensures ∙ ap (λ book. book.entries) c.self.view_is in
    all-grown c.args.store.now c.args.name.now c.settle.new.self c.grow_named.new.by_name c.self.inside.states (subst (AreServed c.args.store.now) (sym seen) c.requires.serves) c.grow_named.result c.grow_named.ensures.changes

pub returns-clause-done : goal.returns-clause-done
returns-clause-done g c =
    let seen = ap entries_of c.settle.ensures ∙ ap (λ book. book.entries) c.self.view_is in
    subst (λ (es : List Entry). OnOk c.grow_named.result (covered_in (entries_of c.grow_named.new.by_name) ≡ put (covered_in es) c.args.name.now (length c.args.store.now))) seen
    (done-grown c.args.store.now c.args.name.now c.settle.new.self c.grow_named.new.by_name c.grow_named.result c.grow_named.ensures.changes)

pub returns-clause-err : goal.returns-clause-err
returns-clause-err g c =
    let seen = ap entries_of c.settle.ensures ∙ ap (λ book. book.entries) c.self.view_is in
    subst (λ (es : List Entry). OnErr c.grow_named.result (covered_in (entries_of c.grow_named.new.by_name) ≡ covered_in es)) seen
    (err-grown c.args.store.now c.args.name.now c.settle.new.self c.grow_named.new.by_name c.grow_named.result c.grow_named.ensures.changes)

pub returns-clause-missing : goal.returns-clause-missing
returns-clause-missing g c =
    let seen = ap entries_of c.settle.ensures ∙ ap (λ book. book.entries) c.self.view_is in
    subst (λ (es : List Entry). IsErrOf c.grow_named.result NoSuchQuery ↔ (value_of (queries_in es) c.args.name.now ≡ None)) seen
    (missing-grown c.args.store.now c.args.name.now c.settle.new.self c.grow_named.new.by_name c.grow_named.result c.grow_named.ensures.changes)

pub returns-clause-queries : goal.returns-clause-queries
returns-clause-queries g c =
    let seen = ap entries_of c.settle.ensures ∙ ap (λ book. book.entries) c.self.view_is in
    queries-grown c.args.store.now c.args.name.now c.settle.new.self c.grow_named.new.by_name c.grow_named.result c.grow_named.ensures.changes ∙ ap queries_in seen

pub returns-clause-counted : goal.returns-clause-counted
returns-clause-counted g c =
    let seen = ap entries_of c.settle.ensures ∙ ap (λ book. book.entries) c.self.view_is in
    counted-grown c.args.store.now c.args.name.now c.settle.new.self c.grow_named.new.by_name c.grow_named.result c.grow_named.ensures.changes ∙ ap counted_in seen

pub returns-clause-serves : goal.returns-clause-serves
returns-clause-serves g c =
    let seen = ap entries_of c.settle.ensures ∙ ap (λ book. book.entries) c.self.view_is in
    serves-grown c.args.store.now c.args.name.now c.settle.new.self c.grow_named.new.by_name (subst (AreServed c.args.store.now) (sym seen) c.requires.serves) c.grow_named.result c.grow_named.ensures.changes

pub returns-clause-some : goal.returns-clause-some
returns-clause-some g c =
    let seen = ap entries_of c.settle.ensures ∙ ap (λ book. book.entries) c.self.view_is in
    subst (λ (es : List Entry). ArePartlyAt (length c.args.store.now) (covered_in es) (covered_in (entries_of c.grow_named.new.by_name))) seen
    (some-grown c.args.store.now c.args.name.now c.settle.new.self c.grow_named.new.by_name c.grow_named.result c.grow_named.ensures.changes)

pub returns-clause-steps : goal.returns-clause-steps
returns-clause-steps g c =
    let seen = ap entries_of c.settle.ensures ∙ ap (λ book. book.entries) c.self.view_is in
    omega (arith, c.grow_named.ensures.steps, ap (λ es. sum_of (covered_in es)) seen)
