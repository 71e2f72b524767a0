use Rattle.std.proofs.Common.{◌≡◌, ◌↔◌, sym, ap, ◌∙◌, subst, ℕ, List, length, None, OnOk, OnErr, arith}
use Rattle.std.specs.Prelude.{IsErrOf}
use Rattle.query_book.specs.declared.entry.Entry.{Entry}
use Rattle.query_book.specs.declared.refusal.BookRefusal.TheVariants.{NoSuchQuery}
use Rattle.query_book.specs.Named.{put, value_of}
use Rattle.query_book.specs.Book.{book_of, entries_of, queries_in}
use Rattle.query_book.specs.Kept.{AreSound}
use Rattle.query_book.specs.Serving.{ArePartlyAt, AreServed, Covers, CoversQuery, counted_in, covered_in, sum_of}
use Rattle.query_book.proofs.CountGrowth.{sound-counted, serves-counted, queries-counted, covered-counted, covers-counted, covers_query-counted, all-counted, done-counted, err-counted, missing-counted, some-counted}
use Rattle.query_book.proofs.book.QueryBook.grow_counts.Goals as goal

pub count_named-requires-clause-kept : goal.count_named-requires-clause-kept
count_named-requires-clause-kept g c κs within = subst AreSound (sym c.settle.ensures) c.self.invariant.sound

pub count_named-requires-clause-served : goal.count_named-requires-clause-served
count_named-requires-clause-served g c κs within =
    let seen = ap entries_of c.settle.ensures ∙ ap (λ book. book.entries) c.self.view_is in
    subst (AreServed c.args.store.now) (sym seen) c.requires.serves

pub invariant_of-self : goal.invariant_of-self
invariant_of-self g c = record {
  sound = sound-counted c.args.store.now c.args.name.now c.settle.new.self c.count_named.new.by_name (subst AreSound (sym c.settle.ensures) c.self.invariant.sound) c.count_named.result c.count_named.ensures.changes;
  few = c.self.invariant.few;
  many = c.self.invariant.many;
}

pub returns-clause-all : goal.returns-clause-all
returns-clause-all g c = all-counted c.args.store.now c.args.name.now c.settle.new.self c.count_named.new.by_name c.self.inside.states c.count_named.result c.count_named.ensures.changes

pub returns-clause-done : goal.returns-clause-done
returns-clause-done g c =
    let seen = ap entries_of c.settle.ensures ∙ ap (λ book. book.entries) c.self.view_is in
    subst (λ (es : List Entry). OnOk c.count_named.result (counted_in (entries_of c.count_named.new.by_name) ≡ put (counted_in es) c.args.name.now (length c.args.store.now))) seen
    (done-counted c.args.store.now c.args.name.now c.settle.new.self c.count_named.new.by_name c.count_named.result c.count_named.ensures.changes)

pub returns-clause-err : goal.returns-clause-err
returns-clause-err g c =
    let seen = ap entries_of c.settle.ensures ∙ ap (λ book. book.entries) c.self.view_is in
    subst (λ (es : List Entry). OnErr c.count_named.result (counted_in (entries_of c.count_named.new.by_name) ≡ counted_in es)) seen
    (err-counted c.args.store.now c.args.name.now c.settle.new.self c.count_named.new.by_name c.count_named.result c.count_named.ensures.changes)

pub returns-clause-missing : goal.returns-clause-missing
returns-clause-missing g c =
    let seen = ap entries_of c.settle.ensures ∙ ap (λ book. book.entries) c.self.view_is in
    subst (λ (es : List Entry). IsErrOf c.count_named.result NoSuchQuery ↔ (value_of (queries_in es) c.args.name.now ≡ None)) seen
    (missing-counted c.args.store.now c.args.name.now c.settle.new.self c.count_named.new.by_name c.count_named.result c.count_named.ensures.changes)

pub returns-clause-queries : goal.returns-clause-queries
returns-clause-queries g c =
    let seen = ap entries_of c.settle.ensures ∙ ap (λ book. book.entries) c.self.view_is in
    queries-counted c.args.store.now c.args.name.now c.settle.new.self c.count_named.new.by_name c.count_named.result c.count_named.ensures.changes ∙ ap queries_in seen

pub returns-clause-covered : goal.returns-clause-covered
returns-clause-covered g c =
    let seen = ap entries_of c.settle.ensures ∙ ap (λ book. book.entries) c.self.view_is in
    covered-counted c.args.store.now c.args.name.now c.settle.new.self c.count_named.new.by_name c.count_named.result c.count_named.ensures.changes ∙ ap covered_in seen

pub returns-clause-serves : goal.returns-clause-serves
returns-clause-serves g c =
    let seen = ap entries_of c.settle.ensures ∙ ap (λ book. book.entries) c.self.view_is in
    serves-counted c.args.store.now c.args.name.now c.settle.new.self c.count_named.new.by_name (subst (AreServed c.args.store.now) (sym seen) c.requires.serves) c.count_named.result c.count_named.ensures.changes

pub returns-clause-covers : goal.returns-clause-covers
returns-clause-covers g c =
    let most = c.self.inside.states in
    let seen = ap (book_of most) c.settle.ensures ∙ c.self.view_is in
    subst (λ book. Covers c.args.store.now book → Covers c.args.store.now (book_of most c.count_named.new.by_name)) seen
    (covers-counted c.args.store.now c.args.name.now c.settle.new.self c.count_named.new.by_name most c.count_named.result c.count_named.ensures.changes)

pub returns-clause-covers_query : goal.returns-clause-covers_query
returns-clause-covers_query g c =
    let most = c.self.inside.states in
    let seen = ap (book_of most) c.settle.ensures ∙ c.self.view_is in
    subst (λ book. (other : List ℕ) → CoversQuery c.args.store.now book other → CoversQuery c.args.store.now (book_of most c.count_named.new.by_name) other) seen
    (covers_query-counted c.args.store.now c.args.name.now c.settle.new.self c.count_named.new.by_name most c.count_named.result c.count_named.ensures.changes)

pub returns-clause-some : goal.returns-clause-some
returns-clause-some g c =
    let seen = ap entries_of c.settle.ensures ∙ ap (λ book. book.entries) c.self.view_is in
    subst (λ (es : List Entry). ArePartlyAt (length c.args.store.now) (counted_in es) (counted_in (entries_of c.count_named.new.by_name))) seen
    (some-counted c.args.store.now c.args.name.now c.settle.new.self c.count_named.new.by_name c.count_named.result c.count_named.ensures.changes)

pub returns-clause-steps : goal.returns-clause-steps
returns-clause-steps g c =
    let seen = ap entries_of c.settle.ensures ∙ ap (λ book. book.entries) c.self.view_is in
    omega (arith, c.count_named.ensures.steps, ap (λ es. sum_of (counted_in es)) seen)
