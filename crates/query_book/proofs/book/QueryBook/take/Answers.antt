use Rattle.std.proofs.Common.{rules, refl, ap, ◌∙◌, subst, sym, ◌≡◌, Some, None}
use Rattle.std.specs.Option.{option_map}
use Rattle.span_types.specs.Query.{query_of}
use Rattle.query_book.specs.Book.{entries_of, tabled_of, without_entry}
use Rattle.query_book.specs.Kept.{AreSound}
use Rattle.query_book.proofs.Entries.{tabled-entries, taken_out-entries, AreSound-taken_out, names-distinct}
use Rattle.query_book.proofs.Views.{value-by_name}
use Rattle.query_book.proofs.book.QueryBook.take.Goals.{in-Some, in-None}
use Rattle.query_book.proofs.book.QueryBook.take.Goals as goal

pub returns-clause-rest : goal.returns-clause-rest
returns-clause-rest c =
    ap entries_of c.take_out-taken.ensures.rest ∙ (taken_out-entries c.self.inside.by_name c.args.name.now ∙ ap (λ book. without_entry book.entries c.args.name.now) c.self.view_is)

pub invariant_of-self : goal.invariant_of-self
invariant_of-self c = record {
  sound = subst AreSound (sym c.take_out-taken.ensures.rest) (AreSound-taken_out c.self.inside.by_name c.args.name.now c.self.invariant.sound);
  few = c.self.invariant.few;
  many = c.self.invariant.many;
}

pub returns-clause-ok : goal.returns-clause-ok
returns-clause-ok c =
    let e : c.take_out-taken.result ≡ tabled_of c.args.self.now c.args.name.now = c.take_out-taken.ensures.value ∙ (sym (tabled-entries c.self.inside.by_name c.args.name.now) ∙ ap (λ book. tabled_of book c.args.name.now) c.self.view_is) in
    elim c.match-taken.branch [
      | in-Some w ↦ let p : tabled_of c.args.self.now c.args.name.now ≡ Some w.in-Some.field-0 = sym e ∙ w.in-Some.is in rw (w.result-is, p) (search rules)
      | in-None w ↦ rw (w.result-is) (search rules)
    ]

pub returns-clause-missing : goal.returns-clause-missing
returns-clause-missing c =
    let e : c.take_out-taken.result ≡ tabled_of c.args.self.now c.args.name.now = c.take_out-taken.ensures.value ∙ (sym (tabled-entries c.self.inside.by_name c.args.name.now) ∙ ap (λ book. tabled_of book c.args.name.now) c.self.view_is) in
    elim c.match-taken.branch [
      | in-Some w ↦ rw (w.result-is) (search rules)
      | in-None w ↦
          let p : tabled_of c.args.self.now c.args.name.now ≡ None = sym e ∙ w.in-None.is in
          rw (w.result-is) (record { none = value-by_name (λ t. query_of t.query.tree) c.args.self.now.entries c.args.name.now ∙ ap (λ o. option_map (λ t. query_of t.query.tree) o) p; refusal = refl })
    ]

pub returns-clause-distinct : goal.returns-clause-distinct
returns-clause-distinct c = names-distinct c.take_out-taken.new.self c.count-count.ensures.distinct
