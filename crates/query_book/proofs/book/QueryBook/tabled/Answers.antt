use Rattle.std.proofs.Common.{◌≡◌, refl, ap, ◌∙◌, sym, None}
use Rattle.std.specs.Option.{option_map}
use Rattle.span_types.specs.Query.{query_of}
use Rattle.query_book.specs.Book.{tabled_of}
use Rattle.query_book.proofs.Entries.{tabled-entries, value-sound}
use Rattle.query_book.proofs.Views.{value-by_name}
use Rattle.query_book.proofs.book.QueryBook.tabled.Goals as goal

pub returns-in-Some-clause-found : goal.returns-in-Some-clause-found
returns-in-Some-clause-found c =
    sym (c.in-Some.ensures ∙ (sym (tabled-entries c.self.inside.by_name c.args.name.now) ∙ ap (λ book. tabled_of book c.args.name.now) c.self.view_is))

pub returns-in-Some-clause-sound : goal.returns-in-Some-clause-sound
returns-in-Some-clause-sound c = value-sound c.self.inside.by_name c.args.name.now c.in-Some.tabled.now c.self.invariant.sound (sym c.in-Some.ensures)

pub returns-in-None-clause-missing : goal.returns-in-None-clause-missing
returns-in-None-clause-missing c =
    let e : tabled_of c.args.self.now c.args.name.now ≡ None = sym (c.in-None.ensures ∙ (sym (tabled-entries c.self.inside.by_name c.args.name.now) ∙ ap (λ book. tabled_of book c.args.name.now) c.self.view_is)) in
    record { none = value-by_name (λ t. query_of t.query.tree) c.args.self.now.entries c.args.name.now ∙ ap (λ o. option_map (λ t. query_of t.query.tree) o) e; refusal = refl }
