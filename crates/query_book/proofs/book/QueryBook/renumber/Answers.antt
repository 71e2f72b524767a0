use Rattle.std.proofs.Common.{ap, ◌∙◌, subst, sym, List, length}
use Rattle.query_book.specs.declared.entry.Entry.{Entry}
use Rattle.query_book.specs.Book.{entries_of, queries_in}
use Rattle.query_book.specs.Kept.{AreSound}
use Rattle.query_book.specs.Renumbering.{AreWithin, ranked}
use Rattle.query_book.specs.Serving.{AreServed, counted_in, covered_in}
use Rattle.query_book.proofs.Renumbered.{within-all, sound-after, serves-after, used-after, queries-after, covered-after, counted-after}
use Rattle.query_book.proofs.book.QueryBook.renumber.Goals as goal

pub renumber_entries-requires-clause-kept : goal.renumber_entries-requires-clause-kept
renumber_entries-requires-clause-kept c = subst AreSound (sym c.settle.ensures) c.self.invariant.sound

pub renumber_entries-requires-clause-within : goal.renumber_entries-requires-clause-within
renumber_entries-requires-clause-within c =
    let seen = ap entries_of c.settle.ensures ∙ ap (λ book. book.entries) c.self.view_is in
    subst (λ (es : List Entry). AreWithin c.args.moves.now es) (sym seen) (within-all c.args.moves.now c.requires.nodes c.args.self.now.entries c.requires.plan.long c.requires.serves)

pub invariant_of-self : goal.invariant_of-self
invariant_of-self c = record {
  sound = sound-after c.args.moves.now (length c.settle.new.self) c.settle.new.self c.renumber_entries.new.by_name (subst AreSound (sym c.settle.ensures) c.self.invariant.sound) c.renumber_entries.ensures;
  few = c.self.invariant.few;
  many = c.self.invariant.many;
}

pub returns-clause-queries : goal.returns-clause-queries
returns-clause-queries c =
    let seen = ap entries_of c.settle.ensures ∙ ap (λ book. book.entries) c.self.view_is in
    queries-after c.args.moves.now c.settle.new.self c.renumber_entries.new.by_name c.renumber_entries.ensures ∙ ap queries_in seen

pub returns-clause-covered : goal.returns-clause-covered
returns-clause-covered c =
    let seen = ap entries_of c.settle.ensures ∙ ap (λ book. book.entries) c.self.view_is in
    covered-after c.args.moves.now c.settle.new.self c.renumber_entries.new.by_name c.renumber_entries.ensures ∙ ap (λ es. ranked c.args.moves.now (covered_in es)) seen

pub returns-clause-counted : goal.returns-clause-counted
returns-clause-counted c =
    let seen = ap entries_of c.settle.ensures ∙ ap (λ book. book.entries) c.self.view_is in
    counted-after c.args.moves.now c.settle.new.self c.renumber_entries.new.by_name c.renumber_entries.ensures ∙ ap (λ es. ranked c.args.moves.now (counted_in es)) seen

pub returns-clause-used : goal.returns-clause-used
returns-clause-used c = used-after c.args.moves.now c.self.inside.states c.settle.new.self c.renumber_entries.new.by_name c.renumber_entries.ensures

pub returns-clause-serves : goal.returns-clause-serves
returns-clause-serves c = λ ns ms thin serves.
    let seen = ap entries_of c.settle.ensures ∙ ap (λ book. book.entries) c.self.view_is in
    serves-after c.args.moves.now ns ms thin c.settle.new.self c.renumber_entries.new.by_name c.renumber_entries.ensures (subst (AreServed ns) (sym seen) serves)
