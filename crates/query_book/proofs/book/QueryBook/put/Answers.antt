use Rattle.std.proofs.Common.{ap, ◌∙◌, subst, sym}
use Rattle.query_book.specs.Book.{entries_of, with_entry}
use Rattle.query_book.specs.Kept.{AreSound}
use Rattle.query_book.proofs.Entries.{put-entries, AreSound-put, names-distinct}
use Rattle.query_book.proofs.book.QueryBook.put.Goals as goal

pub returns-clause-ok : goal.returns-clause-ok
returns-clause-ok c =
    ap entries_of c.in_ok-set.ensures.ok ∙ (put-entries c.self.inside.by_name c.args.entry ∙ ap (λ book. with_entry book.entries c.args.entry) c.self.view_is)

pub invariant_of-self-2 : goal.invariant_of-self-2
invariant_of-self-2 c = record {
  sound = subst AreSound (sym c.in_ok-set.ensures.ok) (AreSound-put c.self.inside.by_name c.args.entry.name c.args.entry.tabled c.self.invariant.sound c.requires);
  few = c.self.invariant.few;
  many = c.self.invariant.many;
}

pub returns-clause-distinct : goal.returns-clause-distinct
returns-clause-distinct c = names-distinct c.set.new.self c.count-count.ensures.distinct
