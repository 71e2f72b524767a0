use Rattle.std.proofs.Common.{◌∙◌, length, drop, subst, List, Option, Contains}
use Rattle.pair_memo.specs.Entries.{Entry, entries_of}
use Rattle.pair_memo.proofs.EntryLemmas.{whole}
use Rattle.pair_memo.proofs.slots.make_room.Goals as goal

pub returns-clause-entries : goal.returns-clause-entries
returns-clause-entries c =
    let new = c.put_all-count.new.to in
    let all = whole new (drop (length new) c.in-Ok.larger.items) c.in-Ok.larger.len (c.put_all-count.ensures.long ∙ c.deref_mut.ensures.len) in
    λ e h.
    subst (λ (slots : List (Option Entry)). Contains (entries_of slots) e) c.deref.ensures.value
    (c.put_all-count.ensures.entries e (subst (λ (slots : List (Option Entry)). Contains (entries_of slots) e) all h))
