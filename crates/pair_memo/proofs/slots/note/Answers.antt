use Rattle.std.proofs.Common.{◌∙◌, inl, inr, length, drop, subst, List, Option, Contains}
use Rattle.pair_memo.specs.Entries.{Entry, entries_of}
use Rattle.pair_memo.proofs.EntryLemmas.{whole}
use Rattle.pair_memo.proofs.slots.note.Goals as goal

pub returns-then-count-len-clause-entries : goal.returns-then-count-len-clause-entries
returns-then-count-len-clause-entries c =
    let new = c.put.new.slots in
    let room = c.make_room-count.new.slots in
    let all = whole new (drop (length new) room.items) room.len (c.put.ensures.long ∙ c.deref_mut.ensures.len) in
    λ e h. elim (c.put.ensures.entries e (subst (λ (slots : List (Option Entry)). Contains (entries_of slots) e) all h)) [
      | inl old ↦ inl (c.make_room-count.ensures.entries e (subst (λ (slots : List (Option Entry)). Contains (entries_of slots) e) c.deref_mut.ensures.value old))
      | inr put ↦ inr put
    ]
