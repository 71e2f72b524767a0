use Rattle.std.proofs.Common.{◌∙◌, inl, inr, ap, sym, Option, Some}
use Rattle.pair_memo.specs.Entries.{Entry}
use Rattle.pair_memo.proofs.slots.put_slot.Goals as goal

pub returns-in-Some-clause-entries : goal.returns-in-Some-clause-entries
returns-in-Some-clause-entries c =
    let some : Entry → Option Entry = λ e. Some e in
    λ e h. elim (c.put.ensures.entries e h) [
      | inl old ↦ inl old
      | inr new ↦ inr (c.in-Some.is ∙ ap some (sym new))
    ]
