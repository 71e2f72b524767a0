use Rattle.std.proofs.Common.{◌∙◌, inl, inr, subst, List, Contains}
use Rattle.pair_memo.specs.Entries.{Entry}
use Rattle.pair_memo.proofs.EntryLemmas.{same-entry}
use Rattle.pair_memo.proofs.PairMemo.note.Goals as goal

pub returns-in-Ok-Ok-Ok : goal.returns-in-Ok-Ok-Ok
returns-in-Ok-Ok-Ok c =
    let numbers = c.in-Ok-Ok-Ok in
    let is = same-entry numbers.left c.args.left numbers.right c.args.right numbers.number c.args.number numbers.ensures.1 numbers.ensures'.1 numbers.ensures''.1 in
    λ e h. elim (c.note-self-inside.ensures.entries e h) [
      | inl old ↦ inl (subst (λ (es : List Entry). Contains es e) c.self.view_is (c.leave_room-count.ensures.entries e old))
      | inr put ↦ inr (put ∙ is)
    ]
