use Rattle.std.proofs.Common.{◌+◌, ap, set, subst, sym, ◌∙◌, arith}
use Rattle.distinct_items.proofs.Used.{come-back}
use Rattle.state_tables.specs.StateSet.{number_of_words}
use Rattle.state_tables.specs.RowSet.{IsSetIndex}
use Rattle.state_tables.proofs.RowSets.{digest-of-set, index-push}
use Rattle.state_tables.proofs.distinct_sets.DistinctSets.index_of.Goals as goal

pub invariant_of-self-in-Free : goal.invariant_of-self-in-Free
invariant_of-self-in-Free c =
    let list = c.self.inside.sets in
    let ws = c.args.words.now in
    let old = c.self.inside.slots.items in
    let filled = c.fill.new.slots in
    let slots = come-back filled old c.self.inside.slots.len (omega (arith, c.fill.auto.slots, c.deref_mut.ensures.len))
    ∙ c.fill.ensures
    ∙ ap (λ l. set l c.in-Free.slot (c.len-set.result + 1)) c.deref_mut.ensures.value
    ∙ ap (λ n. set old c.in-Free.slot (n + 1)) c.len-set.ensures in
    subst (IsSetIndex c.push.new.self c.push_reserved.new.self.items) (sym slots)
    (rw (c.in_ok-push-in-Free.ensures.ok, c.push_reserved.ensures.items, c.in_ok-reserve-in-Free.ensures.items)
    (index-push list c.self.inside.digests.items old c.in-Free.slot c.set_digest-digest.result (number_of_words ws) c.self.invariant
    (c.set_digest-digest.ensures ∙ digest-of-set list.width ws (c.requires.width ∙ ap (λ r. r.width) (sym c.self.view_is)) (λ i. omega (arith, c.type_inv.words i)))))
