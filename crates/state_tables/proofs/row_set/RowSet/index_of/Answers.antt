use Rattle.std.proofs.Common.{◌≡◌, ◌<◌, ◌+◌, length, set, subst, sym, ap, ◌∙◌, arith}
use Rattle.distinct_items.proofs.Used.{come-back}
use Rattle.std.proofs.lemmas.List.{length_push}
use Rattle.state_tables.specs.RowSet.{AreLinks}
use Rattle.state_tables.specs.TableRows.{HaveSets}
use Rattle.state_tables.proofs.RowSets.{have-push, links-push}
use Rattle.state_tables.proofs.row_set.RowSet.index_of.Goals as goal

pub invariant_of-self-in-Free : goal.invariant_of-self-in-Free
invariant_of-self-in-Free c =
    let rows = c.self.inside.rows.items in
    let sets = c.self.inside.sets.sets in
    let row = c.args.row in
    let old = c.self.inside.slots.items in
    let filled = c.fill.new.slots in
    let lt : c.args.row.set < length c.self.inside.sets.sets = omega (arith, c.requires.set, ap (λ g. length g.sets) c.self.view_is) in
    let count : c.len-index.result ≡ length c.self.inside.rows.items = omega (arith, c.len-index.ensures, c.self.inside.rows.ok.0) in
    let slots = come-back filled old c.self.inside.slots.len (omega (arith, c.fill.auto.slots, c.deref_mut.ensures.len))
    ∙ c.fill.ensures
    ∙ ap (λ l. set l c.in-Free.slot (c.len-index.result + 1)) c.deref_mut.ensures.value
    ∙ ap (λ n. set old c.in-Free.slot (n + 1)) count in
    subst (λ s. HaveSets sets c.push.new.self.items × AreLinks (length c.push.new.self.items) s) (sym slots)
    (rw c.in_ok-push-in-Free.ensures.items (have-push sets rows row c.self.invariant.0 lt, rw (length_push rows row) (links-push (length rows) old c.in-Free.slot c.self.invariant.1)))
