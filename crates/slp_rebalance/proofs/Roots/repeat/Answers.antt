use Rattle.std.proofs.Common.{◌*◌, ◌^◌, ◌≤◌, [], ◌∷◌, ◌++◌, refl, ap, subst, ◌∙◌}
use Rattle.slp_model.specs.Tree.{leaves}
use Rattle.slp_model.specs.Nodes.{tree}
use Rattle.slp_rebalance.proofs.EntryLemmas.{entries-push, entry-at, entry-live}
use Rattle.slp_rebalance.proofs.Roots.repeat.Goals as goal

pub repeated-requires-clause-live : goal.repeated-requires-clause-live
repeated-requires-clause-live g c =
    entry-live c.args.store.now c.args.self.now c.args.child c.root-root.result c.requires.live c.root-root.ensures

pub repeated-requires-clause-short : goal.repeated-requires-clause-short
repeated-requires-clause-short g c =
    subst (λ t. c.args.times * leaves t ≤ 2 ^ 48) (entry-at c.args.store.now c.args.self.now c.args.child c.root-root.result c.root-root.ensures) c.requires.short

pub returns-clause-entries : goal.returns-clause-entries
returns-clause-entries g c =
    record { last = tree c.repeated.new.store c.in_ok-id.id.index; added = entries-push c.args.store.now c.repeated.new.store c.args.pairs.now c.repeated.new.pairs c.repeated.ensures.grows c.args.self.now c.requires.live c.in_ok-id.id c.push_reserved.new.self.items (c.push_reserved.ensures.items ∙ ap (λ xs. xs ++ c.in_ok-id.id ∷ []) (c.reserve.ensures.items ∙ c.self.view_is)) (tree c.repeated.new.store c.in_ok-id.id.index) refl; text_is = rw (entry-at c.args.store.now c.args.self.now c.args.child c.root-root.result c.root-root.ensures) c.in_ok-id.ensures.text }
