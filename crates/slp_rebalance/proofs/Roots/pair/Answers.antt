use Rattle.std.proofs.Common.{◌≡◌, ◌+◌, ◌^◌, ◌≤◌, [], ◌∷◌, ◌++◌, get_or, ap, subst, ◌∙◌, arith}
use Rattle.slp_model.specs.Tree.{Leaf, leaves}
use Rattle.slp_model.specs.Nodes.{tree}
use Rattle.slp_model.proofs.JoinLemmas.{join-joined}
use Rattle.slp_rebalance.specs.Entries.{entry_trees}
use Rattle.slp_rebalance.proofs.EntryLemmas.{entries-push, entry-at, entry-live, entries-more, entries-stay}
use Rattle.slp_rebalance.proofs.Roots.pair.Goals as goal

pub join-requires-clause-a : goal.join-requires-clause-a
join-requires-clause-a g c =
    entry-live c.args.store.now c.args.self.now c.args.left c.root-a.result c.requires.live c.root-a.ensures

pub join-requires-clause-b : goal.join-requires-clause-b
join-requires-clause-b g c =
    entry-live c.args.store.now c.args.self.now c.args.right c.root-b.result c.requires.live c.root-b.ensures

pub join-requires-clause-short : goal.join-requires-clause-short
join-requires-clause-short g c =
    subst (λ t. leaves t + leaves (tree c.args.store.now c.root-b.result.index) ≤ 2 ^ 48) (entry-at c.args.store.now c.args.self.now c.args.left c.root-a.result c.root-a.ensures) (subst (λ t. leaves (get_or (entry_trees c.args.store.now c.args.self.now) c.args.left (Leaf 0)) + leaves t ≤ 2 ^ 48) (entry-at c.args.store.now c.args.self.now c.args.right c.root-b.result c.root-b.ensures) c.requires.short)

pub returns-in_err-id-clause-near : goal.returns-in_err-id-clause-near
returns-in_err-id-clause-near g c =
    rw ((entry-at c.args.store.now c.args.self.now c.args.left c.root-a.result c.root-a.ensures), (entry-at c.args.store.now c.args.self.now c.args.right c.root-b.result c.root-b.ensures)) (λ h. let e : c.join.new.pairs ≡ c.args.pairs.now + 1 = c.join.ensures.near h in omega (arith, e))

pub returns-clause-near : goal.returns-clause-near
returns-clause-near g c =
    rw ((entry-at c.args.store.now c.args.self.now c.args.left c.root-a.result c.root-a.ensures), (entry-at c.args.store.now c.args.self.now c.args.right c.root-b.result c.root-b.ensures)) (λ h. let e : c.join.new.pairs ≡ c.args.pairs.now + 1 = c.join.ensures.near h in omega (arith, e))

pub returns-clause-live : goal.returns-clause-live
returns-clause-live g c =
    entries-more c.join.new.store c.args.self.now c.push_reserved.new.self.items c.in_ok-id.id (entries-stay c.args.store.now c.join.new.store c.args.pairs.now c.join.new.pairs c.join.ensures.grows c.args.self.now c.requires.live) c.in_ok-id.ensures.live (c.push_reserved.ensures.items ∙ ap (λ xs. xs ++ c.in_ok-id.id ∷ []) (c.reserve.ensures.items ∙ c.self.view_is))

pub returns-clause-entries : goal.returns-clause-entries
returns-clause-entries g c =
    rw ((entry-at c.args.store.now c.args.self.now c.args.left c.root-a.result c.root-a.ensures), (entry-at c.args.store.now c.args.self.now c.args.right c.root-b.result c.root-b.ensures)) (entries-push c.args.store.now c.join.new.store c.args.pairs.now c.join.new.pairs c.join.ensures.grows c.args.self.now c.requires.live c.in_ok-id.id c.push_reserved.new.self.items (c.push_reserved.ensures.items ∙ ap (λ xs. xs ++ c.in_ok-id.id ∷ []) (c.reserve.ensures.items ∙ c.self.view_is)) _ c.in_ok-id.ensures.tree)

pub returns-clause-joined : goal.returns-clause-joined
returns-clause-joined g c =
    rw ((entry-at c.args.store.now c.args.self.now c.args.left c.root-a.result c.root-a.ensures), (entry-at c.args.store.now c.args.self.now c.args.right c.root-b.result c.root-b.ensures)) (join-joined (tree c.args.store.now c.root-a.result.index) (tree c.args.store.now c.root-b.result.index) c.join.ensures.balanced.0 c.join.ensures.balanced.1)
