use Rattle.std.proofs.Common.{[], ◌∷◌, ◌++◌, ap, ◌∙◌}
use Rattle.slp_model.specs.Tree.{Leaf}
use Rattle.slp_rebalance.proofs.EntryLemmas.{entries-push}
use Rattle.slp_rebalance.proofs.Roots.byte.Goals as goal

pub returns-clause-entries : goal.returns-clause-entries
returns-clause-entries c =
    entries-push c.args.store.now c.byte.new.self 0 0 c.byte.ensures.grows c.args.self.now c.requires.live c.in_ok-id.id c.push_reserved.new.self.items (c.push_reserved.ensures.items ∙ ap (λ xs. xs ++ c.in_ok-id.id ∷ []) (c.reserve.ensures.items ∙ c.self.view_is)) (Leaf c.args.b) c.in_ok-id.ensures.tree
