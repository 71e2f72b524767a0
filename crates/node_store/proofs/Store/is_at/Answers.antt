use Rattle.std.proofs.Common.{rules, ◌≡◌, ◌∙◌, Some, slice_get, ap, subst}
use Rattle.slp_model.specs.Nodes.{IsSound}
use Rattle.slp_model.proofs.NodesLemmas.{tree-at}
use Rattle.node_store.proofs.Store.is_at.Goals as goal

pub returns-then-index-len-clause-tree : goal.returns-then-index-len-clause-tree
returns-then-index-len-clause-tree c = λ is.
    let sound : IsSound c.args.self.now = subst IsSound c.self.view_is c.self.invariant.0.sound in
    let same : c.at.result ≡ c.args.node = search rules in
    let at : slice_get c.args.self.now c.args.index ≡ Some c.args.node = subst (λ ns. slice_get ns c.args.index ≡ Some c.args.node) c.self.view_is (c.at.ensures ∙ ap Some same) in
    tree-at c.args.self.now c.args.index c.args.node at (sound.children c.args.index c.args.node at)
