use Rattle.std.proofs.Common.{rules, arith, ◌≡◌, ◌++◌, ◌∷◌, [], slice_get, Some, subst}
use Rattle.std.proofs.lemmas.Grind.{common_steps}
use Rattle.std.proofs.lemmas.Option.{slice_get_within}
use Rattle.slp_model.proofs.NodesLemmas.{tree-at}
use Rattle.node_store.specs.Known.{AreKnown}
use Rattle.node_store.specs.Stored.{IsStored}
use Rattle.node_store.specs.WordsView.{known_of}
use Rattle.node_store.proofs.KnownLemmas.{known-push}
use Rattle.node_store.proofs.StoredLemmas.{IsStored-push, tree-kept}
use Rattle.node_store.proofs.Store.insert.Goals as goal

pub invariant_of-self-then-added : goal.invariant_of-self-then-added
invariant_of-self-then-added c =
    let before : IsStored c.args.self.now c.self.inside.lens.all c.self.inside.heights.items = subst (λ k. IsStored k c.self.inside.lens.all c.self.inside.heights.items) c.self.view_is c.self.invariant.0 in
    let nodes : c.insert.new.self ≡ c.args.self.now ++ c.args.node ∷ [] = search rules in
    let lens : c.push.new.self.all ≡ c.self.inside.lens.all ++ c.args.facts.len ∷ [] = grind (arith, common_steps) in
    let heights : c.push_reserved.new.self.items ≡ c.self.inside.heights.items ++ c.args.facts.height ∷ [] = grind (arith, common_steps) in
    let known : AreKnown (c.args.self.now ++ c.args.node ∷ []) (known_of c.self.inside.words) = known-push c.args.self.now c.args.node (known_of c.self.inside.words) (subst (λ k. AreKnown k (known_of c.self.inside.words)) c.self.view_is c.self.invariant.1) in
    rw (nodes, lens, heights) (IsStored-push c.args.self.now c.self.inside.lens.all c.self.inside.heights.items c.args.node c.args.facts before c.requires, known)

pub returns-then-added-clause-tree : goal.returns-then-added-clause-tree
returns-then-added-clause-tree c =
    let before : IsStored c.args.self.now c.self.inside.lens.all c.self.inside.heights.items = subst (λ k. IsStored k c.self.inside.lens.all c.self.inside.heights.items) c.self.view_is c.self.invariant.0 in
    let nodes : c.insert.new.self ≡ c.args.self.now ++ c.args.node ∷ [] = search rules in
    let at : slice_get c.insert.new.self c.in_ok-index.index ≡ Some c.args.node = search rules in
    let there : slice_get (c.args.self.now ++ c.args.node ∷ []) c.in_ok-index.index ≡ Some c.args.node = subst (λ ns. slice_get ns c.in_ok-index.index ≡ Some c.args.node) nodes at in
    rw nodes (tree-kept c.args.self.now c.args.node c.in_ok-index.index before.sound there)

pub returns-else-added-clause-tree : goal.returns-else-added-clause-tree
returns-else-added-clause-tree c =
    let nodes : c.insert.new.self ≡ c.args.self.now = search rules in
    let at : slice_get c.args.self.now c.in_ok-index.index ≡ Some c.args.node = search rules in
    let before : IsStored c.args.self.now c.self.inside.lens.all c.self.inside.heights.items = subst (λ k. IsStored k c.self.inside.lens.all c.self.inside.heights.items) c.self.view_is c.self.invariant.0 in
    rw nodes (tree-at c.args.self.now c.in_ok-index.index c.args.node at (before.sound.children c.in_ok-index.index c.args.node at))

pub returns-else-added-clause-live : goal.returns-else-added-clause-live
returns-else-added-clause-live c = slice_get_within c.insert.new.self c.in_ok-index.index c.args.node (search rules)
