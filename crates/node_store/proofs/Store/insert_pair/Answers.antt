use Rattle.std.proofs.Common.{rules, arith, ◌≡◌, ◌++◌, ◌∷◌, [], get_or, slice_get, Some, subst}
use Rattle.std.proofs.lemmas.Grind.{common_steps}
use Rattle.std.proofs.lemmas.Option.{slice_get_within}
use Rattle.slp_model.specs.declared.Node.TheVariants.{Pair}
use Rattle.slp_model.specs.Tree.{leaves}
use Rattle.slp_model.specs.Nodes.{tree}
use Rattle.slp_model.proofs.NodesLemmas.{tree-at}
use Rattle.node_store.specs.Known.{AreKnown}
use Rattle.node_store.specs.Stored.{IsStored}
use Rattle.node_store.specs.WordsView.{known_of}
use Rattle.node_store.proofs.KnownLemmas.{known-push}
use Rattle.node_store.proofs.StoredLemmas.{IsStored-push, tree-kept, pair-next, at-or, low-at}
use Rattle.node_store.proofs.Store.insert_pair.Goals as goal

pub pair_facts-facts-requires-clause-low_left : goal.pair_facts-facts-requires-clause-low_left
pair_facts-facts-requires-clause-low_left c =
    let before : IsStored c.args.self.now c.self.inside.lens.all c.self.inside.heights.items = subst (λ k. IsStored k c.self.inside.lens.all c.self.inside.heights.items) c.self.view_is c.self.invariant.0 in
    let heights : c.deref.result.now ≡ c.self.inside.heights.items = search rules in
    rw heights (low-at c.args.self.now c.self.inside.lens.all c.self.inside.heights.items c.args.left.index before c.requires.left)

pub pair_facts-facts-requires-clause-low_right : goal.pair_facts-facts-requires-clause-low_right
pair_facts-facts-requires-clause-low_right c =
    let before : IsStored c.args.self.now c.self.inside.lens.all c.self.inside.heights.items = subst (λ k. IsStored k c.self.inside.lens.all c.self.inside.heights.items) c.self.view_is c.self.invariant.0 in
    let heights : c.deref.result.now ≡ c.self.inside.heights.items = search rules in
    rw heights (low-at c.args.self.now c.self.inside.lens.all c.self.inside.heights.items c.args.right.index before c.requires.right)

pub pair_facts-facts-requires-clause-short : goal.pair_facts-facts-requires-clause-short
pair_facts-facts-requires-clause-short c =
    let before : IsStored c.args.self.now c.self.inside.lens.all c.self.inside.heights.items = subst (λ k. IsStored k c.self.inside.lens.all c.self.inside.heights.items) c.self.view_is c.self.invariant.0 in
    let lens : c.reserve_one.new.self.all ≡ c.self.inside.lens.all = c.reserve_one.ensures.same in
    let left : get_or c.self.inside.lens.all c.args.left.index 0 ≡ leaves (tree c.args.self.now c.args.left.index) = at-or leaves c.args.self.now c.self.inside.lens.all c.args.left.index before.lens_are c.requires.left in
    let right : get_or c.self.inside.lens.all c.args.right.index 0 ≡ leaves (tree c.args.self.now c.args.right.index) = at-or leaves c.args.self.now c.self.inside.lens.all c.args.right.index before.lens_are c.requires.right in
    rw lens (omega (arith, left, right, c.requires.short))

pub invariant_of-self-then-added : goal.invariant_of-self-then-added
invariant_of-self-then-added c =
    let before : IsStored c.args.self.now c.self.inside.lens.all c.self.inside.heights.items = subst (λ k. IsStored k c.self.inside.lens.all c.self.inside.heights.items) c.self.view_is c.self.invariant.0 in
    let nodes : c.insert.new.self ≡ c.args.self.now ++ Pair c.args.left c.args.right ∷ [] = search rules in
    let lens_before : c.reserve_one.new.self.all ≡ c.self.inside.lens.all = c.reserve_one.ensures.same in
    let heights_before : c.deref.result.now ≡ c.self.inside.heights.items = search rules in
    let lens : c.push.new.self.all ≡ c.self.inside.lens.all ++ c.pair_facts-facts.result.len ∷ [] = grind (arith, common_steps) in
    let heights : c.push_reserved.new.self.items ≡ c.self.inside.heights.items ++ c.pair_facts-facts.result.height ∷ [] = grind (arith, common_steps) in
    let known : AreKnown (c.args.self.now ++ Pair c.args.left c.args.right ∷ []) (known_of c.self.inside.words) = known-push c.args.self.now (Pair c.args.left c.args.right) (known_of c.self.inside.words) (subst (λ k. AreKnown k (known_of c.self.inside.words)) c.self.view_is c.self.invariant.1) in
    rw (nodes, lens, heights) (
      IsStored-push c.args.self.now c.self.inside.lens.all c.self.inside.heights.items (Pair c.args.left c.args.right) c.pair_facts-facts.result before
          (pair-next c.args.self.now c.self.inside.lens.all c.self.inside.heights.items c.args.left c.args.right c.pair_facts-facts.result before c.requires.left c.requires.right c.requires.near c.requires.short
          (rw lens_before at c.pair_facts-facts.ensures.len) (rw heights_before at c.pair_facts-facts.ensures.height)),
      known,
    )

pub returns-then-added-clause-live : goal.returns-then-added-clause-live
returns-then-added-clause-live c = slice_get_within c.insert.new.self c.in_ok-index.index (Pair c.args.left c.args.right) (search rules)

pub returns-then-added-clause-tree : goal.returns-then-added-clause-tree
unfolding tree
returns-then-added-clause-tree c =
    let before : IsStored c.args.self.now c.self.inside.lens.all c.self.inside.heights.items = subst (λ k. IsStored k c.self.inside.lens.all c.self.inside.heights.items) c.self.view_is c.self.invariant.0 in
    let nodes : c.insert.new.self ≡ c.args.self.now ++ Pair c.args.left c.args.right ∷ [] = search rules in
    let at : slice_get c.insert.new.self c.in_ok-index.index ≡ Some (Pair c.args.left c.args.right) = search rules in
    let there : slice_get (c.args.self.now ++ Pair c.args.left c.args.right ∷ []) c.in_ok-index.index ≡ Some (Pair c.args.left c.args.right) = subst (λ ns. slice_get ns c.in_ok-index.index ≡ Some (Pair c.args.left c.args.right)) nodes at in
    rw nodes (tree-kept c.args.self.now (Pair c.args.left c.args.right) c.in_ok-index.index before.sound there)

pub returns-else-added-clause-live : goal.returns-else-added-clause-live
returns-else-added-clause-live c = slice_get_within c.insert.new.self c.in_ok-index.index (Pair c.args.left c.args.right) (search rules)

pub returns-else-added-clause-tree : goal.returns-else-added-clause-tree
unfolding tree
returns-else-added-clause-tree c =
    let nodes : c.insert.new.self ≡ c.args.self.now = search rules in
    let at : slice_get c.args.self.now c.in_ok-index.index ≡ Some (Pair c.args.left c.args.right) = search rules in
    let before : IsStored c.args.self.now c.self.inside.lens.all c.self.inside.heights.items = subst (λ k. IsStored k c.self.inside.lens.all c.self.inside.heights.items) c.self.view_is c.self.invariant.0 in
    rw nodes (tree-at c.args.self.now c.in_ok-index.index (Pair c.args.left c.args.right) at (before.sound.children c.in_ok-index.index (Pair c.args.left c.args.right) at))
