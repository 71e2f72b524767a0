use Rattle.std.proofs.Common.{◌≡◌, ◌+◌, ◌*◌, ◌≤◌, ◌++◌, Option, ap, sym, subst, ◌∙◌, arith}
use Rattle.span_types.specs.Fibonacci.{height_limit}
use Rattle.slp_model.specs.declared.NodeId.{NodeId}
use Rattle.slp_model.specs.Tree.{text, leaves, root_text, root_leaves}
use Rattle.slp_model.specs.Nodes.{tree, root_tree}
use Rattle.slp_model.proofs.NodesLemmas.{Grows-none}
use Rattle.slp_model.proofs.JoinLemmas.{join-joined}
use Rattle.share_loader.proofs.CostLemmas.{join-limit}
use Rattle.share_loader.proofs.blocks.with_block.Goals as goal

pub returns-in_err-joined-in-Some-clause-cost : goal.returns-in_err-joined-in-Some-clause-cost
returns-in_err-joined-in-Some-clause-cost g c =
    subst (λ (r : Option NodeId). c.join.new.pairs ≤ c.args.pairs.now + 3 * height_limit (root_leaves (root_tree c.args.store.now r) + leaves (tree c.args.store.now c.args.block.index)) + 1) (sym c.in-Some.is)
    (omega (arith, c.join.ensures.cost, join-limit _ _ c.join.ensures.balanced.0 c.join.ensures.balanced.1))

pub returns-in_ok-joined-in-Some-clause-cost : goal.returns-in_ok-joined-in-Some-clause-cost
returns-in_ok-joined-in-Some-clause-cost g c =
    subst (λ (r : Option NodeId). c.join.new.pairs ≤ c.args.pairs.now + 3 * height_limit (root_leaves (root_tree c.args.store.now r) + leaves (tree c.args.store.now c.args.block.index)) + 1) (sym c.in-Some.is)
    (omega (arith, c.join.ensures.cost, join-limit _ _ c.join.ensures.balanced.0 c.join.ensures.balanced.1))

pub returns-in_ok-joined-in-Some-clause-text : goal.returns-in_ok-joined-in-Some-clause-text
returns-in_ok-joined-in-Some-clause-text g c =
    subst (λ (r : Option NodeId). text (tree c.join.new.store c.in_ok-joined-in-Some.joined.index) ≡ root_text (root_tree c.args.store.now r) ++ text (tree c.args.store.now c.args.block.index)) (sym c.in-Some.is)
    (ap text c.in_ok-joined-in-Some.ensures.tree ∙ (join-joined _ _ c.join.ensures.balanced.0 c.join.ensures.balanced.1).joined)

pub returns-in-None-clause-grows : goal.returns-in-None-clause-grows
returns-in-None-clause-grows g c = Grows-none c.args.store.now c.args.pairs.now c.args.pairs.now (omega arith)
