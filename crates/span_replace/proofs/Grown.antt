-- Roots in a store that has grown, and what cuts and joins of low trees cost.
use Rattle.std.proofs.Common.{◌≡◌, ℕ, ◌+◌, ◌*◌, ◌≤◌, ap, arith, List, Option, Some, None}
use Rattle.slp_model.specs.declared.NodeId.{NodeId}
use Rattle.slp_model.specs.declared.Node.{Node}
use Rattle.slp_model.specs.Tree.{Tree, root_text, root_height}
use Rattle.slp_model.specs.Nodes.{Grows, IsLive, text_of}
use Rattle.slp_model.specs.Join.{root_cost}
use Rattle.slp_model.proofs.NodesLemmas.{root_tree-grows, Grows-length}

pub live-grows : (old new : List Node) (p q : ℕ) → Grows old new p q → (r : Option NodeId) → IsLive old r → IsLive new r
live-grows old new p q g None h = tt
live-grows old new p q g (Some id) h = omega (arith, h, Grows-length old new p q g)

pub text-grows : (old new : List Node) (p q : ℕ) → Grows old new p q → (r : Option NodeId) → IsLive old r → text_of new r ≡ text_of old r
text-grows old new p q g r h = ap root_text (root_tree-grows old new p q g r h)

-- a join of roots no higher than h
pub root_cost-most : (a b : Option Tree) (h : ℕ) → root_height a ≤ h → root_height b ≤ h → root_cost a b ≤ 3 * h + 1
root_cost-most None b h p q = omega arith
root_cost-most (Some a) None h p q = omega arith
root_cost-most (Some a) (Some b) h p q = omega arith
