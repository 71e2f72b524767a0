-- The cost of a loader's last joins.
use Rattle.std.proofs.Common.{ℕ, ◌+◌, ◌*◌, ◌≤◌, List, [], ◌∷◌, length, Some, None, arith, length-append}
use Rattle.span_types.specs.Fibonacci.{fibonacci, height_limit}
use Rattle.span_types.proofs.LimitLemmas.{height_limit-right}
use Rattle.slp_model.specs.Tree.{Tree, Leaf, Fork, text, height, IsBalanced}
use Rattle.slp_model.specs.Join.{join, IsJoined}
use Rattle.slp_model.proofs.TreeLemmas.{length-text, height-enough}
use Rattle.slp_model.proofs.JoinLemmas.{join-joined}
use Rattle.node_store.specs.Blocks.{IsFull}
use Rattle.pair_loader.specs.Pending.{AreRising, stack_text}
use Rattle.pair_loader.proofs.Counters.{gather_cost, top_height}

full-balanced : (t : Tree) → IsFull t → IsBalanced t
full-balanced (Leaf b) f = tt
full-balanced (Fork l r) f = ((omega (arith, f.0), omega (arith, f.0)), full-balanced l f.1, full-balanced r f.2)

-- the tail is as high as the last block joined, or one higher
gather-tail : (blocks : List Tree) (t : Tree) (p : ℕ) → AreRising (p + 1) blocks → IsBalanced t → p ≤ height t → height t ≤ p + 1 → gather_cost blocks (Some t) + 4 * p ≤ 4 * top_height p blocks
gather-tail [] t p h b low high = omega arith
gather-tail (a ∷ rest) t p h b low high =
    let j : IsJoined a t (join a t) = join-joined a t (full-balanced a h.1) b in
    omega (arith, gather-tail rest (join a t) (height a) h.2 j.balanced j.left (omega (arith, h.0, j.most)), h.0)

-- the highest block has no more bytes than all
top-enough : (blocks : List Tree) (h n : ℕ) → fibonacci (h + 2) ≤ n → AreRising (h + 1) blocks → length (stack_text blocks) ≤ n → fibonacci (top_height h blocks + 2) ≤ n
top-enough [] h n f r m = f
top-enough (a ∷ rest) h n f r m =
    top-enough rest (height a) n
    (omega (arith, height-enough a (full-balanced a r.1), length-text a, length-append (stack_text rest) (text a)))
    r.2
    (omega (arith, length-append (stack_text rest) (text a)))

-- at most four pairs for each level
pub gather-limit : (blocks : List Tree) → AreRising 0 blocks → gather_cost blocks None ≤ 4 * (height_limit (length (stack_text blocks)) + 1)
gather-limit [] r = omega arith
gather-limit (a ∷ rest) r =
    let n : ℕ = length (stack_text (a ∷ rest)) in
    let b : IsBalanced a = full-balanced a r.1 in
    let few : gather_cost rest (Some a) + 4 * height a ≤ 4 * top_height (height a) rest = gather-tail rest a (height a) r.2 b (omega arith) (omega arith) in
    let first : fibonacci (height a + 2) ≤ n = omega (arith, height-enough a b, length-text a, length-append (stack_text rest) (text a)) in
    let top : fibonacci (top_height (height a) rest + 2) ≤ n = top-enough rest (height a) n first r.2 (omega (arith, length-append (stack_text rest) (text a))) in
    omega (arith, few, (height_limit-right n).greatest (top_height (height a) rest) top)
