-- The number of pairs among the nodes that are kept when a store is compacted.
use Rattle.std.proofs.Common.{[], arith, Bool, false, length, List, map, refl, true, ℕ, ◌+◌, ◌∷◌, ◌≡◌, ◌≤◌}
use Rattle.std.proofs.lemmas.List.Sums.{sum_by-cons}
use Rattle.slp_model.specs.Nodes.{pair_count, pair_weight}
use Rattle.slp_model.specs.Thin.{kept_of, renumbered}
use Rattle.slp_model.specs.declared.Node.{Node}
use Rattle.slp_model.specs.declared.Node.TheVariants.{Byte, Pair}

pair-more : (n : Node) (ns : List Node) → pair_count (n ∷ ns) ≡ pair_weight n + pair_count ns
unfolding pair_count
pair-more n ns = sum_by-cons pair_weight n ns

same-weight : (f : ℕ → ℕ) (n : Node) → pair_weight (renumbered f n) ≡ pair_weight n
same-weight f (Byte b) = refl
same-weight f (Pair l r) = refl

small-weight : (n : Node) → pair_weight n ≤ 1
small-weight (Byte b) = omega arith
small-weight (Pair l r) = omega arith

pairs-none : pair_count [] ≡ 0
unfolding pair_count
pairs-none = refl

-- the number of pairs among the kept nodes is at most the number before
pub pairs-kept : (f : ℕ → ℕ) (ns : List Node) (keep : List Bool) → pair_count (map (renumbered f) (kept_of ns keep)) ≤ pair_count ns
pairs-kept f [] keep = omega arith
pairs-kept f (n ∷ ns) [] = omega (arith, pairs-none)
pairs-kept f (n ∷ ns) (true ∷ bs) = omega (arith, pairs-kept f ns bs, pair-more (renumbered f n) (map (renumbered f) (kept_of ns bs)), pair-more n ns, same-weight f n)
pairs-kept f (n ∷ ns) (false ∷ bs) = omega (arith, pairs-kept f ns bs, pair-more n ns)

pub pairs-few : (ns : List Node) → pair_count ns ≤ length ns
pairs-few [] = omega (arith, pairs-none)
pairs-few (n ∷ ns) = omega (arith, pairs-few ns, pair-more n ns, small-weight n)
