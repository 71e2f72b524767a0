-- Numbers of kept nodes, and the kept nodes, one at a time.
use Rattle.std.proofs.Common.{◌≡◌, ℕ, suc, ◌+◌, ◌<◌, ◌≤◌, ◌^◌, inl, inr, Bool, false, List, [], ◌∷◌, ◌++◌, length, get_or, slice_get, Some, ap, sym, subst, ◌∙◌, arith, length-append}
use Rattle.std.proofs.lemmas.Bool.{cases_lt}
use Rattle.std.proofs.lemmas.List.{get_or_push, get_or_append_left}
use Rattle.std.proofs.lemmas.Option.{slice_get_within}
use Rattle.slp_model.specs.declared.Node.{Node}
use Rattle.slp_model.specs.declared.Node.TheVariants.{Byte, Pair}
use Rattle.slp_model.specs.Tree.{Tree, leaves, height, IsBalanced}
use Rattle.slp_model.specs.Nodes.{tree, trees, node_tree, IsSound}
use Rattle.slp_model.specs.Distinct.{AreDistinct, AreOfBytes}
use Rattle.slp_model.specs.Kept.{Keeps, IsPlanOf}
use Rattle.slp_model.specs.Thin.{rank, renumbered}
use Rattle.slp_model.proofs.CompactionLemmas.{thin_to, thin-on, thin-skip, next-below, next-tree, next-new, byte-renumbered}
use Rattle.node_store.specs.declared.Facts.{Facts}
use Rattle.node_store.specs.Stored.{IsNext, IsKept}
use Rattle.node_store.specs.Moved.{AreRanks, KeepChildren}

pub ranks-none : (ks : List Bool) (numbers : List ℕ) → numbers ≡ [] → AreRanks ks numbers 0
ranks-none ks numbers e = record { long = ap length e; ranks = λ i lt. absurd (omega (arith, lt)) }

pub ranks-push : (ks : List Bool) (numbers : List ℕ) (k : ℕ) → AreRanks ks numbers k → AreRanks ks (numbers ++ rank ks k ∷ []) (k + 1)
ranks-push ks numbers k a = record {
  long = omega (arith, length-append numbers (rank ks k ∷ []), a.long);
  ranks = λ i lt. elim (cases_lt i k) [
    | inl old ↦ get_or_append_left numbers (rank ks k ∷ []) 0 i (omega (arith, old, a.long)) ∙ a.ranks i old
    | inr ge ↦
        let e : i ≡ k = omega (arith, ge, lt) in
        get_or_push numbers (rank ks k) 0 i (omega (arith, e, a.long)) ∙ ap (rank ks) (sym e)
  ];
}

-- a kept node keeps its children
pub keeps-children : (ns : List Node) (ks : List Bool) (k : ℕ) (n : Node) → IsPlanOf ns ks → Keeps ks k → slice_get ns k ≡ Some n → KeepChildren ks n
keeps-children ns ks k (Byte b) plan keep at = tt
keeps-children ns ks k (Pair l r) plan keep at = plan.closed k l r at keep

-- the next kept node, under its new number, may follow those before it
pub next-kept : (ns : List Node) (ks : List Bool) (k : ℕ) (n : Node) (f : Facts) → IsSound ns → AreOfBytes ns → IsPlanOf ns ks → Keeps ks k → slice_get ns k ≡ Some n → f.len ≡ leaves (tree ns k) → f.height ≡ height (tree ns k) → IsNext (thin_to ns ks k) (renumbered (rank ks) n) f
next-kept ns ks k n f sound bytes plan keep at len high = record {
  below = next-below ns ks k n sound plan keep at;
  byte = byte-renumbered (rank ks) n (bytes k n at);
  balanced = subst IsBalanced (sym same) (sound.balanced k within);
  len = len ∙ ap leaves (sym same);
  height_is = high ∙ ap height (sym same);
  short = subst (λ (u : Tree). leaves u ≤ 2 ^ 48) (sym same) (sound.short k within);
}
  where
    within : k < length ns
    within = slice_get_within ns k n at

    same : node_tree (trees (thin_to ns ks k)) (renumbered (rank ks) n) ≡ tree ns k
    same = next-tree ns ks k n sound plan keep at

-- and then it is last
pub kept-last : (ns : List Node) (ks : List Bool) (k : ℕ) (n : Node) (new : List Node) (j : ℕ) → IsSound ns → AreDistinct ns → IsPlanOf ns ks → Keeps ks k → slice_get ns k ≡ Some n
    → IsKept (thin_to ns ks k) new (renumbered (rank ks) n) → slice_get new j ≡ Some (renumbered (rank ks) n) → new ≡ thin_to ns ks (k + 1)
kept-last ns ks k n new j sound apart plan keep at added here = elim added [
  | inl same ↦ absurd (next-new ns ks k n sound plan apart keep at j (subst (λ (ms : List Node). slice_get ms j ≡ Some (renumbered (rank ks) n)) same here))
  | inr more ↦ more.0 ∙ (sym (thin-on ns ks k n at keep) ∙ ap (thin_to ns ks) one)
]
  where
    one : suc k ≡ k + 1
    one = omega arith

-- one that isn't kept doesn't count
pub kept-same : (ns : List Node) (ks : List Bool) (k : ℕ) → get_or ks k false ≡ false → thin_to ns ks k ≡ thin_to ns ks (k + 1)
kept-same ns ks k none = sym (thin-skip ns ks k none) ∙ ap (thin_to ns ks) one
  where
    one : suc k ≡ k + 1
    one = omega arith
