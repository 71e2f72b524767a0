-- How many distinct nodes there can be.
use Rattle.std.proofs.Common.{◌≡◌, ℕ, suc, ◌+◌, ◌<◌, ◌≤◌, ◌||◌, Bool, true, false, List, [], ◌∷◌, length, refl, ap, sym, ◌∙◌, arith, eqb, sum_by}
use Rattle.std.specs.List.{IsDistinct, AllByRecursion, list_any}
use Rattle.std.proofs.lemmas.Bool.{eqb-true}
use Rattle.std.proofs.lemmas.List.Sums.{sum_by-cons}
use Rattle.std.proofs.lemmas.Map.Steps.{length-le_from_distinct_below}
use Rattle.slp_model.specs.declared.Node.{Node}
use Rattle.slp_model.specs.declared.Node.TheVariants.{Byte, Pair}
use Rattle.slp_model.specs.contracts.NodePartialEq.TheImpl.{ghosts}
use Rattle.slp_model.specs.Nodes.{pair_weight, pair_count}
use Rattle.slp_model.specs.Distinct.{AreOfBytes}

-- the bytes among the nodes
abbrev byte_values : List Node → List ℕ
byte_values [] = []
byte_values (Byte b ∷ ns) = b ∷ byte_values ns
byte_values (Pair l r ∷ ns) = byte_values ns

others : (b : ℕ) (ns : List Node) → AllByRecursion (λ n. ghosts.eq (Byte b) n ≡ false) ns → AllByRecursion (λ c. eqb b c ≡ false) (byte_values ns)
others b [] h = tt
others b (Byte c ∷ ns) h = (h.0, others b ns h.1)
others b (Pair l r ∷ ns) h = others b ns h.1

distinct : (ns : List Node) → IsDistinct ghosts.eq ns → IsDistinct eqb (byte_values ns)
unfolding IsDistinct
distinct [] d = tt
distinct (Byte b ∷ ns) d = (others b ns d.0, distinct ns d.1)
distinct (Pair l r ∷ ns) d = distinct ns d.1

within : (ns : List Node) → AreOfBytes ns → (q : ℕ) → list_any (eqb q) (byte_values ns) ≡ true → q < 256
within [] h q e = cc
within (Byte b ∷ ns) h q e = by (within ns (λ i. h (suc i)) q) (eqb q b) refl
  where
    by : (list_any (eqb q) (byte_values ns) ≡ true → q < 256) → (x : Bool) → eqb q b ≡ x → q < 256
    by rest true t = let s : q ≡ b = eqb-true q b t in omega (arith, s, h 0 (Byte b) refl)
    by rest false t = rest (ap (λ x. x || list_any (eqb q) (byte_values ns)) (sym t) ∙ e)
within (Pair l r ∷ ns) h q e = within ns (λ i. h (suc i)) q e

length-parts : (ns : List Node) → length ns ≡ length (byte_values ns) + sum_by pair_weight ns
length-parts [] = refl
length-parts (Byte b ∷ ns) = omega (arith, length-parts ns, sum_by-cons pair_weight (Byte b) ns)
length-parts (Pair l r ∷ ns) = omega (arith, length-parts ns, sum_by-cons pair_weight (Pair l r) ns)

-- a node for each byte at most, and the pairs
pub few-nodes : (ns : List Node) → AreOfBytes ns → IsDistinct ghosts.eq ns → length ns ≤ 256 + pair_count ns
unfolding pair_count
few-nodes ns h d = omega (arith, length-parts ns, length-le_from_distinct_below (byte_values ns) 256 (distinct ns d) (within ns h))
