-- The loader's tree has the bytes, and it is balanced.
use Rattle.std.proofs.Common.{◌≡◌, ℕ, zero, suc, ◌+◌, ◌≤◌, List, [], ◌∷◌, ◌++◌, length, map, Option, Some, None, refl, ap, sym, subst, ◌∙◌, arith, append_assoc, append-nil}
use Rattle.std.proofs.lemmas.List.{length-map}
use Rattle.span_types.specs.Fibonacci.{height_limit}
use Rattle.slp_model.specs.Tree.{Tree, Leaf, text, height, IsBalanced, root_text, root_leaves, root_height}
use Rattle.slp_model.specs.Join.{join_roots}
use Rattle.slp_model.specs.Shape.{pair_up, odd_last, shape_onto, shape}
use Rattle.slp_model.proofs.TreeLemmas.{length-root_text, height-by_leaves}
use Rattle.slp_model.proofs.JoinLemmas.{join-joined}

-- the texts of the blocks in a row
abbrev texts : List Tree → List ℕ
texts [] = []
texts (b ∷ bs) = text b ++ texts bs

-- balanced blocks of height k
abbrev AreLevel : ℕ → List Tree → Type 0
AreLevel k [] = Unit {0}
AreLevel k (b ∷ bs) = (height b ≡ k) × IsBalanced b × AreLevel k bs

abbrev pub IsBalancedRoot : Option Tree → Type 0
IsBalancedRoot None = Unit {0}
IsBalancedRoot (Some t) = IsBalanced t

pair_up-level : (k : ℕ) (bs : List Tree) → AreLevel k bs → AreLevel (suc k) (pair_up bs)
pair_up-level k [] h = tt
pair_up-level k (b ∷ []) h = tt
pair_up-level k (b ∷ c ∷ bs) h = (omega (arith, h.0, h.2.0), ((omega (arith, h.0, h.2.0), omega (arith, h.0, h.2.0)), h.1, h.2.1), pair_up-level k bs h.2.2)

odd_last-balanced : (k : ℕ) (bs : List Tree) → AreLevel k bs → IsBalancedRoot (odd_last bs)
odd_last-balanced k [] h = tt
odd_last-balanced k (b ∷ []) h = h.1
odd_last-balanced k (b ∷ c ∷ bs) h = odd_last-balanced k bs h.2.2

pair_up-texts : (bs : List Tree) → texts (pair_up bs) ++ root_text (odd_last bs) ≡ texts bs
pair_up-texts [] = refl
pair_up-texts (b ∷ []) = sym (append-nil (text b))
pair_up-texts (b ∷ c ∷ bs) =
    append_assoc (text b ++ text c) (texts (pair_up bs)) (root_text (odd_last bs))
    ∙ (ap (λ x. (text b ++ text c) ++ x) (pair_up-texts bs) ∙ append_assoc (text b) (text c) (texts bs))

pub joined-text : (a b : Option Tree) → IsBalancedRoot a → IsBalancedRoot b → root_text (join_roots a b) ≡ root_text a ++ root_text b
joined-text None b p q = refl
joined-text (Some a) None p q = sym (append-nil (text a))
joined-text (Some a) (Some b) p q = (join-joined a b p q).joined

pub joined-balanced : (a b : Option Tree) → IsBalancedRoot a → IsBalancedRoot b → IsBalancedRoot (join_roots a b)
joined-balanced None b p q = q
joined-balanced (Some a) None p q = p
joined-balanced (Some a) (Some b) p q = (join-joined a b p q).balanced

pub length-pair_up : (bs : List Tree) → length (pair_up bs) + length (pair_up bs) ≤ length bs
length-pair_up [] = omega arith
length-pair_up (b ∷ []) = omega arith
length-pair_up (b ∷ c ∷ bs) = omega (arith, length-pair_up bs)

rounds-balanced : (rounds k : ℕ) (bs : List Tree) (tail : Option Tree) → AreLevel k bs → IsBalancedRoot tail → IsBalancedRoot (shape_onto rounds bs tail)
rounds-balanced zero k bs tail h b = b
rounds-balanced (suc rounds) k bs tail h b = rounds-balanced rounds (suc k) (pair_up bs) (join_roots (odd_last bs) tail) (pair_up-level k bs h) (joined-balanced (odd_last bs) tail (odd_last-balanced k bs h) b)

rounds-text : (rounds k : ℕ) (bs : List Tree) (tail : Option Tree) → length bs ≤ rounds → AreLevel k bs → IsBalancedRoot tail → root_text (shape_onto rounds bs tail) ≡ texts bs ++ root_text tail
rounds-text zero k [] tail m h b = refl
rounds-text zero k (x ∷ bs) tail m h b = absurd (omega arith)
rounds-text (suc rounds) k bs tail m h b =
    rounds-text rounds (suc k) (pair_up bs) (join_roots (odd_last bs) tail) (omega (arith, length-pair_up bs)) (pair_up-level k bs h) (joined-balanced (odd_last bs) tail (odd_last-balanced k bs h) b)
    ∙ (ap (λ x. texts (pair_up bs) ++ x) (joined-text (odd_last bs) tail (odd_last-balanced k bs h) b)
    ∙ (sym (append_assoc (texts (pair_up bs)) (root_text (odd_last bs)) (root_text tail))
    ∙ ap (λ x. x ++ root_text tail) (pair_up-texts bs)))

leaf-level : (s : List ℕ) → AreLevel 0 (map Leaf s)
leaf-level [] = tt
leaf-level (x ∷ s) = (refl, tt, leaf-level s)

leaf-texts : (s : List ℕ) → texts (map Leaf s) ≡ s
leaf-texts [] = refl
leaf-texts (x ∷ s) = ap (λ y. x ∷ y) (leaf-texts s)

pub shape-text : (s : List ℕ) → root_text (shape s) ≡ s
unfolding shape
shape-text s = rounds-text (length s) 0 (map Leaf s) None (omega (arith, length-map s Leaf)) (leaf-level s) tt ∙ (append-nil (texts (map Leaf s)) ∙ leaf-texts s)

pub shape-balanced : (s : List ℕ) → IsBalancedRoot (shape s)
unfolding shape
shape-balanced s = rounds-balanced (length s) 0 (map Leaf s) None (leaf-level s) tt

root-limit : (x : Option Tree) → IsBalancedRoot x → root_height x ≤ height_limit (root_leaves x)
root-limit None b = omega arith
root-limit (Some t) b = height-by_leaves t b

pub shape-limit : (s : List ℕ) → root_height (shape s) ≤ height_limit (length s)
shape-limit s =
    let e : root_leaves (shape s) ≡ length s = sym (length-root_text (shape s)) ∙ ap length (shape-text s) in
    subst (λ n. root_height (shape s) ≤ height_limit n) e (root-limit (shape s) (shape-balanced s))
