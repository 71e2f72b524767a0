-- Blocks of equal height, their pairs, and short words.
use Rattle.std.proofs.Common.{◌≡◌, ℕ, ◌+◌, ◌<◌, ◌^◌, get_or, List, [], ◌∷◌, ◌++◌, length, take, drop, max, refl, ap, sym, subst, ◌∙◌, arith}
use Rattle.std.proofs.lemmas.List.{take-append-drop}
use Rattle.std.proofs.lemmas.Nat.{pow-add}
use Rattle.slp_model.specs.declared.NodeId.{NodeId}
use Rattle.slp_model.specs.declared.Node.{Node}
use Rattle.slp_model.specs.Tree.{Tree, Leaf, Fork, text, height, leaves}
use Rattle.slp_model.specs.Nodes.{tree}
use Rattle.node_store.specs.Blocks.{IsFull, IsBlock, IsBlockAt, IsBlockOf}

-- the pair of two blocks of equal height
pub pair-block : (h : ℕ) (s t : List ℕ) (a b : Tree) → IsBlock h s a → IsBlock h t b → IsBlock (h + 1) (s ++ t) (Fork a b)
pair-block h s t a b f g = record {
  full = (f.high ∙ sym g.high, f.full, g.full);
  high = omega (arith, f.high, g.high);
  reads = ap (λ x. x ++ text b) f.reads ∙ ap (λ x. s ++ x) g.reads;
}

pub joined-block : (mid new : List Node) (h : ℕ) (s t word : List ℕ) (i j k : ℕ) → IsBlockAt mid h s i → IsBlockAt mid h t j → k < length new → tree new k ≡ Fork (tree mid i) (tree mid j) → s ++ t ≡ word → IsBlockAt new (h + 1) word k
joined-block mid new h s t word i j k a b live is whole = record {
  live = live;
  block = subst (λ x. IsBlock (h + 1) x (tree new k)) whole (subst (IsBlock (h + 1) (s ++ t)) (sym is) (pair-block h s t (tree mid i) (tree mid j) a.block b.block));
}

pub leaf-block : (ns : List Node) (b i : ℕ) → i < length ns → tree ns i ≡ Leaf b → IsBlockAt ns 0 (b ∷ []) i
leaf-block ns b i live is = record { live = live; block = subst (IsBlock 0 (b ∷ [])) (sym is) (record { full = tt; high = refl; reads = refl }) }

full-leaves : (t : Tree) → IsFull t → leaves t ≡ 2 ^ height t
full-leaves (Leaf b) full = refl
full-leaves (Fork l r) full =
    let left : leaves l ≡ 2 ^ height l = full-leaves l full.1 in
    let right : leaves r ≡ 2 ^ height l = full-leaves r full.2 ∙ ap (λ h. 2 ^ h) (sym full.0) in
    let high : max (height l) (height r) + 1 ≡ height l + 1 = omega (arith, full.0) in
    let twice : leaves l + leaves r ≡ 2 ^ (height l + 1) = omega (arith, left, right, pow-add 2 (height l) 1) in
    twice ∙ ap (λ h. 2 ^ h) (sym high)

-- what the store asks of a block
pub block-of : (ns : List Node) (h : ℕ) (s : List ℕ) (id : NodeId) → IsBlockAt ns h s id.index → IsBlockOf ns h id
block-of ns h s id b = record {
  live = b.live;
  high = b.block.high;
  long = full-leaves (tree ns id.index) b.block.full ∙ ap (λ k. 2 ^ k) b.block.high;
}

-- the two parts of a word
pub parts-of : (n : ℕ) (word first second : List ℕ) → first ≡ take n word → second ≡ drop n word → first ++ second ≡ word
parts-of n word first second f s = ap (λ x. x ++ second) f ∙ (ap (λ x. take n word ++ x) s ∙ take-append-drop n word)

-- a short list by its elements
pub list-of-two : (s : List ℕ) → length s ≡ 2 → get_or s 0 0 ∷ get_or s 1 0 ∷ [] ≡ s
list-of-two (a ∷ b ∷ []) h = refl
list-of-two [] h = absurd (omega arith)
list-of-two (a ∷ []) h = absurd (omega arith)
list-of-two (a ∷ b ∷ c ∷ s) h = absurd (omega arith)

pub list-of-four : (s : List ℕ) → length s ≡ 4 → get_or s 0 0 ∷ get_or s 1 0 ∷ get_or s 2 0 ∷ get_or s 3 0 ∷ [] ≡ s
list-of-four [] h = absurd (omega arith)
list-of-four (a ∷ []) h = absurd (omega arith)
list-of-four (a ∷ b ∷ s) h = let rest : length s ≡ 2 = omega arith in ap (λ t. a ∷ b ∷ t) (list-of-two s rest)

pub list-of-eight : (s : List ℕ) → length s ≡ 8 → get_or s 0 0 ∷ get_or s 1 0 ∷ get_or s 2 0 ∷ get_or s 3 0 ∷ get_or s 4 0 ∷ get_or s 5 0 ∷ get_or s 6 0 ∷ get_or s 7 0 ∷ [] ≡ s
list-of-eight [] h = absurd (omega arith)
list-of-eight (a ∷ []) h = absurd (omega arith)
list-of-eight (a ∷ b ∷ []) h = absurd (omega arith)
list-of-eight (a ∷ b ∷ c ∷ []) h = absurd (omega arith)
list-of-eight (a ∷ b ∷ c ∷ d ∷ s) h = let rest : length s ≡ 4 = omega arith in ap (λ t. a ∷ b ∷ c ∷ d ∷ t) (list-of-four s rest)
