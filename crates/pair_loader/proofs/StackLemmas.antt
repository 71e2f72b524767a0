-- The loader's tree by a stack of blocks.
use Rattle.std.proofs.Common.{◌≡◌, ℕ, suc, ◌+◌, ◌<◌, ◌≤◌, List, [], ◌∷◌, ◌++◌, map, Option, Some, None, true, false, eqb, refl, ap, sym, ◌∙◌, arith}
use Rattle.std.proofs.lemmas.Bool.{eq-eqb, ne_eqb}
use Rattle.slp_model.specs.Tree.{Tree, Leaf, Fork, text, height}
use Rattle.std.proofs.lemmas.List.{map-append}
use Rattle.slp_model.specs.Join.{join_roots}
use Rattle.slp_model.specs.Shape.{shape}
use Rattle.pair_loader.proofs.Counters.{counter_push, counter_onto, collect, stack_push, stack_onto, gather}
use Rattle.pair_loader.proofs.CounterLemmas.{shape-counter}
use Rattle.node_store.specs.Blocks.{IsFull}
use Rattle.pair_loader.specs.Pending.{AreRising, stack_text}

-- the blocks of a counter
abbrev blocks : List (Option Tree) → List Tree
blocks [] = []
blocks (None ∷ ds) = blocks ds
blocks (Some a ∷ ds) = a ∷ blocks ds

-- each block has the height of its level, where the first level is k
abbrev IsLevelled : ℕ → List (Option Tree) → Type 0
IsLevelled k [] = Unit {0}
IsLevelled k (None ∷ ds) = IsLevelled (suc k) ds
IsLevelled k (Some a ∷ ds) = (height a ≡ k) × IsLevelled (suc k) ds

collect-blocks : (ds : List (Option Tree)) (tail : Option Tree) → collect ds tail ≡ gather (blocks ds) tail
collect-blocks [] tail = refl
collect-blocks (None ∷ ds) tail = collect-blocks ds tail
collect-blocks (Some a ∷ ds) tail = collect-blocks ds (join_roots (Some a) tail)

-- a lower block stays apart
stack_push-low : (ds : List (Option Tree)) (b : Tree) (k : ℕ) → IsLevelled k ds → height b < k → stack_push (blocks ds) b ≡ b ∷ blocks ds
stack_push-low [] b k h m = refl
stack_push-low (None ∷ ds) b k h m = stack_push-low ds b (suc k) h (omega arith)
stack_push-low (Some a ∷ ds) b k h m = let e : eqb (height a) (height b) ≡ false = ne_eqb (height a) (height b) (λ same. omega (arith, h.0)) in rw e

stack_push-counter : (ds : List (Option Tree)) (b : Tree) (k : ℕ) → IsLevelled k ds → height b ≡ k → (stack_push (blocks ds) b ≡ blocks (counter_push ds b)) × IsLevelled k (counter_push ds b)
stack_push-counter [] b k h m = (refl, (m, tt))
stack_push-counter (None ∷ ds) b k h m = (stack_push-low ds b (suc k) h (omega arith), (m, h))
stack_push-counter (Some a ∷ ds) b k h m =
    let e : eqb (height a) (height b) ≡ true = eq-eqb (height a) (height b) (omega (arith, h.0)) in
    let top : height (Fork a b) ≡ suc k = omega (arith, h.0) in
    let rest = stack_push-counter ds (Fork a b) (suc k) h.1 top in
    (rw e rest.0, rest.1)

stack_onto-counter : (ds : List (Option Tree)) (s : List ℕ) → IsLevelled 0 ds → stack_onto (blocks ds) (map Leaf s) ≡ blocks (counter_onto ds (map Leaf s))
stack_onto-counter ds [] h = refl
stack_onto-counter ds (x ∷ s) h =
    let p = stack_push-counter ds (Leaf x) 0 h refl in
    ap (λ w. stack_onto w (map Leaf s)) p.0 ∙ stack_onto-counter (counter_push ds (Leaf x)) s p.1

-- the loader's tree is what its stack of blocks gathers
shape-stack : (s : List ℕ) → shape s ≡ gather (stack_onto [] (map Leaf s)) None
shape-stack s = shape-counter s ∙ (collect-blocks (counter_onto [] (map Leaf s)) None ∙ ap (λ w. gather w None) (sym (stack_onto-counter [] s tt)))

-- the stack of the bytes of full trees of rising heights are these trees
pub rising-weaker : (g h : ℕ) (blocks : List Tree) → g ≤ h → AreRising h blocks → AreRising g blocks
rising-weaker g h [] m r = tt
rising-weaker g h (a ∷ rest) m r = (omega (arith, r.0), r.1, r.2)

push-low : (blocks : List Tree) (b : Tree) → AreRising (height b + 1) blocks → stack_push blocks b ≡ b ∷ blocks
push-low [] b r = refl
push-low (a ∷ rest) b r = let e : eqb (height a) (height b) ≡ false = ne_eqb (height a) (height b) (λ same. omega (arith, r.0)) in rw e

push-equal : (rest : List Tree) (a b : Tree) → height a ≡ height b → stack_push (a ∷ rest) b ≡ stack_push rest (Fork a b)
push-equal rest a b h = let e : eqb (height a) (height b) ≡ true = eq-eqb (height a) (height b) h in rw e

onto-append : (blocks xs ys : List Tree) → stack_onto blocks (xs ++ ys) ≡ stack_onto (stack_onto blocks xs) ys
onto-append blocks [] ys = refl
onto-append blocks (x ∷ xs) ys = onto-append (stack_push blocks x) xs ys

onto-full : (t : Tree) (blocks : List Tree) → IsFull t → AreRising (height t) blocks → stack_onto blocks (map Leaf (text t)) ≡ stack_push blocks t
onto-full (Leaf x) blocks f r = refl
onto-full (Fork l r) blocks f h =
    let above : AreRising (height l + 1) blocks = rising-weaker (height l + 1) (height (Fork l r)) blocks (omega arith) h in
    let low : AreRising (height l) blocks = rising-weaker (height l) (height l + 1) blocks (omega arith) above in
    let next : AreRising (height r) (l ∷ blocks) = (omega (arith, f.0), f.1, above) in
    let first : stack_onto blocks (map Leaf (text l)) ≡ l ∷ blocks = onto-full l blocks f.1 low ∙ push-low blocks l above in
    ap (λ w. stack_onto blocks w) (map-append Leaf (text l) (text r))
    ∙ (onto-append blocks (map Leaf (text l)) (map Leaf (text r))
    ∙ (ap (λ w. stack_onto w (map Leaf (text r))) first
    ∙ (onto-full r (l ∷ blocks) f.2 next ∙ push-equal blocks l r f.0)))

onto-rising : (h : ℕ) (blocks : List Tree) → AreRising h blocks → stack_onto [] (map Leaf (stack_text blocks)) ≡ blocks
onto-rising h [] r = refl
onto-rising h (a ∷ rest) r =
    ap (λ w. stack_onto [] w) (map-append Leaf (stack_text rest) (text a))
    ∙ (onto-append [] (map Leaf (stack_text rest)) (map Leaf (text a))
    ∙ (ap (λ w. stack_onto w (map Leaf (text a))) (onto-rising (height a + 1) rest r.2)
    ∙ (onto-full a rest r.1 (rising-weaker (height a) (height a + 1) rest (omega arith) r.2) ∙ push-low rest a r.2)))

-- such trees joined from the lowest up are the loader's tree of their bytes
pub gather-shape : (h : ℕ) (blocks : List Tree) → AreRising h blocks → gather blocks None ≡ shape (stack_text blocks)
gather-shape h blocks r = ap (λ w. gather w None) (sym (onto-rising h blocks r)) ∙ sym (shape-stack (stack_text blocks))
