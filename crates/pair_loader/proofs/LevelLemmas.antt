-- Blocks made level by level.
use Rattle.std.proofs.Common.{◌≡◌, ◌≢◌, ℕ, ◌+◌, ◌-◌, ◌*◌, ◌/◌, ◌^◌, ◌<◌, ◌≤◌, List, ◌++◌, length, get_or, set, take, drop, ap, sym, subst, ◌∙◌, arith, below_more, zero-mul, take_all, take-add, drop-drop, get_or-set_same, get_or-set_other}
use Rattle.std.specs.Fork.{slice_chunk}
use Rattle.std.proofs.Math.Pow.{pow_mono}
use Rattle.std.proofs.lemmas.Nat.{pow-add, pow_pos, shr-shr, le-div}
use Rattle.slp_model.specs.declared.NodeId.{NodeId}
use Rattle.slp_model.specs.declared.Node.{Node}
use Rattle.slp_model.specs.Nodes.{Grows}
use Rattle.node_store.specs.Blocks.{IsBlockAt}
use Rattle.pair_loader.specs.Blocks.{AreBlocks}
use Rattle.node_store.proofs.KnownLemmas.{block-grows}

-- a chunk as the code reads it
pub chunk-read : (s : List ℕ) (n i : ℕ) → take (n * i + n - n * i) (drop (n * i) s) ≡ slice_chunk s n i
chunk-read s n i =
    let size : n * i + n - n * i ≡ n = omega arith in
    let start : n * i ≡ i * n = omega arith in
    ap (λ k. take k (drop (n * i) s)) size ∙ ap (λ k. take n (drop k s)) start

-- two neighbours are the chunk of twice the size
two-chunks : (s : List ℕ) (n i : ℕ) → slice_chunk s n (2 * i) ++ slice_chunk s n (2 * i + 1) ≡ slice_chunk s (n + n) i
two-chunks s n i =
    let first : drop (2 * i * n) s ≡ drop (i * (n + n)) s = ap (λ k. drop k s) (omega arith) in
    let second : drop ((2 * i + 1) * n) s ≡ drop n (drop (i * (n + n)) s) = ap (λ k. drop k s) (omega arith) ∙ sym (drop-drop n (i * (n + n)) s) in
    rw (first, second) (sym (take-add n n (drop (i * (n + n)) s)))

pub joined-chunks : (s : List ℕ) (h i : ℕ) → slice_chunk s (2 ^ h) (2 * i) ++ slice_chunk s (2 ^ h) (2 * i + 1) ≡ slice_chunk s (2 ^ (h + 1)) i
joined-chunks s h i =
    let twice : 2 ^ h + 2 ^ h ≡ 2 ^ (h + 1) = omega (arith, pow-add 2 h 1) in
    subst (λ n. slice_chunk s (2 ^ h) (2 * i) ++ slice_chunk s (2 ^ h) (2 * i + 1) ≡ slice_chunk s n i) twice (two-chunks s (2 ^ h) i)

-- a level has half as many blocks as the one below it
pub half-count : (n h : ℕ) → n / 2 ^ (h + 1) ≡ n / 2 ^ h / 2
half-count n h = sym (shr-shr n h 1)

-- and a piece has at least one of each height up to its own
pub some-count : (n high h : ℕ) → n ≡ 2 ^ high → h ≤ high → 0 < n / 2 ^ h
some-count n high h long low =
    let less : 2 ^ h ≤ 2 ^ high = pow_mono low in
    le-div 1 n (2 ^ h) (pow_pos h) (omega arith)

-- no piece has more than 64 words
pub few-words : (n high : ℕ) → n ≡ 2 ^ high → high ≤ 9 → n / 8 ≤ 64
few-words n high long low = let less : 2 ^ high ≤ 2 ^ 9 = pow_mono low in omega arith

pub blocks-grow : (old new : List Node) (p q : ℕ) → Grows old new p q → (h count : ℕ) (s : List ℕ) (ids : List NodeId) → AreBlocks old h count s ids → AreBlocks new h count s ids
blocks-grow old new p q g h count s ids b = record { each = λ i d m. block-grows old new p q g h (slice_chunk s (2 ^ h) i) (get_or ids i d).index (b.each i d m) }

pub blocks-same : (old new : List Node) (h count : ℕ) (s : List ℕ) (ids : List NodeId) → new ≡ old → AreBlocks old h count s ids → AreBlocks new h count s ids
blocks-same old new h count s ids same b = subst (λ ns. AreBlocks ns h count s ids) (sym same) b

-- the two blocks that become the pair at place i
pub record AreNeighbours (ns : List Node) (h i : ℕ) (s : List ℕ) (ids : List NodeId) (d : NodeId) : Type 0 where
  pub left : IsBlockAt ns h (slice_chunk s (2 ^ h) (2 * i)) (get_or ids (2 * i) d).index
  pub right : IsBlockAt ns h (slice_chunk s (2 ^ h) (2 * i + 1)) (get_or ids (2 * i + 1) d).index

-- they are unchanged in a store that has grown
pub neighbours : (old new : List Node) (p q : ℕ) → Grows old new p q → (h i : ℕ) (s : List ℕ) (before after : List NodeId) (d : NodeId) → AreBlocks old h (length s / 2 ^ h) s before → i < length s / 2 ^ (h + 1)
    → ((k : ℕ) (e : NodeId) → 2 * i ≤ k → get_or after k e ≡ get_or before k e) → AreNeighbours new h i s after d
neighbours old new p q g h i s before after d b within same =
    let right : 2 * i + 1 < length s / 2 ^ h = omega (arith, half-count (length s) h) in
    record { left = at (2 * i) (omega arith) (omega arith); right = at (2 * i + 1) (omega arith) right }
  where
    at : (k : ℕ) → 2 * i ≤ k → k < length s / 2 ^ h → IsBlockAt new h (slice_chunk s (2 ^ h) k) (get_or after k d).index
    at k low high =
        subst (λ (x : NodeId). IsBlockAt new h (slice_chunk s (2 ^ h) k) x.index) (sym (same k d low))
        (block-grows old new p q g h (slice_chunk s (2 ^ h) k) (get_or before k d).index (b.each k d high))

-- one more block at the next index
pub blocks-more : (ns : List Node) (h i : ℕ) (s : List ℕ) (ids : List NodeId) (x : NodeId) → AreBlocks ns h i s ids → i < length ids → IsBlockAt ns h (slice_chunk s (2 ^ h) i) x.index → AreBlocks ns h (i + 1) s (set ids i x)
blocks-more ns h i s ids x b within here = record {
  each = λ k d m.
      let old = λ (j : ℕ) (below : j < i).
      let other : j ≢ i = omega arith in
      subst (λ (y : NodeId). IsBlockAt ns h (slice_chunk s (2 ^ h) j) y.index) (sym (get_or-set_other ids i j x d other)) (b.each j d below) in
      let last = subst (λ (y : NodeId). IsBlockAt ns h (slice_chunk s (2 ^ h) i) y.index) (sym (get_or-set_same ids i x d within)) here in
      below_more (λ j. IsBlockAt ns h (slice_chunk s (2 ^ h) j) (get_or (set ids i x) j d).index) i old last k m;
}

-- the one block of the greatest height
pub whole-block : (ns : List Node) (h count : ℕ) (s : List ℕ) (ids : List NodeId) → AreBlocks ns h count s ids → length s ≡ 2 ^ h → 0 < count → (d : NodeId) → IsBlockAt ns h s (get_or ids 0 d).index
whole-block ns h count s ids b long some d =
    let all : slice_chunk s (2 ^ h) 0 ≡ s = ap (λ k. take (2 ^ h) (drop k s)) (zero-mul (2 ^ h)) ∙ take_all (2 ^ h) s (omega arith) in
    subst (λ t. IsBlockAt ns h t (get_or ids 0 d).index) all (b.each 0 d some)
