-- Blocks and known words, over a store that grows.
use Rattle.std.proofs.Common.{◌≡◌, ℕ, suc, inl, inr, List, [], ◌∷◌, ◌++◌, Option, Some, None, IfSome, slice_get, sym, subst, arith}
use Rattle.std.specs.Int.{Width, w16, w32, w64, to_le_bytes}
use Rattle.std.specs.Prelude.{All, set}
use Rattle.std.proofs.lemmas.List.Elements.{All-get_or, All-set, All-weaker}
use Rattle.std.proofs.lemmas.Option.{get_or_from_slice_get, slice_get_within}
use Rattle.slp_model.specs.declared.Node.{Node}
use Rattle.slp_model.specs.declared.NodeId.{NodeId}
use Rattle.slp_model.specs.Nodes.{Grows, pair_count}
use Rattle.slp_model.proofs.NodesLemmas.{tree-grows, Grows-length, Grows-push}
use Rattle.node_store.specs.declared.words.LongWord.{LongWord}
use Rattle.node_store.specs.declared.words.ShortWord.{ShortWord}
use Rattle.node_store.specs.declared.words.WordSize.{WordSize}
use Rattle.node_store.specs.Blocks.{IsBlock, IsBlockAt}
use Rattle.node_store.specs.Known.{height_of, width_of, IsBlockOfWord, IsWordEntry, AreShortWords, AreLongWords, AreMade, Known, AreKnown}

pub block-grows : (old new : List Node) (p q : ℕ) → Grows old new p q → (h : ℕ) (s : List ℕ) (i : ℕ) → IsBlockAt old h s i → IsBlockAt new h s i
block-grows old new p q g h s i b = record {
  live = omega (arith, b.live, Grows-length old new p q g);
  block = subst (IsBlock h s) (sym (tree-grows old new p q g i b.live)) b.block;
}

entry-grows : (old new : List Node) (p q : ℕ) → Grows old new p q → (h : ℕ) (w : Width) (bytes link : ℕ) → IsWordEntry old h w bytes link → IsWordEntry new h w bytes link
entry-grows old new p q g h w bytes link k i e = block-grows old new p q g h (to_le_bytes w bytes) i (k i e)

known-grows : (old new : List Node) (p q : ℕ) → Grows old new p q → (known : Known) → AreKnown old known → AreKnown new known
known-grows old new p q g known k = record {
  twos = All-weaker (λ (x : ShortWord). IsWordEntry old 1 w16 x.bytes x.link) (λ (x : ShortWord). IsWordEntry new 1 w16 x.bytes x.link) (λ x. entry-grows old new p q g 1 w16 x.bytes x.link) known.twos k.twos;
  fours = All-weaker (λ (x : ShortWord). IsWordEntry old 2 w32 x.bytes x.link) (λ (x : ShortWord). IsWordEntry new 2 w32 x.bytes x.link) (λ x. entry-grows old new p q g 2 w32 x.bytes x.link) known.fours k.fours;
  eights = All-weaker (λ (x : LongWord). IsWordEntry old 3 w64 x.bytes x.link) (λ (x : LongWord). IsWordEntry new 3 w64 x.bytes x.link) (λ x. entry-grows old new p q g 3 w64 x.bytes x.link) known.eights k.eights;
}

-- after one more node
pub known-push : (ns : List Node) (n : Node) (known : Known) → AreKnown ns known → AreKnown (ns ++ n ∷ []) known
known-push ns n known k = known-grows ns (ns ++ n ∷ []) 0 (pair_count (n ∷ [])) (Grows-push ns n 0 (pair_count (n ∷ [])) (omega arith)) known k

-- what is found in true entries for the words of a size
pub found-word : (found : Option NodeId) (size : WordSize) (bytes : ℕ) (known : Known) (P : List Node → ℕ → Width → Type 0) → IfSome found (λ id. (nodes : List Node) (h : ℕ) (w : Width) → P nodes h w → IsBlockAt nodes h (to_le_bytes w bytes) id.index)
    → ((nodes : List Node) → AreKnown nodes known → P nodes (height_of size) (width_of size)) → IfSome found (λ id. (nodes : List Node) → AreKnown nodes known → IsBlockOfWord nodes size bytes id.index)
found-word None size bytes known P f g = tt
found-word (Some id) size bytes known P f g = λ nodes k. f nodes (height_of size) (width_of size) (g nodes k)

-- entries stay true if one more true one is written, or if they are made anew
pub short-put : (ns : List Node) (h : ℕ) (w : Width) (words new : List ShortWord) (i : ℕ) (x : ShortWord) → new ≡ set words i x → IsWordEntry ns h w x.bytes x.link → AreShortWords ns h w words → AreShortWords ns h w new
short-put ns h w words new i x e k are = subst (AreShortWords ns h w) (sym e) (All-set (λ (y : ShortWord). IsWordEntry ns h w y.bytes y.link) words i x k are)

pub long-put : (ns : List Node) (h : ℕ) (w : Width) (words new : List LongWord) (i : ℕ) (x : LongWord) → new ≡ set words i x → IsWordEntry ns h w x.bytes x.link → AreLongWords ns h w words → AreLongWords ns h w new
long-put ns h w words new i x e k are = subst (AreLongWords ns h w) (sym e) (All-set (λ (y : LongWord). IsWordEntry ns h w y.bytes y.link) words i x k are)

pub made : {W : Type 0} (P : W → Type 0) (none : W) (old new : List W) → AreMade none old new → P none → All P old → All P new
made P none old new (inl e) k are = subst (All P) (sym e) are
made {W} P none old new (inr empty) k are = All-weaker (λ (x : W). x ≡ none) P (λ x e. subst P (sym e) k) new empty

-- an entry that leads nowhere is true
pub empty-entry : (ns : List Node) (h : ℕ) (w : Width) (bytes : ℕ) → IsWordEntry ns h w bytes 0
empty-entry ns h w bytes i e = let bad : ⊥ = cc e in absurd bad

-- the link to a block makes a true entry
pub linked-entry : (ns : List Node) (h : ℕ) (w : Width) (bytes link index : ℕ) → link ≡ suc index → IsBlockAt ns h (to_le_bytes w bytes) index → IsWordEntry ns h w bytes link
linked-entry ns h w bytes link index e k i f = subst (λ (j : ℕ). IsBlockAt ns h (to_le_bytes w bytes) j) (omega (arith, e, f)) k

pub word-in : {W : Type 0} (P : W → Type 0) (words : List W) (i : ℕ) (x : W) → All P words → slice_get words i ≡ Some x → P x
word-in P words i x are e = subst P (get_or_from_slice_get words i x x e) (All-get_or P words i x (slice_get_within words i x e) are)

-- what is true of the index that a link leads to
pub found-entry : (found : Option NodeId) (link : ℕ) (Q : ℕ → Type 0) → IfSome found (λ id. link ≡ suc id.index) → ((i : ℕ) → link ≡ suc i → Q i) → IfSome found (λ id. Q id.index)
found-entry None link Q e f = tt
found-entry (Some id) link Q e f = f id.index e
