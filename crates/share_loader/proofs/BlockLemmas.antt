-- Blocks and their bytes, over a store that grows.
use Rattle.std.proofs.Common.{◌≡◌, ◌⊎◌, inl, inr, ℕ, ◌+◌, ◌≤◌, List, [], ◌++◌, length, Option, Some, None, ap, sym, ◌∙◌, arith, append_assoc, append-nil, length-append}
use Rattle.slp_model.specs.declared.NodeId.{NodeId}
use Rattle.slp_model.specs.declared.Node.{Node}
use Rattle.slp_model.specs.Tree.{text, leaves, root_text, root_leaves}
use Rattle.slp_model.specs.Nodes.{tree, root_tree, Grows, IsLive}
use Rattle.slp_model.proofs.TreeLemmas.{length-text, length-root_text}
use Rattle.slp_model.proofs.NodesLemmas.{root_tree-grows, Grows-length}
use Rattle.share_loader.specs.Symbols.{symbols_text}
use Rattle.share_loader.specs.Blocks.{Taken, IsTaken, ended_text, taken_text}
use Rattle.share_loader.proofs.WordLemmas.{known-grows}
use Rattle.share_loader.proofs.SymbolLemmas.{symbols-grow, text-grows, text-long}

pub live-grows : (old new : List Node) (p q : ℕ) → Grows old new p q → (root : Option NodeId) → IsLive old root → IsLive new root
live-grows old new p q g None live = tt
live-grows old new p q g (Some id) live = omega (arith, live, Grows-length old new p q g)

pub taken-grows : (old new : List Node) (p q : ℕ) → Grows old new p q → (t : Taken) → IsTaken old t → IsTaken new t
taken-grows old new p q g t is = record {
  root = live-grows old new p q g t.root is.root;
  symbols = symbols-grow old new p q g 2 t.symbols is.symbols;
  known = known-grows old new p q g t.known is.known;
}

pub ended-grows : (old new : List Node) (p q : ℕ) → Grows old new p q → (t : Taken) → IsTaken old t → ended_text new t ≡ ended_text old t
ended-grows old new p q g t is = ap root_text (root_tree-grows old new p q g t.root is.root)

pub text-same : (old new : List Node) (p q : ℕ) → Grows old new p q → (t : Taken) → IsTaken old t → taken_text new t ≡ taken_text old t
text-same old new p q g t is =
    ap (λ x. x ++ symbols_text new t.symbols) (ended-grows old new p q g t is) ∙ ap (λ x. ended_text old t ++ x) (text-grows old new p q g 2 t.symbols is.symbols)

-- the node i of the symbols
pub record IsBlockMade (old mid : List Node) (t : Taken) (i : ℕ) : Type 0 where
  pub live : IsLive mid t.root
  pub whole : root_text (root_tree mid t.root) ++ text (tree mid i) ≡ taken_text old t
  pub long : root_leaves (root_tree mid t.root) + leaves (tree mid i) ≡ length (taken_text old t)

pub block-made : (old mid : List Node) (p q : ℕ) → Grows old mid p q → (t : Taken) → IsTaken old t → (i : ℕ) → text (tree mid i) ≡ symbols_text old t.symbols → IsBlockMade old mid t i
block-made old mid p q g t is i e =
    let whole : root_text (root_tree mid t.root) ++ text (tree mid i) ≡ taken_text old t =
    ap (λ x. x ++ text (tree mid i)) (ended-grows old mid p q g t is) ∙ ap (λ x. ended_text old t ++ x) e in
    record {
      live = live-grows old mid p q g t.root is.root;
      whole = whole;
      long = omega (arith, ap length whole, length-append (root_text (root_tree mid t.root)) (text (tree mid i)), length-text (tree mid i), length-root_text (root_tree mid t.root));
    }

-- one more word
pub record IsPushed (old new : List Node) (t u : Taken) (word : List ℕ) : Type 0 where
  pub ended : ended_text new u ≡ ended_text old t
  pub reads : taken_text new u ≡ taken_text old t ++ word
  pub long : length (taken_text new u) ≡ length (taken_text old t) + length word

pub pushed : (old new : List Node) (p q : ℕ) → Grows old new p q → (t u : Taken) → IsTaken old t → u.root ≡ t.root → (word : List ℕ) → symbols_text new u.symbols ≡ symbols_text old t.symbols ++ word → IsPushed old new t u word
pushed old new p q g t u is root word e =
    let ended : ended_text new u ≡ ended_text old t = ap (λ r. root_text (root_tree new r)) root ∙ ended-grows old new p q g t is in
    let reads : taken_text new u ≡ taken_text old t ++ word =
    ap (λ x. x ++ symbols_text new u.symbols) ended ∙ (ap (λ x. ended_text old t ++ x) e ∙ sym (append_assoc (ended_text old t) (symbols_text old t.symbols) word)) in
    record {
      ended = ended;
      reads = reads;
      long = omega (arith, ap length reads, length-append (taken_text old t) word);
    }

-- with no symbols all words are in blocks
pub all-ended : (ns : List Node) (t : Taken) → t.symbols ≡ [] → taken_text ns t ≡ ended_text ns t
all-ended ns t none = ap (λ xs. ended_text ns t ++ symbols_text ns xs) none ∙ append-nil (ended_text ns t)

-- the bytes of the symbols are no fewer than these
pub taken-long : (ns : List Node) (t : Taken) → length (ended_text ns t) + length t.symbols ≤ length (taken_text ns t)
taken-long ns t = omega (arith, length-append (ended_text ns t) (symbols_text ns t.symbols), text-long ns t.symbols)

-- how many bytes are left behind one more word
pub left-more : (count len rest all least : ℕ) → count + rest ≡ all → (len ≡ rest) ⊎ (len + 3 ≤ rest) → len ≤ 8 → least ≤ rest → (count + len ≤ all) × ((count + len ≡ 0) ⊎ ((count + len + 3 ≤ all) ⊎ ((count + len ≡ all) × (least ≤ 8))))
left-more count len rest all least e (inl same) short most = (omega (arith, same), inr (inr (omega (arith, same), omega (arith, same))))
left-more count len rest all least e (inr fewer) short most = (omega (arith, fewer), inr (inl (omega (arith, fewer))))
