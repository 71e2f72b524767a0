-- Words and their nodes, over a store that grows.
use Rattle.std.proofs.Common.{◌≡◌, ℕ, zero, suc, ◌+◌, ◌-◌, ◌/◌, ◌<◌, ◌≤◌, List, ◌++◌, length, take, drop, max, refl, ap, sym, subst, ◌∙◌, arith, length-append}
use Rattle.std.proofs.lemmas.List.{take-append-drop}
use Rattle.std.proofs.lemmas.List.Elements.{All-weaker}
use Rattle.slp_model.specs.declared.Node.{Node}
use Rattle.slp_model.specs.Tree.{Fork, text, height, leaves, IsNear}
use Rattle.slp_model.specs.Nodes.{tree, Grows}
use Rattle.slp_model.proofs.TreeLemmas.{length-text}
use Rattle.slp_model.proofs.NodesLemmas.{tree-grows, Grows-length}
use Rattle.share_loader.specs.declared.words.Entry.{Entry}
use Rattle.share_loader.specs.Known.{word_height, IsWordAt, entry_word, IsKnown, AreKnown}

pub word-grows : (old new : List Node) (p q : ℕ) → Grows old new p q → (s : List ℕ) (i : ℕ) → IsWordAt old s i → IsWordAt new s i
word-grows old new p q g s i w =
    let same : tree new i ≡ tree old i = tree-grows old new p q g i w.live in
    record {
      live = omega (arith, w.live, Grows-length old new p q g);
      reads = ap text same ∙ w.reads;
      high = ap height same ∙ w.high;
    }

pub known-grows : (old new : List Node) (p q : ℕ) → Grows old new p q → (entries : List Entry) → AreKnown old entries → AreKnown new entries
known-grows old new p q g entries k =
    All-weaker (IsKnown old) (IsKnown new) (λ (e : Entry) known some. word-grows old new p q g (entry_word e) e.index (known some)) entries k

-- the heights of the two halves of a word
pub record AreHalves (n : ℕ) : Type 0 where
  pub near : IsNear (word_height (n - n / 2)) (word_height (n / 2))
  pub high : max (word_height (n - n / 2)) (word_height (n / 2)) + 1 ≡ word_height n

pub halves : (n : ℕ) → 2 ≤ n → n ≤ 8 → AreHalves n
halves zero a b = absurd (omega arith)
halves (suc zero) a b = absurd (omega arith)
halves (suc (suc zero)) a b = record { near = (omega arith, omega arith); high = refl }
halves (suc (suc (suc zero))) a b = record { near = (omega arith, omega arith); high = refl }
halves (suc (suc (suc (suc zero)))) a b = record { near = (omega arith, omega arith); high = refl }
halves (suc (suc (suc (suc (suc zero))))) a b = record { near = (omega arith, omega arith); high = refl }
halves (suc (suc (suc (suc (suc (suc zero)))))) a b = record { near = (omega arith, omega arith); high = refl }
halves (suc (suc (suc (suc (suc (suc (suc zero))))))) a b = record { near = (omega arith, omega arith); high = refl }
halves (suc (suc (suc (suc (suc (suc (suc (suc zero)))))))) a b = record { near = (omega arith, omega arith); high = refl }
halves (suc (suc (suc (suc (suc (suc (suc (suc (suc n))))))))) a b = absurd (omega arith)

-- the nodes i and j of the two halves of a word of n bytes
pub record AreParts (ns : List Node) (word : List ℕ) (i j : ℕ) : Type 0 where
  pub s : List ℕ
  pub t : List ℕ
  pub left : IsWordAt ns s i
  pub right : IsWordAt ns t j
  pub joined : s ++ t ≡ word
  pub long : length s ≡ length word - length word / 2

pub parts-near : (ns : List Node) (word : List ℕ) (i j : ℕ) → 2 ≤ length word → length word ≤ 8 → AreParts ns word i j → IsNear (height (tree ns i)) (height (tree ns j))
parts-near ns word i j a b p =
    let long : length p.t ≡ length word / 2 = omega (arith, p.long, ap length p.joined, length-append p.s p.t) in
    let h : AreHalves (length word) = halves (length word) a b in
    let g : height (tree ns i) ≡ word_height (length word - length word / 2) = p.left.high ∙ ap word_height p.long in
    let k : height (tree ns j) ≡ word_height (length word / 2) = p.right.high ∙ ap word_height long in
    subst (λ x. IsNear x (height (tree ns j))) (sym g) (subst (λ x. IsNear (word_height (length word - length word / 2)) x) (sym k) h.near)

pub parts-short : (ns : List Node) (word : List ℕ) (i j : ℕ) → AreParts ns word i j → leaves (tree ns i) + leaves (tree ns j) ≡ length word
parts-short ns word i j p =
    omega (arith, ap length p.left.reads, ap length p.right.reads, ap length p.joined, length-append p.s p.t, length-text (tree ns i), length-text (tree ns j))

pub parts-word : (mid new : List Node) (word : List ℕ) (i j k : ℕ) → 2 ≤ length word → length word ≤ 8 → AreParts mid word i j → k < length new → tree new k ≡ Fork (tree mid i) (tree mid j) → IsWordAt new word k
parts-word mid new word i j k a b p live is =
    let long : length p.t ≡ length word / 2 = omega (arith, p.long, ap length p.joined, length-append p.s p.t) in
    let h : AreHalves (length word) = halves (length word) a b in
    let l : height (tree mid i) ≡ word_height (length word - length word / 2) = p.left.high ∙ ap word_height p.long in
    let r : height (tree mid j) ≡ word_height (length word / 2) = p.right.high ∙ ap word_height long in
    record {
      live = live;
      reads = ap text is ∙ (ap (λ x. x ++ text (tree mid j)) p.left.reads ∙ (ap (λ x. p.s ++ x) p.right.reads ∙ p.joined));
      high = ap height is ∙ (ap (λ x. max x (height (tree mid j)) + 1) l ∙ (ap (λ x. max (word_height (length word - length word / 2)) x + 1) r ∙ h.high));
    }

-- the two halves of a word
pub parts-of : (old new : List Node) (p q : ℕ) → Grows old new p q → (word first second : List ℕ) (i j n : ℕ) → first ≡ take n word → second ≡ drop n word → length first ≡ length word - length word / 2 → IsWordAt old first i → IsWordAt new second j → AreParts new word i j
parts-of old new p q g word first second i j n f s long left right = record {
  s = first;
  t = second;
  left = word-grows old new p q g first i left;
  right = right;
  joined = ap (λ x. x ++ second) f ∙ (ap (λ x. take n word ++ x) s ∙ take-append-drop n word);
  long = long;
}
