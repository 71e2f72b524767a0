-- Documents by name, lengths of texts, and the pairs of a store.
use Rattle.session_state.proofs.Names.{ap, AreLive, arith, Doc, Documents, Grows, IfErr, IfOk, IsDocument, length, List, min, Node, NodeId, None, ok_or, Option}
use Rattle.session_state.proofs.Names.{pair_weight, plain, refl, Result, root_leaves, root_tree, Sets, Some, subst, sum_by-append, take, take_min, text_of, Told}
use Rattle.session_state.proofs.Names.{value_of, ℕ, ◌++◌, ◌+◌, ◌-◌, ◌∙◌, ◌≡◌, ◌≤◌}
use Rattle.doc_book.proofs.TextLemmas.{document_is, document_lacks, live_root}
use Rattle.doc_book.specs.declared.Missing.{Missing}
use Rattle.doc_book.specs.declared.Missing.TheVariants.{NoSuchDocument}
use Rattle.doc_book.specs.Docs.{root_of}
use Rattle.slp_model.specs.Nodes.{pair_count}
use Rattle.slp_model.proofs.TreeLemmas.{length-root_text}

pub length-text_of : (ns : List Node) (root : Option NodeId) → length (text_of ns root) ≡ root_leaves (root_tree ns root)
length-text_of ns root = length-root_text (root_tree ns root)

-- the result of a search for a document
pub found : (ns : List Node) (ds : List Doc) (bytes name : List ℕ) (r : Result (Option NodeId) Missing) → AreLive ns ds → bytes ≡ name → r ≡ ok_or (root_of ds bytes) NoSuchDocument
    → IfOk r (IsDocument ns ds name) × IfErr r (λ _. value_of (plain ns ds) name ≡ None)
found ns ds bytes name r live same is = rw (is, ← same) (by (root_of ds bytes) refl)
  where
    by : (o : Option (Option NodeId)) → root_of ds bytes ≡ o → IfOk (ok_or o NoSuchDocument) (IsDocument ns ds bytes) × IfErr (ok_or o NoSuchDocument) (λ _. value_of (plain ns ds) bytes ≡ None)
    by None none = (tt, document_lacks ns ds bytes none)
    by (Some root) there = (record { live = live_root ns ds bytes root live there; text = document_is ns ds bytes root there }, tt)

-- the minimum of a length and 32 bytes, as the program computes it
pub head_of-text : (xs head : List ℕ) (n k : ℕ) → n ≡ length xs → k ≡ min n 32 → head ≡ take (k + 1 - 1) xs → head ≡ take 32 xs
head_of-text xs head n k is least taken =
    let few : k + 1 - 1 ≡ min 32 (length xs) = omega (arith, is, least) in
    taken ∙ ap (λ m. take m xs) few ∙ take_min 32 xs

pair_count-append : (xs ys : List Node) → pair_count (xs ++ ys) ≡ pair_count xs + pair_count ys
unfolding pair_count
pair_count-append xs ys = sum_by-append pair_weight xs ys

-- each new pair of a store was counted
pub Grows-pairs : (old new : List Node) (p q : ℕ) → Grows old new p q → pair_count new + p ≤ pair_count old + q
Grows-pairs old new p q g = omega (arith, ap pair_count g.added, pair_count-append old g.more, g.paid)

-- an assignment, seen from equal documents and with an equal text
pub assigned_after : (old mid new : Documents) (name x y : List ℕ) (told : Told) (reply : List ℕ) → mid ≡ old → x ≡ y → Sets mid name x told reply new → Sets old name y told reply new
assigned_after old mid new name x y told reply same is h = subst (λ (s : Documents). Sets s name y told reply new) same (subst (λ (t : List ℕ). Sets mid name t told reply new) is h)
