-- The meaning of a whole image, from its parts.
use Rattle.std.proofs.Common.{◌≡◌, ◌≢◌, ℕ, ◌<◌, false, List, [], ◌∷◌, map, length, Option, Some, None, option_map, Result, Ok, Err, refl, ap, sym, ◌∙◌, arith, eqb, IfOk}
use Rattle.std.proofs.lemmas.Bool.{ne_eqb}
use Rattle.std.proofs.lemmas.List.{length-map}
use Rattle.std.proofs.lemmas.Option.{slice_get_within}
use Rattle.slp_model.specs.declared.NodeId.{NodeId}
use Rattle.slp_model.specs.declared.Node.{Node}
use Rattle.slp_model.specs.Tree.{Tree, text, root_text}
use Rattle.slp_model.specs.Nodes.{tree, trees, root_tree, IsLive, AreLiveIds}
use Rattle.doc_book.specs.declared.Doc.{Doc}
use Rattle.slp_rebalance.specs.Entries.{entry_trees}
use Rattle.slp_rebalance.proofs.EntryLemmas.{entry-at, entry-live}
use Rattle.slp_image.specs.declared.refusal.ImageRefusal.{ImageRefusal}
use Rattle.slp_image.specs.declared.refusal.ImageRefusal.TheVariants.{NoMemory}
use Rattle.slp_image.specs.Fields.{◌>>=◌, Field, number_at}
use Rattle.doc_book.specs.Texts.{AreLive, plain}
use Rattle.slp_image.specs.Documents.{Fails, rooted, filed, HaveTrees, Reads}
use Rattle.slp_image.specs.Image.{Added, Outcome, Document, Contents, at, contents, contents_after, after_count, records_onto, documents_of, node_at, text_at, content_of, meaning, node_text, image, image_of, version_at}
use Rattle.slp_image.specs.Reads.{IsFiled, AreFiled, HaveThese, AreTexts, AreRecords, Kept, ReadsDocuments, AreNodes, ReadsContents, ReadsNodes, ReadsTexts, Show}
use Rattle.slp_image.specs.declared.records.Format.{Format}
use Rattle.slp_image.specs.declared.records.Format.TheVariants.{Nodes, Texts}
use Rattle.slp_image.proofs.StepLemmas.{fails-bind, fails-same}
use Rattle.slp_image.proofs.NodeLemmas.{tree-entry, length-records}
use Rattle.slp_image.proofs.TextLemmas.{text-entry, length-texts}

ok-is : {A B : Type 0} {x y : A} (r : Result A B) → r ≡ Ok x → r ≡ Ok y → x ≡ y
ok-is r h k = cc

-- the roots are live
live-root : (ns : List Node) (ids : List NodeId) → AreLiveIds ns ids → (f : Option ℕ) (r : Option NodeId) → IsFiled ids f r → IsLive ns r
live-root ns ids h f None k = tt
live-root ns ids h (Some i) (Some id) k = entry-live ns ids i id h k
live-root ns ids h None (Some id) k = absurd k

pub live-filed : (ns : List Node) (ids : List NodeId) → AreLiveIds ns ids → (fs : List Document) (ds : List Doc) → AreFiled ids fs ds → AreLive ns ds
live-filed ns ids h [] [] k = tt
live-filed ns ids h (f ∷ fs) (d ∷ ds) k = (live-root ns ids h f.root d.root k.1, live-filed ns ids h fs ds k.2)
live-filed ns ids h [] (d ∷ ds) k = absurd k
live-filed ns ids h (f ∷ fs) [] k = absurd k

-- and have the trees of the image
tree-root : (ns records : List Node) (ids : List NodeId) → trees records ≡ entry_trees ns ids → (f : Option ℕ) (r : Option NodeId) → IsFiled ids f r → root_tree ns r ≡ option_map (λ i. tree records i) f
tree-root ns records ids h None None k = refl
tree-root ns records ids h (Some i) (Some id) k = ap Some (sym (tree-entry records (entry_trees ns ids) h i ∙ entry-at ns ids i id k))
tree-root ns records ids h None (Some id) k = absurd k
tree-root ns records ids h (Some i) None k = absurd k

pub trees-filed : (ns records : List Node) (ids : List NodeId) → trees records ≡ entry_trees ns ids → (fs : List Document) (ds : List Doc) → AreFiled ids fs ds → rooted ns ds ≡ map (λ d. (d.name, option_map (λ i. tree records i) d.root)) fs
trees-filed ns records ids h [] [] k = refl
trees-filed ns records ids h (f ∷ fs) (d ∷ ds) k = λ j. (k.0 j, tree-root ns records ids h f.root d.root k.1 j) ∷ trees-filed ns records ids h fs ds k.2 j
trees-filed ns records ids h [] (d ∷ ds) k = absurd k
trees-filed ns records ids h (f ∷ fs) [] k = absurd k

-- or the texts
text-root : (ns : List Node) (ts : List (List ℕ)) (ids : List NodeId) → map text (entry_trees ns ids) ≡ ts → (f : Option ℕ) (r : Option NodeId) → IsFiled ids f r → root_text (root_tree ns r) ≡ content_of (at ts) f
text-root ns ts ids h None None k = refl
text-root ns ts ids h (Some i) (Some id) k =
    let within : i < length (entry_trees ns ids) = omega (arith, slice_get_within ids i id k, length-map ids (λ (x : NodeId). tree ns x.index)) in
    sym (text-entry (entry_trees ns ids) ts i h within ∙ ap text (entry-at ns ids i id k))
text-root ns ts ids h None (Some id) k = absurd k
text-root ns ts ids h (Some i) None k = absurd k

pub texts-filed : (ns : List Node) (ts : List (List ℕ)) (ids : List NodeId) → map text (entry_trees ns ids) ≡ ts → (fs : List Document) (ds : List Doc) → AreFiled ids fs ds → plain ns ds ≡ map (λ d. (d.name, content_of (at ts) d.root)) fs
texts-filed ns ts ids h [] [] k = refl
texts-filed ns ts ids h (f ∷ fs) (d ∷ ds) k = λ j. (k.0 j, text-root ns ts ids h f.root d.root k.1 j) ∷ texts-filed ns ts ids h fs ds k.2 j
texts-filed ns ts ids h [] (d ∷ ds) k = absurd k
texts-filed ns ts ids h (f ∷ fs) [] k = absurd k

module _ {M : Type 0} (step : List M → List ℕ → Field (Added M)) where
  pub contents-is : (n : ℕ) (bytes rest : List ℕ) → number_at bytes ≡ Ok (n, rest) → contents step bytes ≡ contents_after (records_onto step n [] 0 rest)
  unfolding contents
  contents-is n bytes rest h = ap (after_count step) h

  count-none : (e : ImageRefusal) (read : Field ℕ) → Fails e read → Fails e (after_count step read).answer
  count-none NoMemory read h = tt
  count-none e read h = ap (λ r. (after_count step r).answer) h

  pub contents-fail : (e : ImageRefusal) (bytes : List ℕ) → Fails e (number_at bytes) → Fails e (contents step bytes).answer
  unfolding contents
  contents-fail e bytes h = count-none e (number_at bytes) h

module _ {M : Type 0} (total : Outcome (List M × List ℕ)) where
  pub after-fails : (e : ImageRefusal) → Fails e total.answer → Fails e (contents_after total).answer
  after-fails e h = fails-bind e total.answer _ h

  pub documents-fail : (e : ImageRefusal) (ms : List M) (rest : List ℕ) → total.answer ≡ Ok (ms, rest) → Fails e (documents_of (length ms) rest) → Fails e (contents_after total).answer
  documents-fail e ms rest h k = rw h (fails-bind e (documents_of (length ms) rest) _ k)

  pub whole-is : (ms : List M) (rest : List ℕ) (ds : List Document) → total.answer ≡ Ok (ms, rest) → documents_of (length ms) rest ≡ Ok ds → (contents_after total).answer ≡ Ok (record { records = ms; documents = ds })
  whole-is ms rest ds h k = rw (h, k) refl

-- version 1 after its records
nodes-read : (ns : List Node) (ids : List NodeId) (total : Outcome (List Node × List ℕ)) (rest : List ℕ) (result : Result (List Doc) ImageRefusal) → AreLiveIds ns ids → AreRecords Node HaveThese total.answer rest (entry_trees ns ids) → ReadsDocuments ids rest result → ReadsNodes ns (contents_after total).answer result
nodes-read ns ids total rest (Ok ds) live x k =
    let same : documents_of (length x.records) rest ≡ Ok k.documents = ap (λ n. documents_of n rest) (length-records x.records ns ids x.shown) ∙ k.is in
    record { live = live-filed ns ids live k.documents ds k.shown; whole = record { records = x.records; documents = k.documents }; is = whole-is total x.records rest k.documents x.is same; same = trees-filed ns x.records ids x.shown k.documents ds k.shown }
nodes-read ns ids total rest (Err e) live x k =
    documents-fail total e x.records rest x.is (fails-same e (documents_of (length x.records) rest) (documents_of (length ids) rest) (ap (λ n. documents_of n rest) (length-records x.records ns ids x.shown)) k)

-- version 2
texts-read : (ns : List Node) (ids : List NodeId) (total : Outcome (List (List ℕ) × List ℕ)) (rest : List ℕ) (result : Result (List Doc) ImageRefusal) → AreLiveIds ns ids → AreRecords (List ℕ) AreTexts total.answer rest (entry_trees ns ids) → ReadsDocuments ids rest result → ReadsTexts ns (contents_after total).answer result
texts-read ns ids total rest (Ok ds) live x k =
    let same : documents_of (length x.records) rest ≡ Ok k.documents = ap (λ n. documents_of n rest) (length-texts x.records ns ids x.shown) ∙ k.is in
    record { live = live-filed ns ids live k.documents ds k.shown; whole = record { records = x.records; documents = k.documents }; is = whole-is total x.records rest k.documents x.is same; same = texts-filed ns x.records ids x.shown k.documents ds k.shown }
texts-read ns ids total rest (Err e) live x k =
    documents-fail total e x.records rest x.is (fails-same e (documents_of (length x.records) rest) (documents_of (length ids) rest) (ap (λ n. documents_of n rest) (length-texts x.records ns ids x.shown)) k)

pub contents-read : (f : Format) (ns : List Node) (ids : List NodeId) (total : Outcome (List (Kept f) × List ℕ)) (rest : List ℕ) (result : Result (List Doc) ImageRefusal) → AreLiveIds ns ids → AreRecords (Kept f) (Show f) total.answer rest (entry_trees ns ids) → ReadsDocuments ids rest result → ReadsContents f ns (contents_after total).answer result
contents-read Nodes = nodes-read
contents-read Texts = texts-read

pub contents-failed : (f : Format) (ns : List Node) (e : ImageRefusal) (read : Result (Contents (Kept f)) ImageRefusal) → Fails e read → ReadsContents f ns read (Err e)
contents-failed Nodes ns e read h = h
contents-failed Texts ns e read h = h

-- the texts of trees
abbrev worded : List ℕ × Option Tree → List ℕ × List ℕ
worded p = (p.0, root_text p.1)

pub plain-rooted : (ns : List Node) (ds : List Doc) → plain ns ds ≡ map worded (rooted ns ds)
plain-rooted ns [] = refl
plain-rooted ns (d ∷ ds) = ap (λ xs. (d.name, root_text (root_tree ns d.root)) ∷ xs) (plain-rooted ns ds)

root-meant : (records : List Node) (r : Option ℕ) → root_text (option_map (λ i. tree records i) r) ≡ content_of (node_text records) r
root-meant records None = refl
root-meant records (Some i) = refl

pub filed-meant : (records : List Node) (fs : List Document) → map worded (map (λ d. (d.name, option_map (λ i. tree records i) d.root)) fs) ≡ map (λ d. (d.name, content_of (node_text records) d.root)) fs
filed-meant records [] = refl
filed-meant records (f ∷ fs) = λ j. (f.name, root-meant records f.root j) ∷ filed-meant records fs j

meant-fails : {M : Type 0} (content : List M → ℕ → List ℕ) (read : Outcome (Contents M)) (e : ImageRefusal) → Fails e read.answer → Fails e (meaning content read).answer
meant-fails content read e h = fails-bind e read.answer _ h

pub nodes-meant : (ns : List Node) (read : Outcome (Contents Node)) (ds : List Doc) (h : AreNodes ns read.answer ds) → (meaning node_text read).answer ≡ Ok (record { documents = plain ns ds; nodes = length h.whole.records })
nodes-meant ns read ds h =
    let texts : map (λ d. (d.name, content_of (node_text h.whole.records) d.root)) h.whole.documents ≡ plain ns ds = sym (plain-rooted ns ds ∙ (ap (map worded) h.same ∙ filed-meant h.whole.records h.whole.documents)) in
    ap (λ (r : Result (Contents Node) ImageRefusal). r >>= λ x. Ok (record { documents = map (λ d. (d.name, content_of (node_text x.records) d.root)) x.documents; nodes = length x.records })) h.is ∙ ap (λ (t : List (List ℕ × List ℕ)). Ok (record { documents = t; nodes = length h.whole.records })) texts

pub reads-nodes : (ns : List Node) (read : Outcome (Contents Node)) (result : Result (List Doc) ImageRefusal) → ReadsNodes ns read.answer result → Reads ns (meaning node_text read).answer result
reads-nodes ns read (Ok ds) h = record { live = h.live; nodes = length h.whole.records; is = nodes-meant ns read ds h }
reads-nodes ns read (Err e) h = meant-fails node_text read e h

pub reads-texts : (ns : List Node) (read : Outcome (Contents (List ℕ))) (result : Result (List Doc) ImageRefusal) → ReadsTexts ns read.answer result → Reads ns (meaning at read).answer result
reads-texts ns read (Ok ds) h =
    record {
      live = h.live;
      nodes = length h.whole.records;
      is = ap (λ (r : Result (Contents (List ℕ)) ImageRefusal). r >>= λ x. Ok (record { documents = map (λ d. (d.name, content_of (at x.records) d.root)) x.documents; nodes = length x.records })) h.is ∙ ap (λ (t : List (List ℕ × List ℕ)). Ok (record { documents = t; nodes = length h.whole.records })) (sym h.same);
    }
reads-texts ns read (Err e) h = meant-fails at read e h

-- the version decides
image-none : (e : ImageRefusal) (read : Field ℕ) → Fails e read → Fails e (image_of read).answer
image-none NoMemory read h = tt
image-none e read h = ap (λ r. (image_of r).answer) h

pub image-fails : (e : ImageRefusal) (bytes : List ℕ) → Fails e (version_at bytes) → Fails e (image bytes).answer
unfolding image
image-fails e bytes h = image-none e (version_at bytes) h

pub image-one : (bytes rest : List ℕ) (v : ℕ) → version_at bytes ≡ Ok (v, rest) → v ≡ 1 → image bytes ≡ meaning node_text (contents node_at rest)
unfolding image
image-one bytes rest v h one = ap image_of (h ∙ ap (λ (n : ℕ). Ok (n, rest)) one)

pub image-two : (bytes rest : List ℕ) (v : ℕ) → version_at bytes ≡ Ok (v, rest) → v ≢ 1 → image bytes ≡ meaning at (contents text_at rest)
unfolding image
image-two bytes rest v h other = let b : eqb v 1 ≡ false = ne_eqb v 1 other in ap image_of h ∙ (rw b refl)

pub trees-one : (bytes rest : List ℕ) (v : ℕ) (ns : List Node) (result : Result (List Doc) ImageRefusal) → version_at bytes ≡ Ok (v, rest) → ReadsNodes ns (contents node_at rest).answer result → IfOk result (λ ds. HaveTrees bytes ns ds)
trees-one bytes rest v ns (Ok ds) h k = λ after x one is.
    let same : after ≡ rest = ap (λ (p : ℕ × List ℕ). p.1) (ok-is (version_at bytes) one h) in
    let whole : k.whole ≡ x = ok-is (contents node_at rest).answer k.is (ap (λ bs. (contents node_at bs).answer) (sym same) ∙ is) in
    k.same ∙ ap filed whole
trees-one bytes rest v ns (Err e) h k = tt

pub trees-two : (bytes rest : List ℕ) (v : ℕ) (ns : List Node) (result : Result (List Doc) ImageRefusal) → version_at bytes ≡ Ok (v, rest) → v ≢ 1 → IfOk result (λ ds. HaveTrees bytes ns ds)
trees-two bytes rest v ns (Ok ds) h other = λ after x one is. absurd (other (sym (ap (λ (p : ℕ × List ℕ). p.0) (ok-is (version_at bytes) one h))))
trees-two bytes rest v ns (Err e) h other = tt
