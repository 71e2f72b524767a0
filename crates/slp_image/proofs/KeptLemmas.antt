-- The written image, as a whole.
use Rattle.std.proofs.Common.{◌≡◌, ℕ, zero, suc, ◌+◌, ◌<◌, ◌≤◌, ◌^◌, ◌||◌, inl, inr, Bool, true, false, cond, List, [], ◌∷◌, ◌++◌, map, length, get_or, slice_get, take, Option, Some, None, option_map, Ok, refl, ap, sym, subst, ◌∙◌, arith, append_assoc, append-nil}
use Rattle.std.proofs.lemmas.List.{length-map, length-take-le, map-append, take_all}
use Rattle.byteorder.specs.Endian.{big_bytes}
use Rattle.std.proofs.lemmas.Option.{slice_get_within, slice_get-get_or}
use Rattle.span_types.specs.Names.{is_name}
use Rattle.slp_model.specs.declared.NodeId.{NodeId}
use Rattle.slp_model.specs.declared.Node.{Node}
use Rattle.slp_model.specs.Nodes.{tree, root_tree, IsSound}
use Rattle.slp_model.specs.Distinct.{AreDistinct}
use Rattle.slp_model.specs.Kept.{AddsExactly, IsKeptRoot, Keeps, Reaches, RootReaches, Here}
use Rattle.slp_model.specs.Thin.{rank, moved, AnyReaches, KeepsExactly, IsCompactionOf}
use Rattle.slp_model.proofs.KeptLemmas.{keeps-next}
use Rattle.slp_model.proofs.RankLemmas.{rank-apart}
use Rattle.doc_book.specs.declared.Doc.{Doc}
use Rattle.doc_book.specs.Docs.{is_same, put, roots_of, AreDistinctNames}
use Rattle.slp_image.proofs.NextLemmas.{put-next}
use Rattle.slp_image.specs.Image.{Document, Outcome, Meaning, is_among, names_of, contents, node_at, image}
use Rattle.doc_book.specs.Texts.{AreLive, plain}
use Rattle.slp_image.specs.Documents.{rooted, filed, HaveTrees}
use Rattle.slp_image.specs.Reads.{AreNodes}
use Rattle.slp_image.specs.Save.{IsReached, SaveForm, root_indices, IsCount}
use Rattle.slp_image.specs.Saved.{KeepsRoots, AreSaved, saved}
use Rattle.slp_image.specs.Written.{AllNext, MayBeNext, IsNextDocument, records_bytes, documents_bytes}
use Rattle.slp_image.proofs.FollowLemmas.{all-follow}
use Rattle.slp_image.proofs.SavedLemmas.{saved_doc, take-next}
use Rattle.slp_image.proofs.ReadLemmas.{image-one, trees-one, nodes-meant}
use Rattle.slp_image.proofs.WriteLemmas.{prefix, body_bytes, contents-again, version-again}

-- one document further
pub exactly-next : (ns : List Node) (old new : List Bool) (ds : List Doc) (k : ℕ) (d : Doc) → KeepsExactly ns old (roots_of (take k ds)) → slice_get ds k ≡ Some d → AddsExactly old new (RootReaches ns d.root) → KeepsExactly ns new (roots_of (take (k + 1) ds))
exactly-next ns old new ds k d a at b =
    let one : suc k ≡ k + 1 = omega arith in
    let more : roots_of (take k ds) ++ d.root ∷ [] ≡ roots_of (take (k + 1) ds) = sym (ap (λ n. roots_of (take n ds)) (sym one) ∙ (ap roots_of (take-next ds k d at) ∙ map-append (λ (x : Doc). x.root) (take k ds) (d ∷ []))) in
    subst (λ (rs : List (Option NodeId)). KeepsExactly ns new rs) more (keeps-next ns old new (roots_of (take k ds)) d.root a b)

-- the roots are kept
root-reached : (ns : List Node) (ds : List Doc) (index : ℕ) (d : Doc) (j : ℕ) → slice_get ds index ≡ Some d → RootReaches ns d.root j → AnyReaches ns (roots_of ds) j
root-reached ns [] index d j at x = cc
root-reached ns (e ∷ ds) zero d j at x = let s : e ≡ d = cc in inl (subst (λ (y : Doc). RootReaches ns y.root j) (sym s) x)
root-reached ns (e ∷ ds) (suc index) d j at x = inr (root-reached ns ds index d j at x)

pub roots-kept : (ns : List Node) (ks : List Bool) (ds : List Doc) → KeepsExactly ns ks (roots_of ds) → KeepsRoots ks ds
roots-kept ns ks ds exact index d at = by d.root (λ j x. (exact j).1 (root-reached ns ds index d j at x))
  where
    by : (r : Option NodeId) → ((j : ℕ) → RootReaches ns r j → Keeps ks j) → IsKeptRoot ks r
    by None h = tt
    by (Some id) h = h id.index (Here ns id.index)

-- roots as numbers
abbrev number : Option NodeId → Option ℕ
number r = option_map (λ id. id.index) r

later : (ns : List Node) (r : Option ℕ) (rs : List (Option ℕ)) (j : ℕ) → IsReached ns rs j → IsReached ns (r ∷ rs) j
later ns r rs j x = record { index = suc x.index; root = x.root; there = x.there; below = x.below }

any-reached : (ns : List Node) (rs : List (Option NodeId)) (j : ℕ) → AnyReaches ns rs j → IsReached ns (map number rs) j
any-reached ns [] j x = absurd x
any-reached ns (None ∷ rs) j x = elim x [ inl y ↦ absurd y | inr y ↦ later ns None (map number rs) j (any-reached ns rs j y) ]
any-reached ns (Some id ∷ rs) j x = elim x [
  | inl y ↦ record { index = zero; root = id.index; there = refl; below = y }
  | inr y ↦ later ns (Some id.index) (map number rs) j (any-reached ns rs j y)
]

reached-any : (ns : List Node) (rs : List (Option NodeId)) (index root j : ℕ) → slice_get (map number rs) index ≡ Some (Some root) → Reaches ns root j → AnyReaches ns rs j
reached-any ns [] index root j at x = cc
reached-any ns (None ∷ rs) zero root j at x = absurd (cc at)
reached-any ns (Some id ∷ rs) zero root j at x = let e : id.index ≡ root = cc at in inl (subst (λ n. Reaches ns n j) (sym e) x)
reached-any ns (r ∷ rs) (suc index) root j at x = inr (reached-any ns rs index root j at x)

numbers : (ds : List Doc) → map number (roots_of ds) ≡ root_indices ds
numbers [] = refl
numbers (d ∷ ds) = ap (λ rs. number d.root ∷ rs) (numbers ds)

new-numbers : (ks : List Bool) (ds : List Doc) → map number (map (moved ks) (roots_of ds)) ≡ map (λ d. d.root) (saved (rank ks) ds)
new-numbers ks [] = refl
new-numbers ks (d ∷ ds) = λ j. by d.root j ∷ new-numbers ks ds j
  where
    by : (r : Option NodeId) → number (moved ks r) ≡ option_map (λ id. rank ks id.index) r
    by None = refl
    by (Some id) = refl

-- the kept nodes are the reached ones, and are counted by their ranks
pub kept-count : (ns : List Node) (ks : List Bool) (ms : List Node) (ds : List Doc) → IsCompactionOf ns ks ms → KeepsExactly ns ks (roots_of ds) → IsCount (IsReached ns (root_indices ds)) (length ms)
kept-count ns ks ms ds t exact = record {
  count = rank ks;
  within = λ i p. t.live i (to i p);
  apart = λ i j p q e. rank-apart ks i j (to i p) (to j q) e;
  all = λ k lt. let w = t.exact k lt in (w.0, subst (λ (rs : List (Option ℕ)). IsReached ns rs w.0) (numbers ds) (any-reached ns (roots_of ds) w.0 ((exact w.0).0 w.1)), w.2);
}
  where
    to : (i : ℕ) → IsReached ns (root_indices ds) i → Keeps ks i
    to i p = let q = subst (λ (rs : List (Option ℕ)). IsReached ns rs i) (sym (numbers ds)) p in (exact i).1 (reached-any ns (roots_of ds) q.index q.root i q.there q.below)

-- the trees of the written documents
trees-thin : (ns : List Node) (ks : List Bool) (ms : List Node) → IsCompactionOf ns ks ms → (ds : List Doc) → KeepsRoots ks ds → rooted ns ds ≡ map (λ d. (d.name, option_map (λ i. tree ms i) d.root)) (saved (rank ks) ds)
trees-thin ns ks ms t [] kept = refl
trees-thin ns ks ms t (d ∷ ds) kept = λ j. (d.name, by d.root (kept zero d refl) j) ∷ trees-thin ns ks ms t ds (λ index e at. kept (suc index) e at) j
  where
    by : (r : Option NodeId) → IsKeptRoot ks r → root_tree ns r ≡ option_map (λ i. tree ms i) (option_map (λ id. rank ks id.index) r)
    by None k = refl
    by (Some id) k = ap Some (sym (t.trees id.index k))

-- the numbers of roots are below the count
index-within : (ns : List Node) (ks : List Bool) (ms : List Node) → IsCompactionOf ns ks ms → (r : Option NodeId) → IsKeptRoot ks r → IsNextDocument (length ms) (option_map (λ id. rank ks id.index) r)
index-within ns ks ms t None kept = tt
index-within ns ks ms t (Some id) kept = t.live id.index kept

-- the written documents may follow one another
put-long : (ds : List Doc) (name : List ℕ) (root : Option NodeId) → is_among (map (λ d. d.name) ds) name ≡ true → length (put ds name root) ≡ length ds
put-long [] name root h = cc
put-long (d ∷ ds) name root h = by (is_same name d.name) h (λ k. put-long ds name root k)
  where
    by : (b : Bool) → (b || is_among (map (λ e. e.name) ds) name) ≡ true → (is_among (map (λ e. e.name) ds) name ≡ true → length (put ds name root) ≡ length ds)
        → length (cond b (record { name = name; root = root } ∷ ds) (d ∷ put ds name root)) ≡ suc (length ds)
    by true k more = refl
    by false k more = ap suc (more k)

not-among : (ds : List Doc) (k : ℕ) (d : Doc) → AreDistinctNames ds → slice_get ds k ≡ Some d → is_among (map (λ e. e.name) (take k ds)) d.name ≡ false
not-among ds k d apart at = by (is_among (map (λ e. e.name) (take k ds)) d.name) refl
  where
    by : (b : Bool) → b ≡ is_among (map (λ e. e.name) (take k ds)) d.name → b ≡ false
    by false e = refl
    by true e =
        let lt : k < length ds = slice_get_within ds k d at in
        let one : length (take (suc k) ds) ≡ length (take k ds) = ap length (sym (put-next ds k d apart at)) ∙ put-long (take k ds) d.name d.root (sym e) in
        absurd (omega (arith, one, length-take-le (suc k) ds (omega (arith, lt)), length-take-le k ds (omega (arith, lt))))

next-push : (count : ℕ) (ps more : List Document) (d : Document) → AllNext count ps more → MayBeNext count (ps ++ more) d → AllNext count ps (more ++ d ∷ [])
next-push count ps [] d h m = (subst (λ (xs : List Document). MayBeNext count xs d) (append-nil ps) m, tt)
next-push count ps (e ∷ more) d h m = (h.0, next-push count (ps ++ e ∷ []) more d h.1 (subst (λ (xs : List Document). MayBeNext count xs d) (sym (append_assoc ps (e ∷ []) more)) m))

names-saved : (f : ℕ → ℕ) (ds : List Doc) → names_of (saved f ds) ≡ map (λ d. d.name) ds
names-saved f [] = refl
names-saved f (d ∷ ds) = ap (λ xs. d.name ∷ xs) (names-saved f ds)

doc-of : (ds : List Doc) (i : ℕ) → i < length ds → (d : Doc) × (slice_get ds i ≡ Some d)
doc-of [] i lt = absurd (omega (arith, lt))
doc-of (d ∷ ds) i lt = (get_or (d ∷ ds) i d, slice_get-get_or (d ∷ ds) i d lt)

pub all-next : (f : ℕ → ℕ) (count : ℕ) (ds : List Doc) → AreDistinctNames ds → ((i : ℕ) (d : Doc) → slice_get ds i ≡ Some d → is_name d.name ≡ true) → ((i : ℕ) (d : Doc) → slice_get ds i ≡ Some d → IsNextDocument count (option_map (λ id. f id.index) d.root)) → (k : ℕ) → k ≤ length ds → AllNext count [] (saved f (take k ds))
all-next f count ds apart named placed zero le = tt
all-next f count ds apart named placed (suc k) le =
    let w = doc-of ds k (omega (arith, le)) in
    let more : saved f (take (suc k) ds) ≡ saved f (take k ds) ++ saved_doc f w.0 ∷ [] = ap (saved f) (take-next ds k w.0 w.1) ∙ map-append (saved_doc f) (take k ds) (w.0 ∷ []) in
    let new : is_among (names_of (saved f (take k ds))) w.0.name ≡ false = ap (λ ns. is_among ns w.0.name) (names-saved f (take k ds)) ∙ not-among ds k w.0 apart w.1 in
    subst (λ (xs : List Document). AllNext count [] xs) (sym more)
    (next-push count [] (saved f (take k ds)) (saved_doc f w.0) (all-next f count ds apart named placed k (omega (arith, le))) (named k w.0 w.1, new, placed k w.0 w.1))

-- everything that was written
pub record IsWhole (ns : List Node) (ds : List Doc) (bytes : List ℕ) (nodes : ℕ) : Type 0 where
  pub records : List Node
  pub documents : List Document
  pub bytes_are : bytes ≡ prefix ++ body_bytes records documents
  pub count : nodes ≡ length records
  pub accepted : (contents node_at (body_bytes records documents)).answer ≡ Ok (record { records = records; documents = documents })
  pub reached : (j : ℕ) → j < length records → IsReached records (map (λ d. d.root) documents) j
  pub distinct : (i j : ℕ) (n : Node) → slice_get records i ≡ Some n → slice_get records j ≡ Some n → i ≡ j
  pub live : AreLive ns ds
  pub same : rooted ns ds ≡ filed (record { records = records; documents = documents })

gather : (f n r c d : List ℕ) → ((([] ++ (f ++ n)) ++ r) ++ c) ++ d ≡ f ++ (n ++ (r ++ (c ++ d)))
gather f n r c d = append_assoc ((f ++ n) ++ r) c d ∙ (append_assoc (f ++ n) r (c ++ d) ∙ append_assoc f n (r ++ (c ++ d)))

pub whole-from : (ns : List Node) (ks : List Bool) (ms : List Node) (ds : List Doc) (nodes : ℕ) (a b c d : List ℕ) → AreLive ns ds → AreDistinctNames ds → KeepsExactly ns ks (roots_of ds) → IsCompactionOf ns ks ms → IsSound ms → AreDistinct ms → nodes ≡ length ms → nodes < 2 ^ 64 → length ds < 2 ^ 64
    → a ≡ [] ++ (prefix ++ big_bytes 8 nodes) → b ≡ a ++ records_bytes ms → c ≡ b ++ big_bytes 8 (length ds) → AreSaved (rank ks) ds (length ds) c d → IsWhole ns ds d nodes
whole-from ns ks ms ds nodes a b c d live names exact t sound apart count short few ea eb ec s = record {
  records = ms;
  documents = fs;
  bytes_are = s.bytes ∙ ((λ j. ec j ++ documents_bytes (all j)) ∙ ((λ j. (eb j ++ big_bytes 8 (size j)) ++ documents_bytes fs) ∙ ((λ j. ((ea j ++ records_bytes ms) ++ big_bytes 8 (length fs)) ++ documents_bytes fs) ∙ ((λ j. ((([] ++ (prefix ++ big_bytes 8 (count j))) ++ records_bytes ms) ++ big_bytes 8 (length fs)) ++ documents_bytes fs) ∙ gather prefix (big_bytes 8 (length ms)) (records_bytes ms) (big_bytes 8 (length fs)) (documents_bytes fs)))));
  count = count;
  accepted = contents-again ms fs fits (omega (arith, size, few)) (all-follow ms sound fits) next;
  reached = λ j lt. subst (λ (rs : List (Option ℕ)). IsReached ms rs j) (new-numbers ks ds) (any-reached ms (map (moved ks) (roots_of ds)) j (t.reached (roots_of ds) exact j lt));
  distinct = apart;
  live = live;
  same = trees-thin ns ks ms t ds kept;
}
  where
    fs : List Document
    fs = saved (rank ks) ds

    fits : length ms < 2 ^ 64
    fits = omega (arith, count, short)

    size : length ds ≡ length fs
    size = sym (length-map ds (saved_doc (rank ks)))

    kept : KeepsRoots ks ds
    kept = roots-kept ns ks ds exact

    all : saved (rank ks) (take (length ds) ds) ≡ fs
    all = ap (saved (rank ks)) (take_all (length ds) ds (omega arith))

    next : AllNext (length ms) [] fs
    next = subst (λ (xs : List Document). AllNext (length ms) [] xs) all
        (all-next (rank ks) (length ms) ds names (λ i e at. s.named i e (slice_get_within ds i e at) at) (λ i e at. index-within ns ks ms t e.root (kept i e at)) (length ds) (omega arith))

-- and what holds of it
pub whole-form : (ns : List Node) (ds : List Doc) (bytes : List ℕ) (nodes : ℕ) → IsWhole ns ds bytes nodes → SaveForm bytes
whole-form ns ds bytes nodes w = subst SaveForm (sym w.bytes_are) (record {
  after = body_bytes w.records w.documents;
  version = version-again (body_bytes w.records w.documents);
  read = record { records = w.records; documents = w.documents };
  accepted = w.accepted;
  reached = w.reached;
  distinct = w.distinct;
})

abbrev whole-nodes : (ns : List Node) (ds : List Doc) (bytes : List ℕ) (nodes : ℕ) (w : IsWhole ns ds bytes nodes) → AreNodes ns (contents node_at (body_bytes w.records w.documents)).answer ds
whole-nodes ns ds bytes nodes w = record { live = w.live; whole = record { records = w.records; documents = w.documents }; is = w.accepted; same = w.same }

pub whole-documents : (ns : List Node) (ds : List Doc) (bytes : List ℕ) (nodes : ℕ) → IsWhole ns ds bytes nodes → (image bytes).answer ≡ Ok (record { documents = plain ns ds; nodes = nodes })
whole-documents ns ds bytes nodes w =
    let body : List ℕ = body_bytes w.records w.documents in
    let one = image-one (prefix ++ body_bytes w.records w.documents) (body_bytes w.records w.documents) 1 (version-again (body_bytes w.records w.documents)) refl in
    ap (λ bs. (image bs).answer) w.bytes_are ∙ (ap (λ (o : Outcome Meaning). o.answer) one
    ∙ (nodes-meant ns (contents node_at (body_bytes w.records w.documents)) ds (whole-nodes ns ds bytes nodes w) ∙ ap (λ n. Ok (record { documents = plain ns ds; nodes = n })) (sym w.count)))

pub whole-trees : (ns : List Node) (ds : List Doc) (bytes : List ℕ) (nodes : ℕ) → IsWhole ns ds bytes nodes → HaveTrees bytes ns ds
whole-trees ns ds bytes nodes w =
    subst (λ (bs : List ℕ). HaveTrees bs ns ds) (sym w.bytes_are) (trees-one (prefix ++ body_bytes w.records w.documents) (body_bytes w.records w.documents) 1 ns (Ok ds) (version-again (body_bytes w.records w.documents)) (whole-nodes ns ds bytes nodes w))
