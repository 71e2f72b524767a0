-- Texts are unchanged, and each node is reached.
use Rattle.std.proofs.Common.{◌≡◌, ℕ, inl, inr, Bool, List, [], ◌∷◌, ◌++◌, map, Option, Some, None, refl, ap, subst}
use Rattle.std.specs.Prelude.{◌↔◌}
use Rattle.slp_model.specs.declared.NodeId.{NodeId}
use Rattle.slp_model.specs.declared.Node.{Node}
use Rattle.slp_model.specs.Tree.{text}
use Rattle.slp_model.specs.Nodes.{IsLive, text_of}
use Rattle.slp_model.specs.Kept.{Here, IsPlanOf, Keeps, RootReaches, IsKeptRoot}
use Rattle.slp_model.specs.Thin.{AnyReaches, IsCompactionOf, moved, thin}
use Rattle.doc_book.specs.declared.Doc.{Doc}
use Rattle.doc_book.specs.Texts.{AreLive, plain}
use Rattle.name_map.specs.Named.{Named}
use Rattle.doc_book.specs.Docs.{roots_of}
use Rattle.doc_versions.specs.Texts.{AreKept, plain_versions, version_roots}
use Rattle.doc_compact.specs.Compacted.{AreKeptRoots, AreKeptVersions, IsCompacted, moved_docs, moved_versions}
use Rattle.doc_compact.proofs.Reached.{any-append}

-- roots that are marked are kept
pub roots-kept : (ns : List Node) (keep : List Bool) (ds : List Doc) → ((i : ℕ) → AnyReaches ns (roots_of ds) i → Keeps keep i) → AreKeptRoots keep ds
roots-kept ns keep [] h = tt
roots-kept ns keep (d ∷ ds) h = (at d.root (λ i r. h i (inl r)), roots-kept ns keep ds (λ i r. h i (inr r)))
  where
    at : (root : Option NodeId) → ((i : ℕ) → RootReaches ns root i → Keeps keep i) → IsKeptRoot keep root
    at None g = tt
    at (Some id) g = g id.index (Here ns id.index)

pub versions-kept : (ns : List Node) (keep : List Bool) (vs : Named (List Doc)) → ((i : ℕ) → AnyReaches ns (version_roots vs) i → Keeps keep i) → AreKeptVersions keep vs
versions-kept ns keep [] h = tt
versions-kept ns keep (v ∷ vs) h = (
  roots-kept ns keep v.1 (λ i r. h i ((any-append ns (roots_of v.1) (version_roots vs) i).1 (inl r))),
  versions-kept ns keep vs (λ i r. h i ((any-append ns (roots_of v.1) (version_roots vs) i).1 (inr r))),
)

module _ (ns : List Node) (keep : List Bool) (ms : List Node) (is : IsCompactionOf ns keep ms) where
  live-root : (root : Option NodeId) → IsKeptRoot keep root → IsLive ms (moved keep root)
  live-root None h = tt
  live-root (Some id) h = is.live id.index h

  text-root : (root : Option NodeId) → IsKeptRoot keep root → text_of ms (moved keep root) ≡ text_of ns root
  text-root None h = refl
  text-root (Some id) h = ap text (is.trees id.index h)

  live-docs : (ds : List Doc) → AreKeptRoots keep ds → AreLive ms (moved_docs keep ds)
  live-docs [] h = tt
  live-docs (d ∷ ds) h = (live-root d.root h.0, live-docs ds h.1)

  live-versions : (vs : Named (List Doc)) → AreKeptVersions keep vs → AreKept ms (moved_versions keep vs)
  live-versions [] h = tt
  live-versions (v ∷ vs) h = (live-docs v.1 h.0, live-versions vs h.1)

  texts-docs : (ds : List Doc) → AreKeptRoots keep ds → plain ms (moved_docs keep ds) ≡ plain ns ds
  texts-docs [] h = refl
  texts-docs (d ∷ ds) h = let first = text-root d.root h.0 in let rest = texts-docs ds h.1 in λ i. (d.name, first i) ∷ rest i

  texts-versions : (vs : Named (List Doc)) → AreKeptVersions keep vs → plain_versions ms (moved_versions keep vs) ≡ plain_versions ns vs
  texts-versions [] h = refl
  texts-versions (v ∷ vs) h = let first = texts-docs v.1 h.0 in let rest = texts-versions vs h.1 in λ i. (v.0, first i) ∷ rest i

  roots-docs : (ds : List Doc) (others : List (Option NodeId)) (mores : List (Option NodeId)) → map (moved keep) others ≡ mores → map (moved keep) (roots_of ds ++ others) ≡ roots_of (moved_docs keep ds) ++ mores
  roots-docs [] others mores e = e
  roots-docs (d ∷ ds) others mores e = ap (λ (l : List (Option NodeId)). moved keep d.root ∷ l) (roots-docs ds others mores e)

  roots-versions : (vs : Named (List Doc)) → map (moved keep) (version_roots vs) ≡ version_roots (moved_versions keep vs)
  roots-versions [] = refl
  roots-versions (v ∷ vs) = roots-docs v.1 (version_roots vs) (version_roots (moved_versions keep vs)) (roots-versions vs)

  -- everything together
  pub compacted : (ds : List Doc) (vs : Named (List Doc)) → IsPlanOf ns keep → ((i : ℕ) → Keeps keep i ↔ AnyReaches ns (roots_of ds ++ version_roots vs) i) → ms ≡ thin ns keep
      → IsCompacted ns ds vs keep ms (moved_docs keep ds) (moved_versions keep vs)
  compacted ds vs plan exact thin_is =
      let docs = roots-kept ns keep ds (λ i r. (exact i).1 ((any-append ns (roots_of ds) (version_roots vs) i).1 (inl r))) in
      let versions = versions-kept ns keep vs (λ i r. (exact i).1 ((any-append ns (roots_of ds) (version_roots vs) i).1 (inr r))) in
      record {
        plan = plan;
        thin_is = thin_is;
        trees = is;
        live = live-docs ds docs;
        kept = live-versions vs versions;
        docs_moved = refl;
        versions_moved = refl;
        texts = texts-docs ds docs;
        versions = texts-versions vs versions;
        reached = λ j lt. subst (λ (l : List (Option NodeId)). AnyReaches ms l j) (roots-docs ds (version_roots vs) (version_roots (moved_versions keep vs)) (roots-versions vs)) (is.reached (roots_of ds ++ version_roots vs) exact j lt);
      }
