-- A page for each of some texts.
use Rattle.std.specs.Prelude.{◌≡◌, ℕ, ◌+◌, List, [], ◌∷◌, length, slice_get, Option, Some}
use Rattle.slp_model.specs.declared.Node.{Node}
use Rattle.slp_model.specs.declared.NodeId.{NodeId}
use Rattle.marker_dfa.specs.Deterministic.{DeterministicAutomaton}
use Rattle.slp_model.specs.Nodes.{text_of}
use Rattle.doc_book.specs.declared.Doc.{Doc}
use Rattle.list_all.specs.Page.{Page, IsPageOf}

-- page i is that of the text of the document at index first + i
pub record ArePages (a : DeterministicAutomaton) (nodes : List Node) (docs : List Doc) (first count n : ℕ) (pages : List Page) : Type 0 where
  pub count_is : length pages ≡ count
  pub each : (i : ℕ) (d : Doc) (p : Page) → slice_get docs (first + i) ≡ Some d → slice_get pages i ≡ Some p → IsPageOf a (text_of nodes d.root) n p

-- for each root, in order, a page that P allows
abbrev pub AreEach : (Option NodeId → Page → Type 0) → List (Option NodeId) → List Page → Type 0
AreEach P [] [] = Unit {0}
AreEach P [] (p ∷ ps) = ⊥
AreEach P (r ∷ rs) [] = ⊥
AreEach P (r ∷ rs) (p ∷ ps) = P r p × AreEach P rs ps

-- the roots of count documents, from index first on
pub record AreRoots (docs : List Doc) (first count : ℕ) (roots : List (Option NodeId)) : Type 0 where
  pub count_is : length roots ≡ count
  pub each : (i : ℕ) (d : Doc) (r : Option NodeId) → slice_get docs (first + i) ≡ Some d → slice_get roots i ≡ Some r → r ≡ d.root
