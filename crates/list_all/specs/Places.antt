-- Pages by index: several documents may share one page.
use Rattle.std.specs.Prelude.{◌≡◌, ℕ, false, List, [], ◌∷◌, map, slice_get, slice_index_or, Option, Some}
use Rattle.slp_model.specs.declared.NodeId.{NodeId}
use Rattle.list_all.specs.Page.{Page}

abbrev pub no_page : Page
no_page = record { tuples = []; more = false }

-- the page at each of the indices
abbrev pub pages_at : List Page → List ℕ → List Page
pages_at found places = map (λ k. slice_index_or found k no_page) places

-- the page at index k is one that P allows for the root
abbrev pub HasPage : (Option NodeId → Page → Type 0) → List Page → Option NodeId → ℕ → Type 0
HasPage P found r k = (p : Page) × (slice_get found k ≡ Some p) × P r p

-- for each root, in order, the index of a page that P allows
abbrev pub HaveEach : (Option NodeId → Page → Type 0) → List Page → List (Option NodeId) → List ℕ → Type 0
HaveEach P found [] [] = Unit {0}
HaveEach P found [] (k ∷ ks) = ⊥
HaveEach P found (r ∷ rs) [] = ⊥
HaveEach P found (r ∷ rs) (k ∷ ks) = HasPage P found r k × HaveEach P found rs ks
