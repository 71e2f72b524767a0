-- What a writer of images may write.
use Rattle.std.specs.Prelude.{◌≡◌, ◌<◌, ℕ, List, length, map, slice_get, Option, Some, option_map, Ok}
use Rattle.slp_model.specs.declared.Node.{Node}
use Rattle.slp_model.specs.Kept.{Reaches}
use Rattle.doc_book.specs.declared.Doc.{Doc}
use Rattle.slp_image.specs.Image.{Contents, contents, node_at, version_at}

-- one of the roots reaches the node
pub record IsReached (ns : List Node) (roots : List (Option ℕ)) (j : ℕ) : Type 0 where
  pub index : ℕ
  pub root : ℕ
  pub there : slice_get roots index ≡ Some (Some root)
  pub below : Reaches ns root j

-- no two nodes are equal, and each is reachable from a document
pub record SaveForm (bytes : List ℕ) : Type 0 where
  pub after : List ℕ
  pub version : version_at bytes ≡ Ok (1, after)
  pub read : Contents Node
  pub accepted : (contents node_at after).answer ≡ Ok read
  pub reached : (j : ℕ) → j < length read.records → IsReached read.records (map (λ d. d.root) read.documents) j
  pub distinct : (i j : ℕ) (n : Node) → slice_get read.records i ≡ Some n → slice_get read.records j ≡ Some n → i ≡ j

-- the indices of the roots of documents in a store
abbrev pub root_indices : List Doc → List (Option ℕ)
root_indices ds = map (λ d. option_map (λ id. id.index) d.root) ds

-- P holds of exactly n numbers, which can be enumerated from 0
pub record IsCount (P : ℕ → Type 0) (n : ℕ) : Type 0 where
  pub count : ℕ → ℕ
  pub within : (i : ℕ) → P i → count i < n
  pub apart : (i j : ℕ) → P i → P j → count i ≡ count j → i ≡ j
  pub all : (k : ℕ) → k < n → (i : ℕ) × P i × (count i ≡ k)
