-- Unions of sets that are known already.
use Rattle.std.specs.Prelude.{◌≡◌, ℕ, suc, List, bit_or, slice_index_or}
use Rattle.state_tables.specs.Coded.{set_beyond}
use Rattle.state_tables.specs.RowSet.{IsSetAt}
use Rattle.state_tables.specs.declared.unions.Union.{Union}

-- the images of the sets of a left text, and known unions of these with sets of a right one
pub record UnionMemo : Type 0 where
  pub width : ℕ
  pub images : List ℕ
  pub slots : List Union

abbrev pub no_union : Union
no_union = record { image = 0; beyond = 0; union = 0 }

-- the union of an image and a set of the right text
abbrev pub union_of : List ℕ → List ℕ → ℕ → ℕ → ℕ
union_of images rights image beyond = bit_or (set_beyond rights beyond) (slice_index_or images image 0)

-- the union that this entry has, if any, is among the sets at its index
abbrev pub IsKnownUnion : List ℕ → List ℕ → List ℕ → Union → Type 0
IsKnownUnion images rights sets u = (k : ℕ) → u.union ≡ suc k → IsSetAt sets (union_of images rights u.image u.beyond) k

-- so have all
abbrev pub AreUnions : UnionMemo → List ℕ → List ℕ → Type 0
AreUnions m rights sets = (s : ℕ) → IsKnownUnion m.images rights sets (slice_index_or m.slots s no_union)
