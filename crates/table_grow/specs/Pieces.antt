-- Tables that were computed but not kept yet, and where the tables of the nodes of a piece are.
use Rattle.std.specs.Prelude.{◌≡◌, ℕ, ◌+◌, ◌<◌, List, [], ◌∷◌, ◌++◌, Option, Some, IfSome, Contains, slice_get, length}
use Rattle.slp_model.specs.declared.NodeId.{NodeId}
use Rattle.state_tables.specs.Table.{Row, compose_of}
use Rattle.state_tables.specs.Dictionary.{Dictionary, distinct_of, kept_of}
use Rattle.pair_memo.specs.Cache.{AreAmong}
use Rattle.table_grow.specs.Filling.{Filling, IsNumberOf, IsTableOfNode}
use Rattle.pair_memo.specs.Entries.{Entry}
use Rattle.table_grow.specs.declared.found.Found.{Found}
use Rattle.table_grow.specs.declared.found.Found.TheVariants as found
use Rattle.table_grow.specs.declared.found.Made.{Made}
use Rattle.table_grow.specs.declared.pieces.Piece.{Piece}
use Rattle.table_grow.specs.declared.pieces.Spot.{Spot}
use Rattle.table_grow.specs.declared.pieces.Spot.TheVariants as spot

-- the table is the composition of the kept tables of these numbers
pub record IsComposition (d : Dictionary) (t : List Row) (p : ℕ × ℕ) : Type 0 where
  pub left : p.0 < distinct_of d
  pub right : p.1 < distinct_of d
  pub table : t ≡ compose_of (kept_of d p.0) (kept_of d p.1)

-- a computed table has as many rows as the kept ones, and if it was computed from two kept tables it is their composition
pub record IsMade (d : Dictionary) (x : Made) : Type 0 where
  pub rows : length x.table ≡ d.states
  pub composed : IfSome x.parts (IsComposition d x.table)

abbrev pub AreMade : Dictionary → List Made → Type 0
AreMade d made = (k : ℕ) (x : Made) → slice_get made k ≡ Some x → IsMade d x

-- what was found for the node is its table
abbrev pub IsFound : Filling → ℕ → Found → Type 0
IsFound s id (found.Kept n) = IsNumberOf s id n
IsFound s id (found.New x) = IsMade s.tables x × IsTableOfNode s id x.table

-- computed tables keep their indices
abbrev pub Extends : List Made → List Made → Type 0
Extends old new = (k : ℕ) (x : Made) → slice_get old k ≡ Some x → slice_get new k ≡ Some x

-- the table of the node, computed from these parts, was added at the index
pub record IsAdded (s : Filling) (old new : List Made) (id : NodeId) (parts : Option (ℕ × ℕ)) (index : ℕ) : Type 0 where
  pub one : Made
  pub items : new ≡ old ++ one ∷ []
  pub index_is : index ≡ length old
  pub parts_are : one.parts ≡ parts
  pub found : IsFound s id.index (found.New one)

-- each of these compositions is among the computed tables, at its index
abbrev pub AreComputed : List Entry → List Made → Type 0
AreComputed es made = (e : Entry) → Contains es e → (x : Made) × (slice_get made e.1 ≡ Some x) × (x.parts ≡ Some e.0)

-- the same for the compositions in a piece's own cache
abbrev pub AreOwn : List (Option Entry) → List Made → Type 0
AreOwn cache made = (es : List Entry) × AreAmong cache es × AreComputed es made

-- the spot has the table of the node
abbrev pub IsSpot : Filling → List Made → NodeId → Spot → Type 0
IsSpot s made id (spot.Kept n) = IsNumberOf s id.index n
IsSpot s made id (spot.Made k) = (x : Made) × (slice_get made k ≡ Some x) × IsTableOfNode s id.index x.table

-- for each node a spot that P allows, in order
abbrev pub AreSpots : (NodeId → Spot → Type 0) → List NodeId → List Spot → Type 0
AreSpots P [] [] = Unit {0}
AreSpots P [] (s ∷ ss) = ⊥
AreSpots P (id ∷ ids) [] = ⊥
AreSpots P (id ∷ ids) (s ∷ ss) = P id s × AreSpots P ids ss

pub record IsPiece (s : Filling) (ids : List NodeId) (p : Piece) : Type 0 where
  pub made : AreMade s.tables p.made.items
  pub spots : AreSpots (IsSpot s p.made.items) ids p.spots.items

-- the spot if `before` tables come before those that were computed
abbrev pub shifted : ℕ → Spot → Spot
shifted before (spot.Kept n) = spot.Kept n
shifted before (spot.Made k) = spot.Made (before + k)

-- the spot isn't past the first `count` computed tables
abbrev pub IsWithin : ℕ → Spot → Type 0
IsWithin count (spot.Kept n) = Unit {0}
IsWithin count (spot.Made k) = k < count

-- the number of the table at the spot, if these are the numbers of those that were computed
abbrev pub number_at : List ℕ → Spot → Option ℕ
number_at numbers (spot.Kept n) = Some n
number_at numbers (spot.Made k) = slice_get numbers k

-- it is the number of the node's table
pub record HasNumber (s : Filling) (numbers : List ℕ) (id : NodeId) (at : Spot) : Type 0 where
  pub number : ℕ
  pub number_is : number_at numbers at ≡ Some number
  pub is : IsNumberOf s id.index number

-- the computed tables are kept under these numbers
abbrev pub AreNumbers : Dictionary → List Made → List ℕ → Type 0
AreNumbers d made numbers = (k : ℕ) (x : Made) → slice_get made k ≡ Some x → (n : ℕ) × (slice_get numbers k ≡ Some n) × (n < distinct_of d) × (kept_of d n ≡ x.table)
