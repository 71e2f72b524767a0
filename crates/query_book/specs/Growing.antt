-- How queries change when their tables are computed.
use Rattle.std.specs.Prelude.{◌≡◌, ◌⊎◌, ℕ, zero, suc, ◌<◌, List, [], ◌∷◌, length, slice_get, Some, None}
use Rattle.std.specs.Option.{option_map}
use Rattle.slp_model.specs.declared.Node.{Node}
use Rattle.state_tables.specs.Dictionary.{count_of}
use Rattle.query_book.specs.declared.entry.TabledQuery.{TabledQuery}
use Rattle.query_book.specs.Named.{Named, put, value_of, with_value}
use Rattle.query_book.specs.Counting.{counted, counts_in}
use Rattle.query_book.specs.Kept.{IsSound}
use Rattle.query_book.specs.declared.refusal.BookRefusal.{BookRefusal}
use Rattle.query_book.specs.declared.refusal.BookRefusal.TheVariants.{NoSuchQuery, NoMemory}
use Rattle.query_book.specs.Serving.{IsServed}

-- the query and its counting tables are unchanged, and its tables are those of the same nodes, or of all nodes
pub record MayGrow (ns : List Node) (old new : TabledQuery) : Type 0 where
  pub query : new.query ≡ old.query
  pub sound : IsSound new
  pub served : IsServed ns new
  pub counts : new.counts ≡ old.counts
  pub count : (count_of new.tables ≡ count_of old.tables) ⊎ (count_of new.tables ≡ length ns)

-- the query and its counting tables are unchanged, and its tables are those of all nodes
pub record Grows (ns : List Node) (old new : TabledQuery) : Type 0 where
  pub may : MayGrow ns old new
  pub all : count_of new.tables ≡ length ns

-- the query and its counting tables are unchanged, and its tables are those of the same nodes
pub record Keeps (ns : List Node) (old new : TabledQuery) : Type 0 where
  pub may : MayGrow ns old new
  pub same : count_of new.tables ≡ count_of old.tables

-- the query and its tables are unchanged, and its counting tables are those of first nodes
pub record MayGrowCounts (ns : List Node) (old new : TabledQuery) : Type 0 where
  pub query : new.query ≡ old.query
  pub tables : new.tables ≡ old.tables
  pub sound : IsSound new
  pub served : IsServed ns new

-- the query and its tables are unchanged, and its counting tables are those of all nodes
pub record GrowsCounts (ns : List Node) (old new : TabledQuery) : Type 0 where
  pub may : MayGrowCounts ns old new
  pub all : counts_in new ≡ Some (length ns)

-- the query and its tables are unchanged, and its counting tables are those of the same nodes
pub record KeepsCounts (ns : List Node) (old new : TabledQuery) : Type 0 where
  pub may : MayGrowCounts ns old new
  pub same : counted new ≡ counted old

-- the value at this index changes to one that R allows, and the others are unchanged
pub record ChangesAt (R : TabledQuery → TabledQuery → Type 0) (index : ℕ) (old new : Named TabledQuery) : Type 0 where
  pub before : TabledQuery
  pub after : TabledQuery
  pub there : option_map (λ p. p.1) (slice_get old index) ≡ Some before
  pub set : new ≡ with_value old index after
  pub allowed : R before after

-- the value of this name changes to one that R allows, and the others are unchanged
pub record ChangesNamed (R : TabledQuery → TabledQuery → Type 0) (name : List ℕ) (old new : Named TabledQuery) : Type 0 where
  pub before : TabledQuery
  pub after : TabledQuery
  pub there : value_of old name ≡ Some before
  pub set : new ≡ put old name after
  pub allowed : R before after

-- why the tables of the query of this name aren't computed: it doesn't exist, or an allocation failed, and then the query
-- changes to one that R allows
abbrev pub Fails : (TabledQuery → TabledQuery → Type 0) → List ℕ → Named TabledQuery → Named TabledQuery → BookRefusal → Type 0
Fails R name old new NoSuchQuery = (value_of old name ≡ None) × (new ≡ old)
Fails R name old new NoMemory = ChangesNamed R name old new

-- the same if they are tables
abbrev pub CannotGrow : List Node → List ℕ → Named TabledQuery → Named TabledQuery → BookRefusal → Type 0
CannotGrow ns = Fails (Keeps ns)

-- the same if they are counting tables
abbrev pub CannotCount : List Node → List ℕ → Named TabledQuery → Named TabledQuery → BookRefusal → Type 0
CannotCount ns = Fails (KeepsCounts ns)

-- the first value of this name is at the index
pub record IsIndexOf (ps : Named TabledQuery) (name : List ℕ) (index : ℕ) : Type 0 where
  pub within : index < length ps
  pub value : option_map (λ p. p.1) (slice_get ps index) ≡ value_of ps name
  pub set : (v : TabledQuery) → with_value ps index v ≡ put ps name v

-- each of the first n values changes to one that R allows, and the others are unchanged
abbrev pub ChangesFirst : (TabledQuery → TabledQuery → Type 0) → ℕ → Named TabledQuery → Named TabledQuery → Type 0
ChangesFirst R zero ps qs = qs ≡ ps
ChangesFirst R (suc n) [] qs = qs ≡ []
ChangesFirst R (suc n) (p ∷ ps) [] = ⊥
ChangesFirst R (suc n) (p ∷ ps) (q ∷ qs) = (q.0 ≡ p.0) × R p.1 q.1 × ChangesFirst R n ps qs
