-- Operations on queries by name.
use Rattle.std.specs.Prelude.{◌≡◌, ◌⊎◌, ℕ, suc, ◌+◌, ◌<◌, ◌≤◌, List, length, None}
use Rattle.span_types.specs.Query.{Query, Leaf, Union, Join, Project}
use Rattle.span_types.specs.Rel.{names_of}
use Rattle.span_algebra.specs.declared.refusal.AlgebraRefusal.{AlgebraRefusal}
use Rattle.span_algebra.specs.declared.refusal.AlgebraRefusal.TheVariants as algebra
use Rattle.query_book.specs.Named.{Named, value_of}
use Rattle.query_book.specs.Answers.{IsNamed}
use Rattle.query_book.specs.Keeping.{IsVarsText, HasOther, IsKeepRefused}
use Rattle.span_algebra.specs.Trees.{TreeCountIsAbove}
use Rattle.query_book.specs.declared.refusal.CombineRefusal.{CombineRefusal}
use Rattle.query_book.specs.declared.refusal.CombineRefusal.TheVariants.{NoSuchQuery, QueryTooLarge, OtherVariables, TooManyVariables, TooManyStates, NoMemory}

-- the leaves and operations of a query
abbrev pub parts_of : Query → ℕ
parts_of (Leaf f names) = 1
parts_of (Union a b) = suc (parts_of a + parts_of b)
parts_of (Join a b) = suc (parts_of a + parts_of b)
parts_of (Project a names) = suc (parts_of a)

-- a query within the limits: 128 parts, eight variables and this many reachable sets of states
pub record IsAccepted (most : ℕ) (q : Query) : Type 0 where
  pub few_parts : parts_of q ≤ 128
  pub few_names : length (names_of q) ≤ 8
  pub few : TreeCountIsAbove most q → ⊥

-- the first limit that a query exceeds
abbrev pub IsPast : ℕ → Query → CombineRefusal → Type 0
IsPast most q (NoSuchQuery name) = ⊥
IsPast most q (QueryTooLarge parts) = (parts ≡ parts_of q) × (128 < parts)
IsPast most q OtherVariables = ⊥
IsPast most q TooManyVariables = (parts_of q ≤ 128) × (8 < length (names_of q))
IsPast most q TooManyStates = (parts_of q ≤ 128) × (length (names_of q) ≤ 8) × TreeCountIsAbove most q
IsPast most q NoMemory = Unit {0}

-- both names have queries, and P holds of the tree over them
abbrev pub HasPair : (Query → Query → Query) → Named Query → List ℕ → List ℕ → (Query → Type 0) → Type 0
HasPair Tree queries left right P = IsNamed queries left (λ p. IsNamed queries right (λ q. P (Tree p q)))

-- no query has the name, and the rejection is that; an allocation may fail at any time
abbrev pub IsAbsent : Named Query → List ℕ → CombineRefusal → Type 0
IsAbsent queries wanted (NoSuchQuery name) = (name ≡ wanted) × (value_of queries wanted ≡ None)
IsAbsent queries wanted (QueryTooLarge parts) = ⊥
IsAbsent queries wanted OtherVariables = ⊥
IsAbsent queries wanted TooManyVariables = ⊥
IsAbsent queries wanted TooManyStates = ⊥
IsAbsent queries wanted NoMemory = Unit {0}

-- why the tree over the queries of two names isn't registered: the left query doesn't exist, or the right one doesn't,
-- or the tree exceeds a limit
abbrev pub IsPairRefused : ℕ → (Query → Query → Query) → Named Query → List ℕ → List ℕ → CombineRefusal → Type 0
IsPairRefused most Tree queries left right why = IsAbsent queries left why ⊎ IsNamed queries left (λ p. IsAbsent queries right why ⊎ IsNamed queries right (λ q. IsPast most (Tree p q) why))

-- P holds of the projection of a query to the names of a text
abbrev pub HasProjection : Query → List ℕ → (Query → Type 0) → Type 0
HasProjection q keep P = (names : List (List ℕ)) × IsVarsText keep names × (HasOther (names_of q) names → ⊥) × P (Project q names)

-- why the projection of a query to the names of a text isn't registered
abbrev pub IsProjectionPast : ℕ → Query → List ℕ → CombineRefusal → Type 0
IsProjectionPast most q keep (NoSuchQuery name) = ⊥
IsProjectionPast most q keep (QueryTooLarge parts) = (parts ≡ suc (parts_of q)) × (128 < parts)
IsProjectionPast most q keep OtherVariables = (suc (parts_of q) ≤ 128) × IsKeepRefused (names_of q) keep OtherVariables
IsProjectionPast most q keep TooManyVariables = ⊥
IsProjectionPast most q keep TooManyStates = HasProjection q keep (λ p. IsPast most p TooManyStates)
IsProjectionPast most q keep NoMemory = Unit {0}

-- the same by name: the source doesn't exist, or its projection exceeds a limit
abbrev pub IsProjectRefused : ℕ → Named Query → List ℕ → List ℕ → CombineRefusal → Type 0
IsProjectRefused most queries source keep why = IsAbsent queries source why ⊎ IsNamed queries source (λ q. IsProjectionPast most q keep why)

-- a rejection of the algebra, as one of the registry
abbrev pub refusal_of : AlgebraRefusal → CombineRefusal
refusal_of algebra.TooManyVariables = TooManyVariables
refusal_of algebra.TooManyStates = TooManyStates
refusal_of algebra.NoMemory = NoMemory
