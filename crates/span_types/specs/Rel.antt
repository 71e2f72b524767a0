-- What a query tree means on a text.
use Rattle.std.specs.Prelude.{◌≡◌, ℕ, ◌+◌, ◌==◌, ◌&&◌, ◌||◌, ◌↔◌, ◌⊎◌, Bool, true, false, List, [], ◌∷◌, ◌++◌, length, Option, None, Contains, if◌then◌else◌}
use Rattle.span_types.specs.declared.tuple.Span.{Span}
use Rattle.span_types.specs.Query.{Query, Leaf, Union, Join, Project}
use Rattle.span_types.specs.Marks.{spans_of}
use Rattle.span_types.specs.Fits.{Fits}
use Rattle.span_types.specs.Answers.{IsRising}

-- a span or none for each name
abbrev pub Assignment : Type 0
Assignment = List ℕ → Option Span

-- whether two names have the same bytes
abbrev pub same_name : List ℕ → List ℕ → Bool
same_name [] [] = true
same_name [] (y ∷ ys) = false
same_name (x ∷ xs) [] = false
same_name (x ∷ xs) (y ∷ ys) = (x == y) && same_name xs ys

-- whether a name is in the list
abbrev pub has_name : List (List ℕ) → List ℕ → Bool
has_name [] n = false
has_name (m ∷ ms) n = same_name m n || has_name ms n

-- a tuple, read by names
abbrev pub named : List (List ℕ) → List (Option Span) → Assignment
named [] t n = None
named (m ∷ ms) [] n = None
named (m ∷ ms) (x ∷ t) n = if same_name m n then x else named ms t n

-- the names that the others lack
abbrev pub lacking : List (List ℕ) → List (List ℕ) → List (List ℕ)
lacking others [] = []
lacking others (n ∷ ns) = if has_name others n then lacking others ns else n ∷ lacking others ns

-- VarsOf: the names of a query's variables in number order
abbrev pub names_of : Query → List (List ℕ)
names_of (Leaf f names) = names
names_of (Union a b) = names_of a ++ lacking (names_of a) (names_of b)
names_of (Join a b) = names_of a ++ lacking (names_of a) (names_of b)
names_of (Project a names) = names

-- a tuple with the property P, read by the names
pub record IsNamedAnswer (names : List (List ℕ)) (P : List (Option Span) → Type 0) (r : Assignment) : Type 0 where
  pub tuple : List (Option Span)
  pub size : length tuple ≡ length names
  pub fits : P tuple
  pub read : (n : List ℕ) → r n ≡ named names tuple n

-- the union of two assignments that agree on every name of both
pub record IsUnion (left right : List (List ℕ)) (P Q : Assignment → Type 0) (r : Assignment) : Type 0 where
  pub first : Assignment
  pub second : Assignment
  pub in_left : P first
  pub in_right : Q second
  pub agree : (n : List ℕ) → has_name left n ≡ true → has_name right n ≡ true → first n ≡ second n
  pub left_is : (n : List ℕ) → has_name left n ≡ true → r n ≡ first n
  pub right_is : (n : List ℕ) → has_name right n ≡ true → r n ≡ second n
  pub no_other : (n : List ℕ) → has_name left n ≡ false → has_name right n ≡ false → r n ≡ None

-- an assignment restricted to a list of names
pub record IsRestriction (names : List (List ℕ)) (P : Assignment → Type 0) (r : Assignment) : Type 0 where
  pub whole : Assignment
  pub in_whole : P whole
  pub kept : (n : List ℕ) → has_name names n ≡ true → r n ≡ whole n
  pub no_other : (n : List ℕ) → has_name names n ≡ false → r n ≡ None

-- Rel: the assignments of spans to names that are the answers of a query on the text s
abbrev pub Rel : Query → List ℕ → Assignment → Type 0
Rel (Leaf f names) s r = IsNamedAnswer names (λ t. Fits f s 1 (length s + 1) (spans_of t)) r
Rel (Union a b) s r = Rel a s r ⊎ Rel b s r
Rel (Join a b) s r = IsUnion (names_of a) (names_of b) (Rel a s) (Rel b s) r
Rel (Project a names) s r = IsRestriction names (Rel a s) r

-- AnswersQ: the list in mark order over VarsOf whose members are exactly those of Rel
pub record IsAnswersOf (q : Query) (s : List ℕ) (ts : List (List (Option Span))) : Type 0 where
  pub rising : IsRising ts
  pub members : (t : List (Option Span)) → Contains ts t ↔ (length t ≡ length (names_of q)) × Rel q s (named (names_of q) t)
