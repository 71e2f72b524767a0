-- Numbers of answers of a query, and the answers from a position on.
use Rattle.std.specs.Prelude.{◌≡◌, ℕ, ◌-◌, List, length, drop, Option, IfSome}
use Rattle.span_types.specs.Query.{Query}
use Rattle.span_types.specs.Rel.{IsAnswersOf, names_of}
use Rattle.span_types.specs.Answers.{IsAfter}
use Rattle.span_enum.specs.Members.{Tuple}
use Rattle.span_enum.specs.Listing.{Listing}
use Rattle.path_counts.specs.Paths.{stopped}
use Rattle.count_tables.specs.Rank.{CountsBefore}
use Rattle.query_book.specs.Answers.{IsListingOf}

-- Number: how many answers the query has on the text
pub record IsNumberOf (q : Query) (s : List ℕ) (n : ℕ) : Type 0 where
  pub all : List Tuple
  pub answers : IsAnswersOf q s all
  pub number : n ≡ length all

-- Rank: how many of the query's answers on the text come before the tuple
pub record IsRankOf (q : Query) (s : List ℕ) (t : Tuple) (n : ℕ) : Type 0 where
  pub all : List Tuple
  pub answers : IsAnswersOf q s all
  pub before : CountsBefore all t n

-- r is the number with the property P, or 2^64 - 1 if that number is greater
pub record IsSaturated (P : ℕ → Type 0) (r : ℕ) : Type 0 where
  pub number : ℕ
  pub holds : P number
  pub value : r ≡ stopped number

-- an iterator over the query's answers on the text from the one at position m on, counted from 1
pub record IsListingAt (s : List ℕ) (m : ℕ) (listing : Listing) (q : Query) : Type 0 where
  pub cursor : Option Tuple
  pub iterator : IsListingOf s cursor listing q
  pub all : List Tuple
  pub answers : IsAnswersOf q s all
  pub after : IsAfter all cursor (drop (m - 1) all)

-- a cursor before the query's answer at position m, counted from 1, or past all answers if there are fewer
pub record IsCursorAt (s : List ℕ) (m : ℕ) (q : Query) (cursor : Option Tuple) : Type 0 where
  pub variables : IfSome cursor (λ t. length t ≡ length (names_of q))
  pub all : List Tuple
  pub answers : IsAnswersOf q s all
  pub after : IsAfter all cursor (drop (m - 1) all)
