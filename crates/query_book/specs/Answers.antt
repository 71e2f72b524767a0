-- The answers of a query, and the automata that accept them.
use Rattle.std.specs.Prelude.{◌≡◌, ℕ, ◌≤◌, ◌↔◌, List, length, Option, Some, None}
use Rattle.span_types.specs.Fibonacci.{looks_limit}
use Rattle.span_types.specs.Query.{Query}
use Rattle.span_types.specs.Rel.{Rel, IsAnswersOf, named, names_of}
use Rattle.span_types.specs.Answers.{IsAfter}
use Rattle.marker_dfa.specs.Deterministic.{DeterministicAutomaton}
use Rattle.span_enum.specs.Members.{Tuple, IsMember}
use Rattle.span_enum.specs.Listing.{Listing}
use Rattle.query_book.specs.Named.{Named, value_of}

-- t is a member of AnswersQ(q, s)
abbrev pub IsAnswer : Query → List ℕ → Tuple → Type 0
IsAnswer q s t = (length t ≡ length (names_of q)) × Rel q s (named (names_of q) t)

-- AnswersQ(q, s) has a member
abbrev pub HasAnswer : Query → List ℕ → Type 0
HasAnswer q s = (t : Tuple) × IsAnswer q s t

-- the automaton has the query's variables, and on texts of at most 2^48 bytes it accepts exactly the query's answers
pub record Defines (q : Query) (a : DeterministicAutomaton) : Type 0 where
  pub variables : a.variables ≡ length (names_of q)
  pub answers : (s : List ℕ) (t : Tuple) → length s ≤ 281474976710656 → IsAnswer q s t ↔ IsMember a s t

-- an iterator over the query's answers on the text, positioned at the cursor
pub record IsListingOf (s : List ℕ) (cursor : Option Tuple) (listing : Listing) (q : Query) : Type 0 where
  pub text : listing.text ≡ s
  pub after : listing.after ≡ cursor
  pub defines : Defines q listing.automaton
  pub members : (t : Tuple) → IsAnswer q s t ↔ IsMember listing.automaton s t

-- the query's answers on the text form an ascending list, and so do those after the cursor
pub record HasList (s : List ℕ) (cursor : Option Tuple) (q : Query) : Type 0 where
  pub all : List Tuple
  pub rest : List Tuple
  pub answers : IsAnswersOf q s all
  pub after : IsAfter all cursor rest

-- there is a query of this name, and P holds of it
pub record IsNamed (queries : Named Query) (name : List ℕ) (P : Query → Type 0) : Type 0 where
  pub query : Query
  pub there : value_of queries name ≡ Some query
  pub holds : P query

-- P holds of the query of this name, if there is one
abbrev pub IfNamed : Named Query → List ℕ → (Query → Type 0) → Type 0
IfNamed queries name P = (q : Query) → value_of queries name ≡ Some q → P q

-- the tuple has the variables of the query of this name, if there is one
abbrev pub HasVariablesOf : Named Query → List ℕ → Tuple → Type 0
HasVariablesOf queries name t = IfNamed queries name (λ q. length t ≡ length (names_of q))

-- the bound on table lookups for one answer of the query on the text, if the query exists
abbrev pub most_looks : Option Query → List ℕ → ℕ
most_looks None s = 0
most_looks (Some q) s = looks_limit (length (names_of q)) (length s)
