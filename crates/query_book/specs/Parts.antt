-- What a returned automaton guarantees for its query.
use Rattle.std.specs.Prelude.{ℕ, ◌≤◌, ◌<◌, ◌↔◌, List, length, All}
use Rattle.span_types.specs.Query.{Query}
use Rattle.span_types.specs.Rel.{IsAnswersOf}
use Rattle.marker_dfa.specs.Deterministic.{DeterministicAutomaton}
use Rattle.span_enum.specs.Members.{Tuple, AreAnswersOf}
use Rattle.query_book.specs.Answers.{Defines}

-- the automaton has the query's variables, and on texts of at most 2^48 bytes its answers are the query's, which form a
-- list
pub record HasAnswersOf (a : DeterministicAutomaton) (q : Query) : Type 0 where
  pub defines : Defines q a
  pub same : (s : List ℕ) (ts : List Tuple) → length s ≤ 281474976710656 → AreAnswersOf a s ts ↔ IsAnswersOf q s ts
  pub list : (s : List ℕ) → All (λ b. b < 256) s → length s ≤ 281474976710656 → (ts : List Tuple) × IsAnswersOf q s ts
