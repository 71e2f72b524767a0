-- The answers of a returned automaton.
use Rattle.std.proofs.Common.{◌≤◌, ℕ, List, length}
use Rattle.span_types.specs.Query.{Query}
use Rattle.span_types.specs.Rel.{IsAnswersOf}
use Rattle.marker_dfa.specs.Deterministic.{DeterministicAutomaton, IsDeterministic}
use Rattle.span_enum.specs.Members.{Tuple, AreAnswersOf}
use Rattle.query_book.specs.Answers.{Defines}
use Rattle.query_book.specs.Parts.{HasAnswersOf}
use Rattle.query_book.proofs.Lists.{list-none}

module _ (q : Query) (a : DeterministicAutomaton) (defines : Defines q a) where
  pub query-list : (s : List ℕ) (ts : List Tuple) → length s ≤ 281474976710656 → AreAnswersOf a s ts → IsAnswersOf q s ts
  query-list s ts short are = record {
    rising = are.rising;
    members = λ t. (λ m. (defines.answers s t short).1 ((are.members t).0 m), λ m. (are.members t).1 ((defines.answers s t short).0 m));
  }

  own-list : (s : List ℕ) (ts : List Tuple) → length s ≤ 281474976710656 → IsAnswersOf q s ts → AreAnswersOf a s ts
  own-list s ts short is = record {
    rising = is.rising;
    members = λ t. (λ m. (defines.answers s t short).0 ((is.members t).0 m), λ m. (is.members t).1 ((defines.answers s t short).1 m));
  }

  pub has-answers : IsDeterministic a → HasAnswersOf a q
  has-answers auto = record {
    defines = defines;
    same = λ s ts short. (query-list s ts short, own-list s ts short);
    list = λ s bytes short. let l = list-none q a s defines auto bytes short in (l.all, l.answers);
  }
