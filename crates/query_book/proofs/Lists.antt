-- The answers of a query form a list.
use Rattle.std.proofs.Common.{◌≡◌, ℕ, ◌<◌, ◌≤◌, sym, subst, ◌∙◌, List, length, Option, Some, None, All}
use Rattle.span_types.specs.Query.{Query}
use Rattle.span_types.specs.Rel.{IsAnswersOf}
use Rattle.span_types.specs.Places.{IsTuple}
use Rattle.marker_dfa.specs.Deterministic.{DeterministicAutomaton, IsDeterministic}
use Rattle.span_enum.specs.Members.{Tuple, AreAnswersOf}
use Rattle.span_enum.proofs.Exists.{answers-exist}
use Rattle.span_enum.proofs.Pages.{after-none, after-tuple, member-tuple}
use Rattle.query_book.specs.Named.{Named, value_of}
use Rattle.query_book.specs.Answers.{Defines, HasList, IfNamed}

pub if-named : (queries : Named Query) (name : List ℕ) (P : Query → Type 0) (q : Query) → value_of queries name ≡ Some q → P q → IfNamed queries name P
if-named queries name P q there h other is =
    let both : Some q ≡ Some other = sym there ∙ is in
    let same : q ≡ other = cc both in
    subst P same h

pub if-missing : (queries : Named Query) (name : List ℕ) (P : Query → Type 0) → value_of queries name ≡ None → IfNamed queries name P
if-missing queries name P missing other is =
    let both : ◌≡◌ {A = Option Query} None (Some other) = sym missing ∙ is in
    let bad : ⊥ = cc both in absurd bad

module _ (q : Query) (a : DeterministicAutomaton) (s : List ℕ) (defines : Defines q a) (auto : IsDeterministic a) (bytes : All (λ b. b < 256) s) (short : length s ≤ 281474976710656) where
  answers-of : (all : List Tuple) → AreAnswersOf a s all → IsAnswersOf q s all
  answers-of all are = record {
    rising = are.rising;
    members = λ t. (λ m. (defines.answers s t short).1 ((are.members t).0 m), λ m. (are.members t).1 ((defines.answers s t short).0 m));
  }

  pub list-none : HasList s None q
  list-none = let l = answers-exist a auto s bytes short in record { all = l.0; rest = l.0; answers = answers-of l.0 l.1; after = after-none l.0 }

  pub list-after : (t : Tuple) → IsTuple t → length t ≡ a.variables → HasList s (Some t) q
  list-after t is size =
      let l = answers-exist a auto s bytes short in
      let r = after-tuple a s l.0 l.1 t is size (member-tuple a s auto short) in
      record { all = l.0; rest = r.0; answers = answers-of l.0 l.1; after = r.1 }
