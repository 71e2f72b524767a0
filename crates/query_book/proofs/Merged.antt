-- Automata that accept the same define the same query.
use Rattle.std.proofs.Common.{ℕ, List, sym, ◌∙◌}
use Rattle.span_types.specs.Query.{Query}
use Rattle.formula_law.specs.Accepts.{marked_text}
use Rattle.marker_dfa.specs.Deterministic.{DeterministicAutomaton}
use Rattle.marker_dfa.specs.Merging.{AcceptsAlike}
use Rattle.span_enum.specs.Members.{Tuple, IsMember}
use Rattle.query_book.specs.Answers.{Defines}

module _ (d e : DeterministicAutomaton) (alike : AcceptsAlike d e) where
  member-to : (s : List ℕ) (t : Tuple) → IsMember d s t → IsMember e s t
  member-to s t m = record { size = m.size ∙ sym alike.variables; lies = m.lies; accepted = (alike.texts (marked_text s t)).1 m.accepted }

  member-from : (s : List ℕ) (t : Tuple) → IsMember e s t → IsMember d s t
  member-from s t m = record { size = m.size ∙ alike.variables; lies = m.lies; accepted = (alike.texts (marked_text s t)).0 m.accepted }

  pub alike-defines : (q : Query) → Defines q d → Defines q e
  alike-defines q h = record {
    variables = alike.variables ∙ h.variables;
    answers = λ s t short. ((λ a. member-to s t ((h.answers s t short).0 a)), (λ m. (h.answers s t short).1 (member-from s t m)));
  }
