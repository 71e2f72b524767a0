-- Words as tuples of a query's variables.
use Rattle.std.specs.Prelude.{◌≡◌, ◌⊎◌, ℕ, List}
use Rattle.script_syntax.specs.declared.form.ListStart.{ListStart}
use Rattle.script_syntax.specs.declared.form.ListStart.TheVariants.{After}
use Rattle.span_types.specs.Query.{Query}
use Rattle.span_types.specs.Rel.{names_of}
use Rattle.span_cursor.specs.Tuples.{HasOtherNames, IsTupleText}
use Rattle.report_text.specs.declared.refusal.Refusal.{Refusal}
use Rattle.report_text.specs.declared.refusal.Refusal.TheVariants.{BadTuple, OtherVariables}

-- why a word is rejected as a tuple of the query's variables: the first reason
abbrev pub IsTupleRefused : Query → List ℕ → Refusal → Type 0
IsTupleRefused q word why = ((IsTupleText word → ⊥) × (why ≡ BadTuple)) ⊎ (HasOtherNames word (names_of q) × (why ≡ OtherVariables))

-- why the start of a listing is rejected: the first reason
abbrev pub IsStartRefused : Query → ListStart → Refusal → Type 0
IsStartRefused q (After word) why = IsTupleRefused q word why
IsStartRefused q _ why = ⊥
