-- The start of a listing.
use Rattle.std.specs.Prelude.{◌≡◌, ◌⊎◌, ℕ, ◌+◌, ◌-◌, ◌*◌, ◌≤◌, List, None, Option, Some, Result, Ok, Err, IfOk, MatchResult, drop}
use Rattle.script_syntax.specs.declared.form.ListStart.{ListStart}
use Rattle.script_syntax.specs.declared.form.ListStart.TheVariants.{First, After, At}
use Rattle.span_types.specs.declared.refusal.NoMemory.{NoMemory}
use Rattle.span_types.specs.Answers.{IsAfter}
use Rattle.span_types.specs.Query.{Query}
use Rattle.span_types.specs.Rel.{IsAnswersOf, names_of}
use Rattle.span_cursor.specs.Tuples.{TupleText}
use Rattle.span_enum.specs.Listing.{Listing}
use Rattle.span_enum.specs.Members.{Tuple}
use Rattle.query_book.specs.Answers.{IsListingOf}
use Rattle.report_text.specs.declared.refusal.Refusal.{Refusal}
use Rattle.span_language.specs.Allowance.{answer_limit, more_answers}
use Rattle.span_language.specs.Cursors.{IsStartRefused}

-- the rest is what is left of all answers from the start on
abbrev pub IsRestFrom : Query → ListStart → List Tuple → List Tuple → Type 0
IsRestFrom q First all rest = IsAfter all None rest
IsRestFrom q (After word) all rest = (cursor : Tuple) × TupleText word (names_of q) cursor × IsAfter all (Some cursor) rest
IsRestFrom q (At m) all rest = rest ≡ drop (m - 1) all

-- an iterator over the query's answers on the text, of which the rest is left
pub record IsOver (q : Query) (text : List ℕ) (all rest : List Tuple) (listing : Listing) : Type 0 where
  pub cursor : Option Tuple
  pub iterator : IsListingOf text cursor listing q
  pub after : IsAfter all cursor rest

-- the query's answers on the text from the start on, and the cost of an iterator over them, which is one answer less than a
-- listing costs beside its own
pub record Starts (q : Query) (text : List ℕ) (start : ListStart) (result : Result (Result Listing Refusal) NoMemory) (before after : ℕ) : Type 0 where
  pub all : List Tuple
  pub rest : List Tuple
  pub answers : IsAnswersOf q text all
  pub from : IsRestFrom q start all rest
  pub found : IfOk result (λ found. MatchResult found (IsOver q text all rest) (λ _. ⊥))
  pub cost : after + answer_limit q text ≤ before + more_answers start * answer_limit q text

-- an iterator from the start on, or why the start is rejected
abbrev pub Begins : Query → List ℕ → ListStart → Result (Result Listing Refusal) NoMemory → ℕ → ℕ → Type 0
Begins q text start result before after = Starts q text start result before after
    ⊎ ((why : Refusal) × IsStartRefused q start why × (result ≡ Ok (Err why)) × (after ≡ before))
