-- The texts of tuples.
use Rattle.std.specs.Prelude.{◌≡◌, ◌≢◌, ℕ, List, [], ◌∷◌, ◌++◌, Option, Some, None, length, codes}
use Rattle.std.specs.Fmt.{decimal}
use Rattle.span_types.specs.declared.tuple.Span.{Span}
use Rattle.span_types.specs.Places.{AreSpans}
use Rattle.line_parts.specs.NameList.{AreNames}

-- `NUM,NUM)`
abbrev pub bounds_text : Span → List ℕ
bounds_text span = decimal span.start ++ 44 ∷ (decimal span.end ++ 41 ∷ [])

-- `-` for a variable without a span, otherwise `[NUM,NUM)`
abbrev pub value_text : Option Span → List ℕ
value_text None = 45 ∷ []
value_text (Some span) = 91 ∷ bounds_text span

-- `NAME=-` or `NAME=[NUM,NUM)`
abbrev pub entry_text : List ℕ → Option Span → List ℕ
entry_text name value = name ++ 61 ∷ value_text value

-- entries with a comma before each
abbrev pub more_text : List (List ℕ) → List (Option Span) → List ℕ
more_text [] values = []
more_text (name ∷ names) [] = []
more_text (name ∷ names) (value ∷ values) = 44 ∷ (entry_text name value ++ more_text names values)

-- `()`, or one or more entries with a comma between each two
abbrev pub tuple_text : List (List ℕ) → List (Option Span) → List ℕ
tuple_text [] values = codes "()"
tuple_text (name ∷ names) [] = codes "()"
tuple_text (name ∷ names) (value ∷ values) = entry_text name value ++ more_text names values

-- the text has an entry for each of these names, in order, with its span or none
pub record TupleText (text : List ℕ) (names : List (List ℕ)) (values : List (Option Span)) : Type 0 where
  pub named : AreNames names
  pub spans : AreSpans values
  pub paired : length names ≡ length values
  pub written : text ≡ tuple_text names values

-- the text is one of some names
abbrev pub IsTupleText : List ℕ → Type 0
IsTupleText text = (names : List (List ℕ)) × (values : List (Option Span)) × TupleText text names values

-- the text is one of other names than these
abbrev pub HasOtherNames : List ℕ → List (List ℕ) → Type 0
HasOtherNames text vars = (names : List (List ℕ)) × (values : List (Option Span)) × TupleText text names values × (names ≢ vars)

-- a text is read in one way
abbrev pub OneTuple : Type 0
OneTuple = (text : List ℕ) (names others : List (List ℕ)) (values rest : List (Option Span)) → TupleText text names values → TupleText text others rest
    → (names ≡ others) × (values ≡ rest)
