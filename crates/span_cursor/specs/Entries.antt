-- Entries at the start of a text.
use Rattle.std.specs.Prelude.{◌≡◌, ℕ, List, ◌∷◌, ◌++◌, Option, length}
use Rattle.span_types.specs.declared.tuple.Span.{Span}
use Rattle.span_types.specs.Places.{AreSpans, IsSpanOr}
use Rattle.line_parts.specs.NameList.{AreNames, IsName}
use Rattle.span_cursor.specs.Tuples.{entry_text, more_text}

-- the text is an entry and a rest
pub record Entry (text name : List ℕ) (value : Option Span) (rest : List ℕ) : Type 0 where
  pub named : IsName name
  pub spanned : IsSpanOr value
  pub written : text ≡ entry_text name value ++ rest

-- the text is a comma, an entry and a rest
pub record NextEntry (text name : List ℕ) (value : Option Span) (rest : List ℕ) : Type 0 where
  pub named : IsName name
  pub spanned : IsSpanOr value
  pub written : text ≡ 44 ∷ (entry_text name value ++ rest)

-- the text is entries with a comma before each
abbrev pub IsMore : List ℕ → Type 0
IsMore text = (names : List (List ℕ)) × (values : List (Option Span)) × AreNames names × AreSpans values × (length names ≡ length values) × (text ≡ more_text names values)
