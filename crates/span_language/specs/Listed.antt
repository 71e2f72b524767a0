-- The reply to a listing of a query's answers.
use Rattle.std.specs.Prelude.{◌≡◌, ℕ, ◌-◌, Bool, true, false, nat_lt, List, [], ◌∷◌, ◌++◌, Option, Some, None, codes, drop, length, take}
use Rattle.std.specs.List.{flat_map}
use Rattle.span_types.specs.Query.{Query}
use Rattle.span_types.specs.Rel.{IsAnswersOf, names_of}
use Rattle.span_types.specs.Answers.{IsPage}
use Rattle.span_enum.specs.Members.{Tuple}
use Rattle.script_syntax.specs.declared.form.ListStart.{ListStart}
use Rattle.script_syntax.specs.declared.form.ListStart.TheVariants.{First, After, At}
use Rattle.span_cursor.specs.Tuples.{TupleText, tuple_text}
use Rattle.span_language.specs.State.{Documents}

-- a tuple's line
abbrev pub tuple_line : List (List ℕ) → Tuple → List ℕ
tuple_line names t = tuple_text names t ++ 10 ∷ []

-- the line `more` if answers are left, otherwise `end`
abbrev pub last_line : Bool → List ℕ
last_line true = codes "more" ++ 10 ∷ []
last_line false = codes "end" ++ 10 ∷ []

-- a line for each tuple of a page, and then whether there are more
abbrev pub page_text : List (List ℕ) → List Tuple → Bool → List ℕ
page_text names page more = flat_map (tuple_line names) page ++ last_line more

-- the same for the first n of a list of tuples
abbrev pub first_page_text : List (List ℕ) → ℕ → List Tuple → List ℕ
first_page_text names n ts = page_text names (take n ts) (nat_lt n (length ts))

-- a page of the answers of a query on a text
pub record IsPageOf (q : Query) (s : List ℕ) (cursor : Option Tuple) (n : ℕ) (page : List Tuple) (more : Bool) : Type 0 where
  pub all : List Tuple
  pub answers : IsAnswersOf q s all
  pub is : IsPage all cursor n page more

-- PageAt: the first n answers of a query on a text from the m-th on, and whether there are more
pub record IsPageAt (q : Query) (s : List ℕ) (m n : ℕ) (page : List Tuple) (more : Bool) : Type 0 where
  pub all : List Tuple
  pub answers : IsAnswersOf q s all
  pub first : page ≡ take n (drop (m - 1) all)
  pub more_left : more ≡ nat_lt n (length (drop (m - 1) all))

-- the page of at most n answers from the start of a listing on: from the first one, after a tuple, or from the m-th on
abbrev pub IsPageFrom : Query → List ℕ → ListStart → ℕ → List Tuple → Bool → Type 0
IsPageFrom q s First n page more = IsPageOf q s None n page more
IsPageFrom q s (After word) n page more = (cursor : Tuple) × TupleText word (names_of q) cursor × IsPageOf q s (Some cursor) n page more
IsPageFrom q s (At m) n page more = IsPageAt q s m n page more

-- the reply is that of the page of at most n answers from the start on
pub record IsListReply (q : Query) (s : List ℕ) (start : ListStart) (n : ℕ) (reply : List ℕ) : Type 0 where
  pub page : List Tuple
  pub more : Bool
  pub page_is : IsPageFrom q s start n page more
  pub reply_is : reply ≡ page_text (names_of q) page more

-- the line of a document in a listing of all, and the last line
abbrev pub doc_line : List ℕ → List ℕ
doc_line name = codes "doc " ++ (name ++ 10 ∷ [])

-- the line `done`
abbrev pub done_line : List ℕ
done_line = codes "done" ++ 10 ∷ []

-- the reply has, for each document in order, its line and the page of at most n answers on its text; its last line is
-- `done`
abbrev pub AreListed : Query → ℕ → Documents → List ℕ → Type 0
AreListed q n [] reply = reply ≡ done_line
AreListed q n (d ∷ ds) reply = (page : List Tuple) × (more : Bool) × (rest : List ℕ) × IsPageOf q d.1 None n page more × AreListed q n ds rest
    × (reply ≡ doc_line d.0 ++ (page_text (names_of q) page more ++ rest))
