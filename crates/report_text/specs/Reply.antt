-- The texts of replies and rejections, each with its newline.
use Rattle.std.specs.Prelude.{ℕ, ◌==◌, ◌&&◌, List, [], ◌∷◌, ◌++◌, codes, if◌then◌else◌, nat_le, nat_lt, ◌+◌, ◌/◌, ◌%◌}
use Rattle.std.specs.List.{flat_map}
use Rattle.std.specs.Fmt.{decimal}
use Rattle.report_text.specs.declared.refusal.Refusal.{Refusal}
use Rattle.report_text.specs.declared.refusal.Refusal.TheVariants.{Syntax, NoSuchDocument, NoSuchQuery, OutOfRange, TooLong, RangeTooWide, FormulaTooLong, BadFormula, TooDeep, TooManyPositions, TooManyVariables, NotFunctional, TooManyStates, BadTuple, OtherVariables, NoSuchFile, FileTooLong, CannotRead, CannotWrite, BadImage, QueryTooLarge, NotOneVariable, TooManyMatches, NoSuchVersion, TooManyAnswers}

-- the hexadecimal digit for a number from 0 to 15, in lower case
abbrev pub hex_digit : ℕ → ℕ
hex_digit d = if nat_lt d 10 then 48 + d else 87 + d

-- a byte between quotes
abbrev pub shown_byte : ℕ → List ℕ
shown_byte b = if b == 34 then 92 ∷ 34 ∷ []
    else (if b == 92 then 92 ∷ 92 ∷ []
    else (if nat_le 32 b && nat_le b 126 then b ∷ []
    else 92 ∷ 120 ∷ hex_digit (b / 16) ∷ hex_digit (b % 16) ∷ []))

-- the bytes between quotes, each as `shown_byte` writes it
abbrev pub quoted : List ℕ → List ℕ
quoted bytes = 34 ∷ flat_map shown_byte bytes ++ 34 ∷ []

-- `ok NAME LEN "HEAD"`
abbrev pub doc_text : List ℕ → ℕ → List ℕ → List ℕ
doc_text name len head = codes "ok " ++ name ++ 32 ∷ decimal len ++ 32 ∷ quoted head ++ 10 ∷ []

-- `NAME LEN`
abbrev pub name_text : List ℕ → ℕ → List ℕ
name_text name len = name ++ 32 ∷ decimal len ++ 10 ∷ []

-- `"BYTES"`
abbrev pub shown_text : List ℕ → List ℕ
shown_text bytes = quoted bytes ++ 10 ∷ []

-- a space before each name
abbrev pub after_space : List ℕ → List ℕ
after_space name = 32 ∷ name

-- `ok NAME`, then the variables
abbrev pub query_text : List ℕ → List (List ℕ) → List ℕ
query_text name vars = codes "ok " ++ name ++ flat_map after_space vars ++ 10 ∷ []

-- `ok DOCS NODES`
abbrev pub saved_text : ℕ → ℕ → List ℕ
saved_text docs nodes = codes "ok " ++ decimal docs ++ 32 ∷ decimal nodes ++ 10 ∷ []

-- `ok DOCS`
abbrev pub opened_text : ℕ → List ℕ
opened_text docs = codes "ok " ++ decimal docs ++ 10 ∷ []

-- `ok LEN`
abbrev pub written_text : ℕ → List ℕ
written_text len = codes "ok " ++ decimal len ++ 10 ∷ []

-- `NUMBER`
abbrev pub number_text : ℕ → List ℕ
number_text number = decimal number ++ 10 ∷ []

-- the word of a rejection and its values, each after a space
abbrev pub why_text : Refusal → List ℕ
why_text Syntax = codes "Syntax"
why_text (NoSuchDocument name) = codes "NoSuchDocument " ++ name
why_text (NoSuchQuery name) = codes "NoSuchQuery " ++ name
why_text (OutOfRange first last len) = codes "OutOfRange " ++ decimal first ++ 32 ∷ decimal last ++ 32 ∷ decimal len
why_text (TooLong len) = codes "TooLong " ++ decimal len
why_text (RangeTooWide width) = codes "RangeTooWide " ++ decimal width
why_text (FormulaTooLong len) = codes "FormulaTooLong " ++ decimal len
why_text BadFormula = codes "BadFormula"
why_text TooDeep = codes "TooDeep"
why_text TooManyPositions = codes "TooManyPositions"
why_text TooManyVariables = codes "TooManyVariables"
why_text (NotFunctional name) = codes "NotFunctional " ++ name
why_text TooManyStates = codes "TooManyStates"
why_text BadTuple = codes "BadTuple"
why_text OtherVariables = codes "OtherVariables"
why_text (NoSuchFile file) = codes "NoSuchFile " ++ file
why_text (FileTooLong file) = codes "FileTooLong " ++ file
why_text (CannotRead file) = codes "CannotRead " ++ file
why_text (CannotWrite file) = codes "CannotWrite " ++ file
why_text (BadImage kind) = codes "BadImage " ++ decimal kind
why_text (QueryTooLarge parts) = codes "QueryTooLarge " ++ decimal parts
why_text (NotOneVariable count) = codes "NotOneVariable " ++ decimal count
why_text TooManyMatches = codes "TooManyMatches"
why_text (NoSuchVersion name) = codes "NoSuchVersion " ++ name
why_text TooManyAnswers = codes "TooManyAnswers"

-- `line N: WORD` and the values
abbrev pub refusal_text : ℕ → Refusal → List ℕ
refusal_text number why = codes "line " ++ decimal number ++ codes ": " ++ why_text why ++ 10 ∷ []
