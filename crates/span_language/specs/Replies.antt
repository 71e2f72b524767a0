-- The replies of commands, and what they show of plain texts.
use Rattle.std.specs.Prelude.{◌≡◌, ℕ, ◌-◌, cond, nat_le, List, [], ◌∷◌, ◌++◌, length, take, codes, Result, Ok, Err}
use Rattle.std.specs.List.{flat_map}
use Rattle.std.specs.Option.{option_map_or}
use Rattle.span_types.specs.Ranges.{content, is_range}
use Rattle.report_text.specs.Reply.{doc_text, name_text}
use Rattle.report_text.specs.declared.refusal.Refusal.{Refusal}
use Rattle.report_text.specs.declared.refusal.Refusal.TheVariants.{NoSuchDocument, OutOfRange, TooLong, RangeTooWide}
use Rattle.edit_expr.specs.declared.refusal.EditRefusal.{EditRefusal}
use Rattle.edit_expr.specs.declared.refusal.EditRefusal.TheVariants as edit
use Rattle.span_language.specs.State.{Documents, value_of}

-- a line `ok`
abbrev pub ok_text : List ℕ
ok_text = codes "ok" ++ 10 ∷ []

-- a line `yes`, and a line `no`
abbrev pub yes_text : List ℕ
yes_text = codes "yes" ++ 10 ∷ []

-- the reply `no`
abbrev pub no_text : List ℕ
no_text = codes "no" ++ 10 ∷ []

-- the reply when a text was assigned to a name: its length and its first 32 bytes
abbrev pub given_text : List ℕ → List ℕ → List ℕ
given_text name text = doc_text name (length text) (take 32 text)

-- a document's line in a listing
abbrev pub entry_text : List ℕ × List ℕ → List ℕ
entry_text doc = name_text doc.0 (length doc.1)

-- a line for each document, and then `end`
abbrev pub names_text : Documents → List ℕ
names_text docs = flat_map entry_text docs ++ (codes "end" ++ 10 ∷ [])

-- bytes i to j-1 of a text, or the first of the two possible rejections
abbrev pub shown_range : List ℕ → ℕ → ℕ → Result (List ℕ) Refusal
shown_range text i j = cond (is_range i j (length text))
    (cond (nat_le (j - i) 4096) (Ok (content text i j)) (Err (RangeTooWide (j - i))))
    (Err (OutOfRange i j (length text)))

-- bytes i to j-1 of the document of this name, or the first rejection
abbrev pub shown : Documents → List ℕ → ℕ → ℕ → Result (List ℕ) Refusal
shown docs name i j = option_map_or (λ text. shown_range text i j) (value_of docs name) (Err (NoSuchDocument name))

-- the reply's rejection for an expression
abbrev pub IsEditRefusal : EditRefusal → Refusal → Type 0
IsEditRefusal (edit.NoSuchDocument name) why = why ≡ NoSuchDocument name
IsEditRefusal (edit.OutOfRange first last len) why = why ≡ OutOfRange first last len
IsEditRefusal (edit.TooLong len) why = why ≡ TooLong len
IsEditRefusal edit.NoMemory why = ⊥
