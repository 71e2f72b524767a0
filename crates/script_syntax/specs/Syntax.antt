-- The forms of a line.
use Rattle.std.specs.Prelude.{◌≡◌, ◌⊎◌, ℕ, ◌<◌, ◌≤◌, ◌^◌, ◌-◌, Bool, true, false, List, [], ◌∷◌, ◌++◌, Option, Some, None, length, codes, slice_get, nat_le, ◌&&◌, ◌==◌, not}
use Rattle.std.specs.List.{list_all}
use Rattle.std.specs.Fmt.{decimal}
use Rattle.span_types.specs.Names.{is_between}
use Rattle.line_parts.specs.NameList.{IsName, IsNameList}
use Rattle.script_syntax.specs.Quoted.{IsQuoted}
use Rattle.script_syntax.specs.declared.form.ListStart.{ListStart}
use Rattle.script_syntax.specs.declared.form.ListStart.TheVariants.{First, After, At}
use Rattle.script_syntax.specs.declared.form.Command.{Command}
use Rattle.script_syntax.specs.declared.form.Command.TheVariants.{Nothing, Text, LoadFile, ShareFile, QuotedText, WriteFile, LetDoc, DropDoc, Names, Show, Query, Unquery, List as ListDoc, Count, Rank, Nonempty, Has, SaveFile, OpenFile, UnionQuery, JoinQuery, ProjectQuery, ListAll, ReplaceDoc, MarkDocs, UnmarkDocs, BackDocs, Compact}

-- words with a space between each two
abbrev pub spaced : List ℕ → List (List ℕ) → List ℕ
spaced word [] = word
spaced word (next ∷ words) = word ++ 32 ∷ spaced next words

-- 1 to 255 bytes from 0x21 to 0x7E
abbrev pub is_file : List ℕ → Bool
is_file text = nat_le 1 (length text) && (nat_le (length text) 255 && list_all (is_between 33 126) text)

-- 1 to 255 bytes, each printable and not the space
abbrev pub IsFile : List ℕ → Type 0
IsFile text = is_file text ≡ true

-- one or more bytes other than the space
abbrev pub is_word : List ℕ → Bool
is_word text = nat_le 1 (length text) && list_all (λ b. not (b == 32)) text

-- one or more bytes, none of them the space
abbrev pub IsWord : List ℕ → Type 0
IsWord text = is_word text ≡ true

-- the words of `after` or `at`, if present, and what they specify: a word, or the number of an answer from 1 to 2^64 - 2
abbrev pub start_words : ListStart → List (List ℕ)
start_words First = []
start_words (After word) = codes "after" ∷ word ∷ []
start_words (At n) = codes "at" ∷ decimal n ∷ []

-- what `after` or `at` specifies is a word, or a number from 1 to 2^64 - 2
abbrev pub IsStart : ListStart → Type 0
IsStart First = Unit {0}
IsStart (After word) = IsWord word
IsStart (At n) = (1 ≤ n) × (n ≤ 2 ^ 64 - 2)

-- the words of `limit`, if present, and what they specify
abbrev pub limit_words : Option ℕ → List (List ℕ)
limit_words None = []
limit_words (Some n) = codes "limit" ∷ decimal n ∷ []

-- the limit is 100 if none is specified, else a number from 1 to 10,000
abbrev pub IsLimit : Option ℕ → ℕ → Type 0
IsLimit None limit = limit ≡ 100
IsLimit (Some n) limit = (1 ≤ n) × (n ≤ 10000) × (limit ≡ n)

-- the words of `longest`, if present
abbrev pub longest_words : Bool → List (List ℕ)
longest_words false = []
longest_words true = codes "longest" ∷ []

-- the line is this command: one equation for each form
abbrev pub Reads : List ℕ → Command → Type 0
Reads line Nothing = (line ≡ []) ⊎ (slice_get line 0 ≡ Some 35)
Reads line (Text name bytes) = IsName name × (line ≡ spaced (codes "text") (name ∷ bytes ∷ []))
Reads line (LoadFile name file) = IsName name × IsFile file × (line ≡ spaced (codes "load") (name ∷ file ∷ []))
Reads line (ShareFile name file) = IsName name × IsFile file × (line ≡ spaced (codes "share") (name ∷ file ∷ []))
Reads line (QuotedText name bytes) = IsName name × (quoted : List ℕ) × IsQuoted quoted bytes × (line ≡ spaced (codes "bytes") (name ∷ quoted ∷ []))
Reads line (WriteFile name file) = IsName name × IsFile file × (line ≡ spaced (codes "write") (name ∷ file ∷ []))
Reads line (LetDoc name expr) = IsName name × (line ≡ spaced (codes "let") (name ∷ codes "=" ∷ expr ∷ []))
Reads line (DropDoc name) = IsName name × (line ≡ spaced (codes "drop") (name ∷ []))
Reads line Names = line ≡ codes "names"
Reads line (Show name from to) = IsName name × (from < 2 ^ 64) × (to < 2 ^ 64) × (line ≡ spaced (codes "show") (name ∷ decimal from ∷ decimal to ∷ []))
Reads line (Query name formula) = IsName name × (line ≡ spaced (codes "query") (name ∷ formula ∷ []))
Reads line (Unquery name) = IsName name × (line ≡ spaced (codes "unquery") (name ∷ []))
Reads line (ListDoc query name start limit) = IsName query × IsName name × IsStart start × (given : Option ℕ) × IsLimit given limit
    × (line ≡ spaced (codes "list") (query ∷ name ∷ (start_words start ++ limit_words given)))
Reads line (Count query doc) = IsName query × IsName doc × (line ≡ spaced (codes "count") (query ∷ doc ∷ []))
Reads line (Rank query doc tuple) = IsName query × IsName doc × IsWord tuple × (line ≡ spaced (codes "rank") (query ∷ doc ∷ tuple ∷ []))
Reads line (Nonempty query name) = IsName query × IsName name × (line ≡ spaced (codes "test") (query ∷ name ∷ []))
Reads line (Has query name tuple) = IsName query × IsName name × IsWord tuple × (line ≡ spaced (codes "has") (query ∷ name ∷ tuple ∷ []))
Reads line (SaveFile file) = IsFile file × (line ≡ spaced (codes "save") (file ∷ []))
Reads line (OpenFile file) = IsFile file × (line ≡ spaced (codes "open") (file ∷ []))
Reads line (UnionQuery name left right) = IsName name × IsName left × IsName right × (line ≡ spaced (codes "union") (name ∷ left ∷ right ∷ []))
Reads line (JoinQuery name left right) = IsName name × IsName left × IsName right × (line ≡ spaced (codes "join") (name ∷ left ∷ right ∷ []))
Reads line (ProjectQuery name source keep) = IsName name × IsName source × IsNameList keep × (line ≡ spaced (codes "project") (name ∷ source ∷ keep ∷ []))
Reads line (ListAll query limit) = IsName query × (given : Option ℕ) × IsLimit given limit × (line ≡ spaced (codes "listall") (query ∷ limit_words given))
Reads line (ReplaceDoc name query source by longest) = IsName name × IsName query × IsName source × IsName by
    × (line ≡ spaced (codes "replace") (name ∷ query ∷ source ∷ by ∷ longest_words longest))
Reads line (MarkDocs name) = IsName name × (line ≡ spaced (codes "mark") (name ∷ []))
Reads line (UnmarkDocs name) = IsName name × (line ≡ spaced (codes "unmark") (name ∷ []))
Reads line (BackDocs name) = IsName name × (line ≡ spaced (codes "back") (name ∷ []))
Reads line Compact = line ≡ codes "compact"

-- the text of a line, which is within the limit on its length
pub record LineText (line : List ℕ) (command : Command) : Type 0 where
  pub short : length line ≤ 2 ^ 16
  pub form : Reads line command

-- a line is one command
abbrev pub OneCommand : Type 0
OneCommand = (line : List ℕ) (command other : Command) → LineText line command → LineText line other → command ≡ other
