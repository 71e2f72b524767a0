-- The arguments after the keyword of a form, field by field.
use Rattle.std.specs.Prelude.{◌≡◌, ℕ, Bool, List, [], ◌∷◌, ◌++◌, Option, codes}
use Rattle.std.specs.List.{find}
use Rattle.std.specs.Str.{bytes_eq}
use Rattle.line_parts.specs.Numbers.{IsNum}
use Rattle.line_parts.specs.NameList.{IsName, IsNameList}
use Rattle.script_syntax.specs.Syntax.{IsFile, IsWord, IsStart, IsLimit, limit_words, longest_words, spaced, start_words}
use Rattle.script_syntax.specs.Quoted.{IsQuoted}
use Rattle.script_syntax.specs.declared.form.ListStart.{ListStart}
use Rattle.script_syntax.specs.declared.keyword.Keyword.{Keyword}
use Rattle.script_syntax.specs.declared.keyword.Keyword.TheVariants.{Text, Load, Share, Bytes, Write, Let, Drop, Names, Show, Query, Unquery, List as ListWord, Count, Rank, Test, Has, Save, Open, Union, Join, Project, Listall, Replace, Mark, Unmark, Back, Compact}

abbrev pub word_of : Keyword → List ℕ
word_of Text = codes "text"
word_of Load = codes "load"
word_of Share = codes "share"
word_of Bytes = codes "bytes"
word_of Write = codes "write"
word_of Let = codes "let"
word_of Drop = codes "drop"
word_of Names = codes "names"
word_of Show = codes "show"
word_of Query = codes "query"
word_of Unquery = codes "unquery"
word_of ListWord = codes "list"
word_of Count = codes "count"
word_of Rank = codes "rank"
word_of Test = codes "test"
word_of Has = codes "has"
word_of Save = codes "save"
word_of Open = codes "open"
word_of Union = codes "union"
word_of Join = codes "join"
word_of Project = codes "project"
word_of Listall = codes "listall"
word_of Replace = codes "replace"
word_of Mark = codes "mark"
word_of Unmark = codes "unmark"
word_of Back = codes "back"
word_of Compact = codes "compact"

abbrev pub keywords : List Keyword
keywords = Text ∷ Load ∷ Share ∷ Bytes ∷ Write ∷ Let ∷ Drop ∷ Names ∷ Show ∷ Query ∷ Unquery ∷ ListWord ∷ Count ∷ Rank ∷ Test ∷ Has ∷ Save ∷ Open ∷ Union ∷ Join ∷ Project ∷ Listall ∷ Replace ∷ Mark ∷ Unmark ∷ Back ∷ Compact ∷ []

abbrev pub keyword_named : List ℕ → Option Keyword
keyword_named word = find (λ k. bytes_eq (word_of k) word) keywords

-- `Paged` is a name and the options of `list`, `Limited` a name and the option of `listall`, `Longest` a name and the
-- option of `replace`
pub data Field : Type 0 where
  Named : Field
  Filed : Field
  Worded : Field
  Numbered : Field
  Equals : Field
  Varied : Field
  Quoted : Field
  Rest : Field
  Paged : Field
  Limited : Field
  Longest : Field

abbrev pub Fits : Field → List ℕ → Type 0
Fits Named text = IsName text
Fits Filed text = IsFile text
Fits Worded text = IsWord text
Fits Numbered text = (n : ℕ) × IsNum text n
Fits Equals text = text ≡ codes "="
Fits Varied text = IsNameList text
Fits Quoted text = (bytes : List ℕ) × IsQuoted text bytes
Fits Rest text = Unit {0}
Fits Paged text = (name : List ℕ) × (start : ListStart) × (given : Option ℕ) × (limit : ℕ)
    × IsName name × IsStart start × IsLimit given limit × (text ≡ spaced name (start_words start ++ limit_words given))
Fits Limited text = (name : List ℕ) × (given : Option ℕ) × (limit : ℕ) × IsName name × IsLimit given limit × (text ≡ spaced name (limit_words given))
Fits Longest text = (name : List ℕ) × (longest : Bool) × IsName name × (text ≡ spaced name (longest_words longest))

-- the fields, with a space between each two
abbrev pub Fields : List Field → List ℕ → Type 0
Fields [] text = ⊥
Fields (field ∷ []) text = Fits field text
Fields (field ∷ next ∷ fields) text = (word : List ℕ) × (rest : List ℕ) × Fits field word × (text ≡ word ++ 32 ∷ rest) × Fields (next ∷ fields) rest

abbrev pub fields_of : Keyword → List Field
fields_of Text = Named ∷ Rest ∷ []
fields_of Load = Named ∷ Filed ∷ []
fields_of Share = Named ∷ Filed ∷ []
fields_of Bytes = Named ∷ Quoted ∷ []
fields_of Write = Named ∷ Filed ∷ []
fields_of Let = Named ∷ Equals ∷ Rest ∷ []
fields_of Drop = Named ∷ []
fields_of Names = []
fields_of Show = Named ∷ Numbered ∷ Numbered ∷ []
fields_of Query = Named ∷ Rest ∷ []
fields_of Unquery = Named ∷ []
fields_of ListWord = Named ∷ Paged ∷ []
fields_of Count = Named ∷ Named ∷ []
fields_of Rank = Named ∷ Named ∷ Worded ∷ []
fields_of Test = Named ∷ Named ∷ []
fields_of Has = Named ∷ Named ∷ Worded ∷ []
fields_of Save = Filed ∷ []
fields_of Open = Filed ∷ []
fields_of Union = Named ∷ Named ∷ Named ∷ []
fields_of Join = Named ∷ Named ∷ Named ∷ []
fields_of Project = Named ∷ Named ∷ Varied ∷ []
fields_of Listall = Limited ∷ []
fields_of Replace = Named ∷ Named ∷ Named ∷ Longest ∷ []
fields_of Mark = Named ∷ []
fields_of Unmark = Named ∷ []
fields_of Back = Named ∷ []
fields_of Compact = []
