-- The effect of a line.
use Rattle.std.specs.Prelude.{◌≡◌, ◌⊎◌, ◌<◌, ℕ, Bool, true, false, List, [], Option, Some, None, Ok, Err, take, length, ◌≤◌, ◌^◌}
use Rattle.std.specs.Io.KnownBytes.{Appends, Keeps}
use Rattle.edge_io.specs.Files.{AllowsReads, AllowsWrites, DeniesReads, DeniesWrites, Files, Holds, KeepsOthers, LacksFile}
use Rattle.script_syntax.specs.declared.form.Command.{Command}
use Rattle.script_syntax.specs.declared.form.Command.TheVariants.{Nothing, Text, LoadFile, ShareFile, QuotedText, WriteFile, LetDoc, DropDoc, Names, Show, SaveFile, OpenFile}
use Rattle.script_syntax.specs.declared.form.Command.TheVariants as form
use Rattle.edit_expr.specs.declared.expr.Expr.{Expr}
use Rattle.edit_expr.specs.declared.refusal.EditRefusal.{EditRefusal}
use Rattle.edit_expr.specs.Expressions.{ExprReads}
use Rattle.edit_expr.specs.Eval.{eval}
use Rattle.span_types.specs.Query.{Query, Union, Join}
use Rattle.span_types.specs.Rel.{IsAnswersOf, names_of}
use Rattle.formula_syntax.specs.FormulaOf.{FormulaOf}
use Rattle.formula_syntax.specs.FormulaOf as formula
use Rattle.query_book.specs.Registering.{IsQueryOf, IsTooLarge}
use Rattle.query_book.specs.Answers.{HasAnswer, IsAnswer, IsNamed}
use Rattle.query_book.specs.Numbers.{IsNumberOf, IsRankOf}
use Rattle.query_book.specs.Combining.{HasPair, HasProjection, IsAccepted, IsPairRefused, IsProjectRefused}
use Rattle.query_book.specs.declared.refusal.CombineRefusal.{CombineRefusal}
use Rattle.query_book.specs.declared.refusal.CombineRefusal.TheVariants as combine
use Rattle.span_enum.specs.Members.{Tuple}
use Rattle.span_cursor.specs.Tuples.{TupleText}
use Rattle.slp_image.specs.Fields.{kind_of}
use Rattle.slp_image.specs.Image.{image}
use Rattle.slp_image.specs.Save.{SaveForm}
use Rattle.slp_image.specs.declared.refusal.ImageRefusal.{ImageRefusal}
use Rattle.report_text.specs.Reply.{shown_text, query_text, saved_text, opened_text, written_text, refusal_text}
use Rattle.report_text.specs.declared.refusal.Refusal.{Refusal}
use Rattle.report_text.specs.declared.refusal.Refusal.TheVariants.{Syntax, NoSuchDocument, NoSuchQuery, FormulaTooLong, BadFormula, TooDeep, TooManyPositions, TooManyVariables, NotFunctional, TooManyStates, NoSuchFile, FileTooLong, CannotRead, CannotWrite, BadImage, QueryTooLarge, OtherVariables, NoSuchVersion, NotOneVariable, TooManyMatches, TooLong}
use Rattle.span_language.specs.State.{World, Documents, Named, world, value_of, put, taken_out, with_documents, with_queries, with_versions}
use Rattle.span_language.specs.Cursors.{IsStartRefused, IsTupleRefused}
use Rattle.span_language.specs.Listed.{AreListed, IsListReply}
use Rattle.span_language.specs.Numbers.{IsNumberReply, IsTooMany}
use Rattle.span_replace.specs.Chosen.{chosen}
use Rattle.span_replace.specs.Longest.{longest}
use Rattle.span_replace.specs.Replaced.{replaced}
use Rattle.span_types.specs.declared.tuple.Span.{Span}
use Rattle.span_language.specs.Replies.{ok_text, yes_text, no_text, given_text, names_text, shown, IsEditRefusal}
use Rattle.span_language.specs.declared.told.Told.{Told}
use Rattle.span_language.specs.declared.told.Told.TheVariants.{Quiet, Accepted, Refused}

-- the file exists, may be read, and has these bytes, which are at most the limit
pub record IsWithin (files : Option Files) (name : List ℕ) (limit : ℕ) (bytes : List ℕ) : Type 0 where
  pub held : Holds files name bytes
  pub readable : AllowsReads files name
  pub short : length bytes ≤ limit

-- the file exists, may be read, and has more bytes than the limit
pub record IsOversized (files : Option Files) (name : List ℕ) (limit : ℕ) : Type 0 where
  pub bytes : List ℕ
  pub held : Holds files name bytes
  pub readable : AllowsReads files name
  pub long : limit < length bytes

-- why a file is not read, the first reason: it doesn't exist, may not be read, or has more bytes than the limit
abbrev pub IsFileRefused : Option Files → List ℕ → ℕ → Refusal → Type 0
IsFileRefused files name limit why = (LacksFile files name × (why ≡ NoSuchFile name))
    ⊎ (DeniesReads files name × (why ≡ CannotRead name))
    ⊎ (IsOversized files name limit × (why ≡ FileTooLong name))

-- the maximum length of a file for `load` and `share` and of a text for `write`, and of a file for `open` and `save`, in
-- bytes
abbrev pub load_size : ℕ
load_size = 2 ^ 32

-- the maximum size of an image to open, in bytes: 2^30
abbrev pub open_size : ℕ
open_size = 2 ^ 30

-- these bytes are a valid image of the documents for `save`, with this number of nodes
pub record IsSaved (documents : Documents) (bytes : List ℕ) (nodes : ℕ) : Type 0 where
  pub form : SaveForm bytes
  pub means : (image bytes).answer ≡ Ok (record { documents = documents; nodes = nodes })

-- why a `save` is rejected, the first reason: the image is too long, or the file may not be written
abbrev pub IsSaveRefused : Option Files → Documents → List ℕ → Refusal → Type 0
IsSaveRefused files documents name why = (bytes : List ℕ) × (nodes : ℕ) × IsSaved documents bytes nodes
    × (((open_size < length bytes) × (why ≡ FileTooLong name)) ⊎ ((length bytes ≤ open_size) × DeniesWrites files name × (why ≡ CannotWrite name)))

-- the file now has these bytes, and the others are unchanged
pub record IsPut (old : Option Files) (name bytes : List ℕ) (new : Option Files) : Type 0 where
  pub held : Holds new name bytes
  pub others : KeepsOthers old new name

-- the text of a document is written to the file, and nothing else changes
pub record WritesFile (old : World) (name file reply : List ℕ) (new : World) : Type 0 where
  pub text : List ℕ
  pub document : value_of old.state.documents name ≡ Some text
  pub short : length text ≤ load_size
  pub writable : AllowsWrites old.files file
  pub replied : reply ≡ written_text (length text)
  pub state : new.state ≡ old.state
  pub put : IsPut old.files file text new.files

-- why a `write` is rejected, the first reason: the document doesn't exist, its text is too long, or the file may not be
-- written
abbrev pub IsUnwritten : World → List ℕ → List ℕ → Refusal → Type 0
IsUnwritten old name file why = ((value_of old.state.documents name ≡ None) × (why ≡ NoSuchDocument name))
    ⊎ ((text : List ℕ) × (value_of old.state.documents name ≡ Some text)
    × (((load_size < length text) × (why ≡ FileTooLong file)) ⊎ ((length text ≤ load_size) × DeniesWrites old.files file × (why ≡ CannotWrite file))))

-- the number of the first fault of an image
pub record IsFaulty (bytes : List ℕ) (kind : ℕ) : Type 0 where
  pub refusal : ImageRefusal
  pub means : (image bytes).answer ≡ Err refusal
  pub kind_is : kind_of refusal ≡ Some kind

-- why a query's text is rejected, if an automaton may have at most `most` states: the first reason
abbrev pub IsTextRefused : ℕ → List ℕ → Refusal → Type 0
IsTextRefused most text (FormulaTooLong len) = FormulaOf text (formula.TooLong len)
IsTextRefused most text BadFormula = FormulaOf text formula.BadText
IsTextRefused most text TooDeep = FormulaOf text formula.TooDeep
IsTextRefused most text TooManyPositions = FormulaOf text formula.TooManyPositions
IsTextRefused most text TooManyVariables = FormulaOf text formula.TooManyVariables
IsTextRefused most text (NotFunctional name) = FormulaOf text (formula.NotFunctional name)
IsTextRefused most text TooManyStates = IsTooLarge most text
IsTextRefused most text _ = ⊥

-- why an operation on queries failed, as the reply reports it
abbrev pub IsCombineRefusal : CombineRefusal → Refusal → Type 0
IsCombineRefusal (combine.NoSuchQuery name) why = why ≡ NoSuchQuery name
IsCombineRefusal (combine.QueryTooLarge parts) why = why ≡ QueryTooLarge parts
IsCombineRefusal combine.OtherVariables why = why ≡ OtherVariables
IsCombineRefusal combine.TooManyVariables why = why ≡ TooManyVariables
IsCombineRefusal combine.TooManyStates why = why ≡ TooManyStates
IsCombineRefusal combine.NoMemory why = ⊥

-- why an operation on queries is rejected: the first reason
abbrev pub IsUncombined : (CombineRefusal → Type 0) → Refusal → Type 0
IsUncombined Refuses why = (refusal : CombineRefusal) × Refuses refusal × IsCombineRefusal refusal why

-- the query and the text of a question
pub record IsAsked (old : World) (query name : List ℕ) (q : Query) (text : List ℕ) : Type 0 where
  pub document : value_of old.state.documents name ≡ Some text
  pub registered : value_of old.state.queries query ≡ Some q

-- why a question is rejected, the first reason: the document doesn't exist, or the query doesn't
abbrev pub IsUnasked : World → List ℕ → List ℕ → Refusal → Type 0
IsUnasked old query name why = ((value_of old.state.documents name ≡ None) × (why ≡ NoSuchDocument name))
    ⊎ ((text : List ℕ) × (value_of old.state.documents name ≡ Some text) × (value_of old.state.queries query ≡ None) × (why ≡ NoSuchQuery query))

-- why a question about a tuple is rejected, the first reason: the document doesn't exist, the query doesn't, or the word is
-- no tuple of its variables
abbrev pub IsUnaskedOf : World → List ℕ → List ℕ → List ℕ → Refusal → Type 0
IsUnaskedOf old query name word why = IsUnasked old query name why
    ⊎ ((q : Query) × (text : List ℕ) × IsAsked old query name q text × IsTupleRefused q word why)

-- `yes` if the fact holds, and `no` if it doesn't
abbrev pub IsYesOrNo : Type 0 → List ℕ → Type 0
IsYesOrNo fact reply = (fact × (reply ≡ yes_text)) ⊎ ((fact → ⊥) × (reply ≡ no_text))

-- the inputs of a replacement: the text, the query of one variable whose spans are replaced, and the text that replaces
-- them
pub record IsReplacing (old : World) (query source by : List ℕ) (q : Query) (text other : List ℕ) : Type 0 where
  pub document : value_of old.state.documents source ≡ Some text
  pub put_there : value_of old.state.documents by ≡ Some other
  pub registered : value_of old.state.queries query ≡ Some q
  pub one : length (names_of q) ≡ 1

-- why the inputs of a replacement are rejected, the first reason: a document doesn't exist, the query doesn't exist, or
-- it hasn't exactly one variable
abbrev pub IsUnreplaced : World → List ℕ → List ℕ → List ℕ → Refusal → Type 0
IsUnreplaced old query source by why = ((value_of old.state.documents source ≡ None) × (why ≡ NoSuchDocument source))
    ⊎ ((text : List ℕ) × (value_of old.state.documents source ≡ Some text) × (value_of old.state.documents by ≡ None) × (why ≡ NoSuchDocument by))
    ⊎ ((text other : List ℕ) × (value_of old.state.documents source ≡ Some text) × (value_of old.state.documents by ≡ Some other)
    × (value_of old.state.queries query ≡ None) × (why ≡ NoSuchQuery query))
    ⊎ ((text other : List ℕ) × (q : Query) × (value_of old.state.documents source ≡ Some text) × (value_of old.state.documents by ≡ Some other)
    × (value_of old.state.queries query ≡ Some q) × (length (names_of q) ≡ 1 → ⊥) × (why ≡ NotOneVariable (length (names_of q))))

-- the spans chosen from a query's answers on a text
pub record IsChosenOf (q : Query) (s : List ℕ) (spans : List Span) : Type 0 where
  pub all : List Tuple
  pub answers : IsAnswersOf q s all
  pub is : spans ≡ chosen all

-- the longest spans of a query's answers on a text
pub record IsLongestOf (q : Query) (s : List ℕ) (spans : List Span) : Type 0 where
  pub all : List Tuple
  pub answers : IsAnswersOf q s all
  pub is : spans ≡ longest all

-- the spans of a query's answers on a text that are replaced: the longest, or the first that don't overlap
abbrev pub IsTakenOf : Bool → Query → List ℕ → List Span → Type 0
IsTakenOf false q s spans = IsChosenOf q s spans
IsTakenOf true q s spans = IsLongestOf q s spans

-- the maximum number of replaced spans
abbrev pub most_spans : ℕ
most_spans = 32768

-- the queries change, and nothing else
abbrev pub HasQueries : World → World → Named Query → Type 0
HasQueries old new queries = new ≡ world (with_queries old.state queries) old.files

-- the query is registered under the name, and the reply has its variables
abbrev pub IsRegistered : World → World → List ℕ → Query → List ℕ → Type 0
IsRegistered old new name q reply = (reply ≡ query_text name (names_of q)) × HasQueries old new (put old.state.queries name q)

-- the documents change, and nothing else
abbrev pub HasDocuments : World → World → Documents → Type 0
HasDocuments old new documents = new ≡ world (with_documents old.state documents) old.files

-- the versions change, and nothing else
abbrev pub HasVersions : World → World → Named Documents → Type 0
HasVersions old new versions = new ≡ world (with_versions old.state versions) old.files

-- the document gets these bytes
abbrev pub GivesText : World → List ℕ → List ℕ → List ℕ → World → Type 0
GivesText old name bytes reply new = (reply ≡ given_text name bytes) × HasDocuments old new (put old.state.documents name bytes)

-- the document gets the bytes of the file, which is within the limit
abbrev pub LoadsFile : World → List ℕ → List ℕ → List ℕ → World → Type 0
LoadsFile old name file reply new = (bytes : List ℕ) × IsWithin old.files file load_size bytes × GivesText old name bytes reply new

-- an accepted command has this reply and results in this world: one equation for each command
abbrev pub Does : World → Command → List ℕ → World → Type 0
Does old (Text name bytes) reply new = GivesText old name bytes reply new
Does old (QuotedText name bytes) reply new = GivesText old name bytes reply new
Does old (LoadFile name file) reply new = LoadsFile old name file reply new
Does old (ShareFile name file) reply new = LoadsFile old name file reply new
Does old (WriteFile name file) reply new = WritesFile old name file reply new
Does old (LetDoc name expr) reply new = (e : Expr) × (text : List ℕ) × ExprReads expr e × (eval old.state.documents e ≡ Ok text)
    × (reply ≡ given_text name text) × HasDocuments old new (put old.state.documents name text)
Does old (DropDoc name) reply new = (text : List ℕ) × (value_of old.state.documents name ≡ Some text)
    × (reply ≡ ok_text) × HasDocuments old new (taken_out old.state.documents name)
Does old Names reply new = (reply ≡ names_text old.state.documents) × (new ≡ old)
Does old (Show name i j) reply new = (bytes : List ℕ) × (shown old.state.documents name i j ≡ Ok bytes) × (reply ≡ shown_text bytes) × (new ≡ old)
Does old (form.Query name text) reply new = (q : Query) × IsQueryOf old.state.most_states text q × IsRegistered old new name q reply
Does old (form.Unquery name) reply new = (q : Query) × (value_of old.state.queries name ≡ Some q) × (reply ≡ ok_text) × HasQueries old new (taken_out old.state.queries name)
Does old (form.UnionQuery name left right) reply new = HasPair Union old.state.queries left right (λ q. IsAccepted old.state.most_states q × IsRegistered old new name q reply)
Does old (form.JoinQuery name left right) reply new = HasPair Join old.state.queries left right (λ q. IsAccepted old.state.most_states q × IsRegistered old new name q reply)
Does old (form.ProjectQuery name source keep) reply new = IsNamed old.state.queries source (λ q. HasProjection q keep (λ p. IsAccepted old.state.most_states p × IsRegistered old new name p reply))
Does old (form.List query name start n) reply new = (q : Query) × (text : List ℕ) × IsAsked old query name q text × IsListReply q text start n reply × (new ≡ old)
Does old (form.Count query name) reply new = (q : Query) × (text : List ℕ) × (n : ℕ) × IsAsked old query name q text × IsNumberOf q text n × IsNumberReply n reply × (new ≡ old)
Does old (form.Rank query name word) reply new = (q : Query) × (text : List ℕ) × (tuple : Tuple) × (n : ℕ) × IsAsked old query name q text × TupleText word (names_of q) tuple
    × IsRankOf q text tuple n × IsNumberReply n reply × (new ≡ old)
Does old (form.Nonempty query name) reply new = (q : Query) × (text : List ℕ) × IsAsked old query name q text × IsYesOrNo (HasAnswer q text) reply × (new ≡ old)
Does old (form.Has query name word) reply new = (q : Query) × (text : List ℕ) × (tuple : Tuple) × IsAsked old query name q text × TupleText word (names_of q) tuple
    × IsYesOrNo (IsAnswer q text tuple) reply × (new ≡ old)
Does old (SaveFile file) reply new = (bytes : List ℕ) × (nodes : ℕ) × IsSaved old.state.documents bytes nodes
    × (length bytes ≤ open_size) × AllowsWrites old.files file × (reply ≡ saved_text (length old.state.documents) nodes) × (new.state ≡ old.state) × IsPut old.files file bytes new.files
Does old (OpenFile file) reply new = (bytes : List ℕ) × (documents : Documents) × (nodes : ℕ) × IsWithin old.files file open_size bytes
    × ((image bytes).answer ≡ Ok (record { documents = documents; nodes = nodes })) × (reply ≡ opened_text (length documents)) × HasDocuments old new documents
Does old (form.ListAll query n) reply new = (q : Query) × (value_of old.state.queries query ≡ Some q) × AreListed q n old.state.documents reply × (new ≡ old)
Does old (form.ReplaceDoc name query source by longest) reply new = (q : Query) × (text other : List ℕ) × (spans : List Span)
    × IsReplacing old query source by q text other × IsTakenOf longest q text spans × (length spans ≤ most_spans) × (length (replaced text spans other) ≤ 2 ^ 48)
    × (reply ≡ given_text name (replaced text spans other)) × HasDocuments old new (put old.state.documents name (replaced text spans other))
Does old (form.MarkDocs name) reply new = (reply ≡ ok_text) × HasVersions old new (put old.state.versions name old.state.documents)
Does old (form.UnmarkDocs name) reply new = (documents : Documents) × (value_of old.state.versions name ≡ Some documents)
    × (reply ≡ ok_text) × HasVersions old new (taken_out old.state.versions name)
Does old (form.BackDocs name) reply new = (documents : Documents) × (value_of old.state.versions name ≡ Some documents)
    × (reply ≡ ok_text) × HasDocuments old new documents
Does old form.Compact reply new = (reply ≡ ok_text) × (new ≡ old)
Does old Nothing reply new = ⊥

-- why a command is rejected: the first reason
abbrev pub IsRefused : World → Command → Refusal → Type 0
IsRefused old Nothing why = ⊥
IsRefused old (Text name bytes) why = ⊥
IsRefused old (QuotedText name bytes) why = ⊥
IsRefused old (LoadFile name file) why = IsFileRefused old.files file load_size why
IsRefused old (ShareFile name file) why = IsFileRefused old.files file load_size why
IsRefused old (WriteFile name file) why = IsUnwritten old name file why
IsRefused old (LetDoc name expr) why = (((e : Expr) → ExprReads expr e → ⊥) × (why ≡ Syntax))
    ⊎ ((e : Expr) × (refusal : EditRefusal) × ExprReads expr e × (eval old.state.documents e ≡ Err refusal) × IsEditRefusal refusal why)
IsRefused old (DropDoc name) why = (value_of old.state.documents name ≡ None) × (why ≡ NoSuchDocument name)
IsRefused old Names why = ⊥
IsRefused old (Show name i j) why = shown old.state.documents name i j ≡ Err why
IsRefused old (form.Query name text) why = IsTextRefused old.state.most_states text why
IsRefused old (form.Unquery name) why = (value_of old.state.queries name ≡ None) × (why ≡ NoSuchQuery name)
IsRefused old (form.UnionQuery name left right) why = IsUncombined (IsPairRefused old.state.most_states Union old.state.queries left right) why
IsRefused old (form.JoinQuery name left right) why = IsUncombined (IsPairRefused old.state.most_states Join old.state.queries left right) why
IsRefused old (form.ProjectQuery name source keep) why = IsUncombined (IsProjectRefused old.state.most_states old.state.queries source keep) why
IsRefused old (form.List query name start n) why = IsUnasked old query name why
    ⊎ ((q : Query) × (text : List ℕ) × IsAsked old query name q text × IsStartRefused q start why)
IsRefused old (form.Count query name) why = IsUnasked old query name why
    ⊎ ((q : Query) × (text : List ℕ) × (n : ℕ) × IsAsked old query name q text × IsNumberOf q text n × IsTooMany n why)
IsRefused old (form.Rank query name word) why = IsUnaskedOf old query name word why
    ⊎ ((q : Query) × (text : List ℕ) × (tuple : Tuple) × (n : ℕ) × IsAsked old query name q text × TupleText word (names_of q) tuple × IsRankOf q text tuple n × IsTooMany n why)
IsRefused old (form.Nonempty query name) why = IsUnasked old query name why
IsRefused old (form.Has query name word) why = IsUnaskedOf old query name word why
IsRefused old (SaveFile file) why = IsSaveRefused old.files old.state.documents file why
IsRefused old (OpenFile file) why = IsFileRefused old.files file open_size why
    ⊎ ((bytes : List ℕ) × (kind : ℕ) × IsWithin old.files file open_size bytes × IsFaulty bytes kind × (why ≡ BadImage kind))
IsRefused old (form.ListAll query n) why = (value_of old.state.queries query ≡ None) × (why ≡ NoSuchQuery query)
IsRefused old (form.ReplaceDoc name query source by longest) why = IsUnreplaced old query source by why
    ⊎ ((q : Query) × (text other : List ℕ) × (spans : List Span) × IsReplacing old query source by q text other × IsTakenOf longest q text spans
    × (((most_spans < length spans) × (why ≡ TooManyMatches))
    ⊎ ((length spans ≤ most_spans) × (2 ^ 48 < length (replaced text spans other)) × (why ≡ TooLong (length (replaced text spans other))))))
IsRefused old (form.MarkDocs name) why = ⊥
IsRefused old (form.UnmarkDocs name) why = (value_of old.state.versions name ≡ None) × (why ≡ NoSuchVersion name)
IsRefused old (form.BackDocs name) why = (value_of old.state.versions name ≡ None) × (why ≡ NoSuchVersion name)
IsRefused old form.Compact why = ⊥

-- a parsed command, in the first world, has this reply and results in the second world
abbrev pub Carries : World → ℕ → Command → Told → List ℕ → World → Type 0
Carries old number command Quiet reply new = (command ≡ Nothing) × (reply ≡ []) × (new ≡ old)
Carries old number command Accepted reply new = Does old command reply new
Carries old number command Refused reply new = (why : Refusal) × IsRefused old command why × (reply ≡ refusal_text number why) × (new ≡ old)

-- the bytes of a `text` or `bytes` command are at most 2^16, which the length of a line ensures
abbrev pub IsShort : Command → Type 0
IsShort (Text name bytes) = length bytes ≤ 2 ^ 16
IsShort (QuotedText name bytes) = length bytes ≤ 2 ^ 16
IsShort _ = Unit {0}

-- the command reads or writes a file
abbrev pub IsOfFile : Command → Type 0
IsOfFile (LoadFile name file) = Unit {0}
IsOfFile (ShareFile name file) = Unit {0}
IsOfFile (WriteFile name file) = Unit {0}
IsOfFile (SaveFile file) = Unit {0}
IsOfFile (OpenFile file) = Unit {0}
IsOfFile _ = ⊥

-- the command is of the form `list`
abbrev pub IsList : Command → Type 0
IsList (form.List query name start limit) = Unit {0}
IsList _ = ⊥

-- the command writes to a file
abbrev pub IsPutting : Command → Type 0
IsPutting (SaveFile file) = Unit {0}
IsPutting (WriteFile name file) = Unit {0}
IsPutting _ = ⊥

-- the observable bytes are extended by a prefix of these
abbrev pub AppendsPrefix : Option (List ℕ) → Option (List ℕ) → List ℕ → Type 0
AppendsPrefix before after reply = (n : ℕ) × Appends before after (take n reply)

-- an allowed reply was written completely
abbrev pub Finishes : (Told → List ℕ → World → Type 0) → Told → Option (List ℕ) → Option (List ℕ) → World → Type 0
Finishes Allows told before after new = (reply : List ℕ) × Allows told reply new × Appends before after reply

-- nothing was written, and the state and the observable files are unchanged
pub record Leaves (old : World) (before after : Option (List ℕ)) (new : World) : Type 0 where
  pub written : Keeps before after
  pub world : new ≡ old

-- nothing was written and everything is unchanged, or a prefix of an allowed reply was written
abbrev pub Halts : (Told → List ℕ → World → Type 0) → World → Option (List ℕ) → Option (List ℕ) → World → Type 0
Halts Allows old before after new = Leaves old before after new
    ⊎ ((told : Told) × (reply : List ℕ) × Allows told reply new × AppendsPrefix before after reply)
