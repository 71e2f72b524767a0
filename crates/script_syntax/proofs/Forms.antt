-- Each form as the word of a keyword and its fields.
use Rattle.std.proofs.Common.{◌≡◌, ℕ, List, [], ◌∷◌, ◌++◌, refl, codes, inl, inr}
use Rattle.std.specs.Prelude.{◌⊎◌, Some, slice_get}
use Rattle.std.specs.Fmt.{decimal}
use Rattle.script_syntax.specs.Syntax.{Reads, limit_words, longest_words, spaced, start_words}
use Rattle.script_syntax.specs.Fields.{Fields, fields_of, word_of}
use Rattle.line_parts.proofs.Cuts.{NoByte, from_test}
use Rattle.script_syntax.specs.declared.form.Command.{Command}
use Rattle.script_syntax.specs.declared.form.Command.TheVariants.{Nothing, Text, LoadFile, ShareFile, QuotedText, WriteFile, LetDoc, DropDoc, Names, Show, Query, Unquery, List as ListDoc, Count, Rank, Nonempty, Has, SaveFile, OpenFile, UnionQuery, JoinQuery, ProjectQuery, ListAll, ReplaceDoc, MarkDocs, UnmarkDocs, BackDocs, Compact}
use Rattle.script_syntax.specs.declared.keyword.Keyword.{Keyword}
use Rattle.script_syntax.specs.declared.keyword.Keyword.TheVariants as kw

pub words_plain : (k : Keyword) → NoByte 32 (word_of k)
words_plain kw.Text = from_test 32 (codes "text") refl
words_plain kw.Load = from_test 32 (codes "load") refl
words_plain kw.Share = from_test 32 (codes "share") refl
words_plain kw.Bytes = from_test 32 (codes "bytes") refl
words_plain kw.Write = from_test 32 (codes "write") refl
words_plain kw.Let = from_test 32 (codes "let") refl
words_plain kw.Drop = from_test 32 (codes "drop") refl
words_plain kw.Names = from_test 32 (codes "names") refl
words_plain kw.Show = from_test 32 (codes "show") refl
words_plain kw.Query = from_test 32 (codes "query") refl
words_plain kw.Unquery = from_test 32 (codes "unquery") refl
words_plain kw.List = from_test 32 (codes "list") refl
words_plain kw.Count = from_test 32 (codes "count") refl
words_plain kw.Rank = from_test 32 (codes "rank") refl
words_plain kw.Test = from_test 32 (codes "test") refl
words_plain kw.Has = from_test 32 (codes "has") refl
words_plain kw.Save = from_test 32 (codes "save") refl
words_plain kw.Open = from_test 32 (codes "open") refl
words_plain kw.Union = from_test 32 (codes "union") refl
words_plain kw.Join = from_test 32 (codes "join") refl
words_plain kw.Project = from_test 32 (codes "project") refl
words_plain kw.Listall = from_test 32 (codes "listall") refl
words_plain kw.Replace = from_test 32 (codes "replace") refl
words_plain kw.Mark = from_test 32 (codes "mark") refl
words_plain kw.Unmark = from_test 32 (codes "unmark") refl
words_plain kw.Back = from_test 32 (codes "back") refl
words_plain kw.Compact = from_test 32 (codes "compact") refl

-- what a line may be
pub data Form (line : List ℕ) : Type 0 where
  quiet : (line ≡ []) ⊎ (slice_get line 0 ≡ Some 35) → Form line
  bare : (line ≡ codes "names") ⊎ (line ≡ codes "compact") → Form line
  behind : (k : Keyword) (args : List ℕ) → line ≡ word_of k ++ 32 ∷ args → Fields (fields_of k) args → Form line

pub form_of : (line : List ℕ) (command : Command) → Reads line command → Form line
form_of line Nothing r = quiet r
form_of line Names r = bare (inl r)
form_of line Compact r = bare (inr r)
form_of line (Text name bytes) (named, is) = behind kw.Text (name ++ 32 ∷ bytes) is (name, bytes, named, refl, tt)
form_of line (LoadFile name file) (named, filed, is) = behind kw.Load (name ++ 32 ∷ file) is (name, file, named, refl, filed)
form_of line (ShareFile name file) (named, filed, is) = behind kw.Share (name ++ 32 ∷ file) is (name, file, named, refl, filed)
form_of line (QuotedText name bytes) (named, quoted, items, is) = behind kw.Bytes (name ++ 32 ∷ quoted) is (name, quoted, named, refl, (bytes, items))
form_of line (WriteFile name file) (named, filed, is) = behind kw.Write (name ++ 32 ∷ file) is (name, file, named, refl, filed)
form_of line (LetDoc name expr) (named, is) = behind kw.Let (name ++ 32 ∷ (codes "=" ++ 32 ∷ expr)) is (name, codes "=" ++ 32 ∷ expr, named, refl, (codes "=", expr, refl, refl, tt))
form_of line (DropDoc name) (named, is) = behind kw.Drop (name) is named
form_of line (Show name from to) (named, f, t, is) = behind kw.Show (name ++ 32 ∷ (decimal from ++ 32 ∷ decimal to)) is (name, decimal from ++ 32 ∷ decimal to, named, refl, (decimal from, decimal to, (from, record { fits = f; digits = refl }), refl, (to, record { fits = t; digits = refl })))
form_of line (Query name formula) (named, is) = behind kw.Query (name ++ 32 ∷ formula) is (name, formula, named, refl, tt)
form_of line (Unquery name) (named, is) = behind kw.Unquery (name) is named
form_of line (ListDoc query name start limit) (queried, named, starts, given, lim, is) = behind kw.List (query ++ 32 ∷ spaced name (start_words start ++ limit_words given)) is (query, spaced name (start_words start ++ limit_words given), queried, refl, (name, start, given, limit, named, starts, lim, refl))
form_of line (Count query doc) (queried, named, is) = behind kw.Count (query ++ 32 ∷ doc) is (query, doc, queried, refl, named)
form_of line (Rank query doc tuple) (queried, named, worded, is) = behind kw.Rank (query ++ 32 ∷ (doc ++ 32 ∷ tuple)) is (query, doc ++ 32 ∷ tuple, queried, refl, (doc, tuple, named, refl, worded))
form_of line (Nonempty query name) (queried, named, is) = behind kw.Test (query ++ 32 ∷ name) is (query, name, queried, refl, named)
form_of line (Has query name tuple) (queried, named, worded, is) = behind kw.Has (query ++ 32 ∷ (name ++ 32 ∷ tuple)) is (query, name ++ 32 ∷ tuple, queried, refl, (name, tuple, named, refl, worded))
form_of line (SaveFile file) (filed, is) = behind kw.Save (file) is filed
form_of line (OpenFile file) (filed, is) = behind kw.Open (file) is filed
form_of line (UnionQuery name left right) (n, l, r, is) = behind kw.Union (name ++ 32 ∷ (left ++ 32 ∷ right)) is (name, left ++ 32 ∷ right, n, refl, (left, right, l, refl, r))
form_of line (JoinQuery name left right) (n, l, r, is) = behind kw.Join (name ++ 32 ∷ (left ++ 32 ∷ right)) is (name, left ++ 32 ∷ right, n, refl, (left, right, l, refl, r))
form_of line (ProjectQuery name source keep) (n, l, r, is) = behind kw.Project (name ++ 32 ∷ (source ++ 32 ∷ keep)) is (name, source ++ 32 ∷ keep, n, refl, (source, keep, l, refl, r))
form_of line (ListAll query limit) (queried, given, lim, is) = behind kw.Listall (spaced query (limit_words given)) is (query, given, limit, queried, lim, refl)
form_of line (ReplaceDoc name query source by longest) (n, q, s, b, is) = behind kw.Replace (name ++ 32 ∷ (query ++ 32 ∷ (source ++ 32 ∷ spaced by (longest_words longest)))) is
    (name, query ++ 32 ∷ (source ++ 32 ∷ spaced by (longest_words longest)), n, refl, (query, source ++ 32 ∷ spaced by (longest_words longest), q, refl, (source, spaced by (longest_words longest), s, refl, (by, longest, b, refl))))
form_of line (MarkDocs name) (named, is) = behind kw.Mark (name) is named
form_of line (UnmarkDocs name) (named, is) = behind kw.Unmark (name) is named
form_of line (BackDocs name) (named, is) = behind kw.Back (name) is named
