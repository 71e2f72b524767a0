-- The maximum number of table lookups and node constructions of a line.
use Rattle.std.specs.Prelude.{◌≡◌, ◌⊎◌, ℕ, Bool, if◌then◌else◌, ◌+◌, ◌*◌, ◌/◌, ◌≤◌, List, length, min}
use Rattle.span_types.specs.Fibonacci.{height_limit, looks_limit}
use Rattle.span_types.specs.Query.{Query}
use Rattle.span_types.specs.Rel.{names_of}
use Rattle.script_syntax.specs.declared.form.Command.{Command}
use Rattle.script_syntax.specs.declared.form.Command.TheVariants as form
use Rattle.script_syntax.specs.declared.form.Command.TheVariants.{Text, LoadFile, ShareFile, QuotedText, LetDoc, OpenFile}
use Rattle.script_syntax.specs.declared.form.ListStart.{ListStart}
use Rattle.script_syntax.specs.declared.form.ListStart.TheVariants.{At}
use Rattle.report_text.specs.declared.refusal.Refusal.{Refusal}
use Rattle.slp_image.specs.Image.{image}
use Rattle.span_enum.specs.Members.{Tuple}
use Rattle.span_cursor.specs.Tuples.{TupleText}
use Rattle.edit_expr.specs.declared.expr.Expr.{Expr}
use Rattle.edit_expr.specs.Expressions.{ExprReads}
use Rattle.edit_expr.specs.Eval.{greatest, operations}
use Rattle.span_language.specs.State.{World}
use Rattle.span_language.specs.Listed.{IsListReply}
use Rattle.span_language.specs.Step.{IsWithin, IsAsked, IsFileRefused, IsRefused, IsReplacing, IsTakenOf, IsUnaskedOf, IsUnreplaced, load_size, most_spans, open_size}
use Rattle.span_types.specs.declared.tuple.Span.{Span}

-- the maximum number of table lookups and of node constructions
pub record Allowance : Type 0 where
  pub looks : ℕ
  pub pairs : ℕ

-- nothing may be spent
abbrev pub no_steps : Allowance
no_steps = record { looks = 0; pairs = 0 }

-- the sum of two allowances
abbrev pub both_of : Allowance → Allowance → Allowance
both_of a b = record { looks = a.looks + b.looks; pairs = a.pairs + b.pairs }

-- the maximum number of node constructions for loading n bytes
abbrev pub load_limit : ℕ → ℕ
load_limit n = n + 4 * (height_limit n + 1)

-- and for sharing them
abbrev pub share_limit : ℕ → ℕ
share_limit n = n + (n / 65536 + 1) * (6 * height_limit n + 1)

-- the maximum number of node constructions for this many operations on texts of at most n bytes
abbrev pub edit_limit : ℕ → ℕ → ℕ
edit_limit count n = 48 * count * (height_limit n + 1)

-- the maximum number of table lookups for one answer of a query on a text
abbrev pub answer_limit : Query → List ℕ → ℕ
answer_limit q text = looks_limit (length (names_of q)) (length text)

-- the maximum number of table lookups for this many answers, and no node constructions
abbrev pub answers_steps : ℕ → Query → List ℕ → Allowance
answers_steps count q text = record { looks = count * answer_limit q text; pairs = 0 }

-- beside those that it writes, a listing costs this many answers: three, and one more to find the answer with a number
abbrev pub more_answers : ListStart → ℕ
more_answers (At m) = 4
more_answers _ = 3

-- the maximum number of steps for replacing c of the longest or of the chosen spans of a text of n bytes
abbrev pub replace_steps : Bool → ℕ → ℕ → Allowance
replace_steps longest c n = record { looks = (if longest then 8 else 3) * (c + 1) * looks_limit 1 n; pairs = 1770 * (c + 1) }

-- nothing if the command is rejected
abbrev pub IsFree : (Refusal → Type 0) → Allowance → Type 0
IsFree Refuses a = (why : Refusal) × Refuses why × (a ≡ no_steps)

-- nothing if the file is rejected, or the maximum number of node constructions for its length
abbrev pub IsFileAllowed : World → List ℕ → (ℕ → ℕ) → Allowance → Type 0
IsFileAllowed old file limit a = IsFree (IsFileRefused old.files file load_size) a
    ⊎ ((bytes : List ℕ) × IsWithin old.files file load_size bytes × (a ≡ record { looks = 0; pairs = limit (length bytes) }))

-- the allowance of a command, by its step
abbrev pub IsAllowed : World → Command → Allowance → Type 0
IsAllowed old (Text name bytes) a = a ≡ record { looks = 0; pairs = load_limit (length bytes) }
IsAllowed old (QuotedText name bytes) a = a ≡ record { looks = 0; pairs = load_limit (length bytes) }
IsAllowed old (LoadFile name file) a = IsFileAllowed old file load_limit a
IsAllowed old (ShareFile name file) a = IsFileAllowed old file share_limit a
IsAllowed old (LetDoc name expr) a = (((e : Expr) → ExprReads expr e → ⊥) × (a ≡ no_steps))
    ⊎ ((e : Expr) × ExprReads expr e × (a ≡ record { looks = 0; pairs = edit_limit (operations e) (greatest old.state.documents e) }))
IsAllowed old (form.List query name start n) a = IsFree (IsRefused old (form.List query name start n)) a
    ⊎ ((q : Query) × (text : List ℕ) × (reply : List ℕ) × IsAsked old query name q text × (is : IsListReply q text start n reply)
    × (a ≡ answers_steps (length is.page + more_answers start) q text))
IsAllowed old (form.Rank query name word) a = IsFree (IsUnaskedOf old query name word) a
    ⊎ ((q : Query) × (text : List ℕ) × (tuple : Tuple) × IsAsked old query name q text × TupleText word (names_of q) tuple × (a ≡ answers_steps 1 q text))
IsAllowed old (form.Nonempty query name) a = IsFree (IsRefused old (form.Nonempty query name)) a
    ⊎ ((q : Query) × (text : List ℕ) × IsAsked old query name q text × (a ≡ answers_steps 1 q text))
IsAllowed old (form.Has query name word) a = IsFree (IsRefused old (form.Has query name word)) a
    ⊎ ((q : Query) × (text : List ℕ) × (tuple : Tuple) × IsAsked old query name q text × TupleText word (names_of q) tuple × (a ≡ answers_steps 1 q text))
IsAllowed old (OpenFile file) a = ((why : Refusal) × IsFileRefused old.files file open_size why × (a ≡ no_steps))
    ⊎ ((bytes : List ℕ) × IsWithin old.files file open_size bytes × (a ≡ record { looks = 0; pairs = (image bytes).cost }))
IsAllowed old (form.ReplaceDoc name query source by longest) a = IsFree (IsUnreplaced old query source by) a
    ⊎ ((q : Query) × (text other : List ℕ) × (spans : List Span) × IsReplacing old query source by q text other × IsTakenOf longest q text spans
    × (a ≡ replace_steps longest (min (length spans) most_spans) (length text)))
IsAllowed old _ a = a ≡ no_steps

-- the counters of table lookups and node constructions
pub record Counters : Type 0 where
  pub looks : ℕ
  pub pairs : ℕ

abbrev pub counters : ℕ → ℕ → Counters
counters looks pairs = record { looks = looks; pairs = pairs }

-- the counters increased by at most the allowance
pub record IsPaid (a : Allowance) (before after : Counters) : Type 0 where
  pub looks : after.looks ≤ before.looks + a.looks
  pub pairs : after.pairs ≤ before.pairs + a.pairs

-- the counters increased by at most the allowance of the command
abbrev pub PaysFor : World → Command → Counters → Counters → Type 0
PaysFor old command before after = (a : Allowance) × IsAllowed old command a × IsPaid a before after

-- the same for a command that may have been stopped before it began
abbrev pub PaysForPart : World → Command → Counters → Counters → Type 0
PaysForPart old command before after = (a : Allowance) × ((a ≡ no_steps) ⊎ IsAllowed old command a) × IsPaid a before after
