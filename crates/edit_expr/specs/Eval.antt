-- What an editing expression means on plain texts.
use Rattle.std.specs.Prelude.{ℕ, ◌+◌, ◌-◌, ◌^◌, max, cond, nat_le, List, [], ◌∷◌, ◌++◌, length, take, drop, slice_range, Result, Ok, Err}
use Rattle.span_types.specs.Ranges.{is_range}
use Rattle.doc_book.specs.Docs.{is_same}
use Rattle.doc_book.specs.Texts.{Document}
use Rattle.edit_expr.specs.declared.expr.Expr.{Expr}
use Rattle.edit_expr.specs.declared.expr.Expr.TheVariants.{Doc, Concat', Extract', Delete', Insert', Copy'}
use Rattle.edit_expr.specs.declared.refusal.EditRefusal.{EditRefusal}
use Rattle.edit_expr.specs.declared.refusal.EditRefusal.TheVariants.{NoSuchDocument, OutOfRange, TooLong}

-- a text, or the first rejection
abbrev pub Outcome : Type 0
Outcome = Result (List ℕ) EditRefusal

-- the value of the next step, if there is a text so far
abbrev pub onward : Outcome → (List ℕ → Outcome) → Outcome
onward (Ok text) next = next text
onward (Err why) next = Err why

-- the text of the document with this name
abbrev pub named : List Document → List ℕ → Outcome
named [] name = Err (NoSuchDocument name)
named (d ∷ ds) name = cond (is_same name d.0) (Ok d.1) (named ds name)

-- the text, or a rejection if it has more than 2^48 bytes
abbrev pub fitting : List ℕ → Outcome
fitting text = cond (nat_le (length text) (2 ^ 48)) (Ok text) (Err (TooLong (length text)))

-- the outcome if this is a range of n bytes, and otherwise the rejection
abbrev pub ranged : ℕ → ℕ → ℕ → Outcome → Outcome
ranged i j n next = cond (is_range i j n) next (Err (OutOfRange i j n))

-- the first text followed by the second
abbrev pub joined : List ℕ → List ℕ → Outcome
joined d e = fitting (d ++ e)

-- bytes i to j-1
abbrev pub extracted : List ℕ → ℕ → ℕ → Outcome
extracted d i j = ranged i j (length d) (Ok (slice_range d (i - 1) (j - 1)))

-- the text without bytes i to j-1
abbrev pub deleted : List ℕ → ℕ → ℕ → Outcome
deleted d i j = ranged i j (length d) (Ok (take (i - 1) d ++ drop (j - 1) d))

-- the first k-1 bytes of d, then e, then the rest of d
abbrev pub inserted : List ℕ → List ℕ → ℕ → Outcome
inserted d e k = ranged k k (length d) (fitting (take (k - 1) d ++ (e ++ drop (k - 1) d)))

-- d with a copy of its bytes i to j-1 inserted before byte k
abbrev pub copied : List ℕ → ℕ → ℕ → ℕ → Outcome
copied d i j k = onward (extracted d i j) (λ e. inserted d e k)

-- the value of an expression: evaluated from left to right, operands first; the first rejection is the result, the
-- first rejection wins
abbrev pub eval : List Document → Expr → Outcome
eval docs (Doc name) = named docs name
eval docs (Concat' p l q r) = onward (eval docs l) (λ d. onward (eval docs r) (λ e. joined d e))
eval docs (Extract' p of i j) = onward (eval docs of) (λ d. extracted d i j)
eval docs (Delete' p of i j) = onward (eval docs of) (λ d. deleted d i j)
eval docs (Insert' p l q r k) = onward (eval docs l) (λ d. onward (eval docs r) (λ e. inserted d e k))
eval docs (Copy' p of i j k) = onward (eval docs of) (λ d. copied d i j k)

-- the length of a text, and 0 for a rejection
abbrev pub size : Outcome → ℕ
size (Ok text) = length text
size (Err why) = 0

-- n if there is a text so far, and otherwise 0
abbrev pub reached : Outcome → ℕ → ℕ
reached (Ok text) n = n
reached (Err why) n = 0

-- the greatest length of a value that the evaluation meets before it ends
abbrev pub greatest : List Document → Expr → ℕ
greatest docs (Doc name) = size (eval docs (Doc name))
greatest docs (Concat' p l q r) = max (greatest docs l) (reached (eval docs l) (max (greatest docs r) (size (eval docs (Concat' p l q r)))))
greatest docs (Extract' p of i j) = max (greatest docs of) (size (eval docs (Extract' p of i j)))
greatest docs (Delete' p of i j) = max (greatest docs of) (size (eval docs (Delete' p of i j)))
greatest docs (Insert' p l q r k) = max (greatest docs l) (reached (eval docs l) (max (greatest docs r) (size (eval docs (Insert' p l q r k)))))
greatest docs (Copy' p of i j k) = max (greatest docs of) (size (eval docs (Copy' p of i j k)))

-- the number of operations
abbrev pub operations : Expr → ℕ
operations (Doc name) = 0
operations (Concat' p l q r) = operations l + operations r + 1
operations (Extract' p of i j) = operations of + 1
operations (Delete' p of i j) = operations of + 1
operations (Insert' p l q r k) = operations l + operations r + 1
operations (Copy' p of i j k) = operations of + 1
