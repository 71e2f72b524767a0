-- The syntax of editing expressions.
use Rattle.std.specs.Prelude.{◌≡◌, ℕ, ◌≤◌, ◌<◌, ◌+◌, ◌^◌, ◌==◌, max, true, List, [], ◌∷◌, ◌++◌, codes, if◌then◌else◌}
use Rattle.std.specs.Fmt.{decimal}
use Rattle.span_types.specs.Names.{is_name}
use Rattle.edit_expr.specs.declared.expr.Expr.{Expr}
use Rattle.edit_expr.specs.declared.expr.Expr.TheVariants.{Doc, Concat', Extract', Delete', Insert', Copy'}

-- the text without its leading spaces
abbrev pub trimmed : List ℕ → List ℕ
trimmed [] = []
trimmed (b ∷ bs) = if b == 32 then trimmed bs else b ∷ bs

-- the text is these tokens in their order, with any number of spaces before each and after the last
abbrev pub AreTokens : List (List ℕ) → List ℕ → Type 0
AreTokens [] text = trimmed text ≡ []
AreTokens (token ∷ tokens) text = (rest : List ℕ) × (trimmed text ≡ token ++ rest) × AreTokens tokens rest

-- the tokens of an expression, before others
abbrev pub tokens : Expr → List (List ℕ) → List (List ℕ)
tokens (Doc name) others = name ∷ others
tokens (Concat' p l q r) others = codes "concat" ∷ codes "(" ∷ tokens l (codes "," ∷ tokens r (codes ")" ∷ others))
tokens (Extract' p of i j) others = codes "extract" ∷ codes "(" ∷ tokens of (codes "," ∷ decimal i ∷ codes "," ∷ decimal j ∷ codes ")" ∷ others)
tokens (Delete' p of i j) others = codes "delete" ∷ codes "(" ∷ tokens of (codes "," ∷ decimal i ∷ codes "," ∷ decimal j ∷ codes ")" ∷ others)
tokens (Insert' p l q r k) others = codes "insert" ∷ codes "(" ∷ tokens l (codes "," ∷ tokens r (codes "," ∷ decimal k ∷ codes ")" ∷ others))
tokens (Copy' p of i j k) others = codes "copy" ∷ codes "(" ∷ tokens of (codes "," ∷ decimal i ∷ codes "," ∷ decimal j ∷ codes "," ∷ decimal k ∷ codes ")" ∷ others)

-- each document has a name of 1 to 64 bytes, and each number is below 2 ^ 64
abbrev pub IsWritable : Expr → Type 0
IsWritable (Doc name) = is_name name ≡ true
IsWritable (Concat' p l q r) = IsWritable l × IsWritable r
IsWritable (Extract' p of i j) = IsWritable of × (i < 2 ^ 64) × (j < 2 ^ 64)
IsWritable (Delete' p of i j) = IsWritable of × (i < 2 ^ 64) × (j < 2 ^ 64)
IsWritable (Insert' p l q r k) = IsWritable l × IsWritable r × (k < 2 ^ 64)
IsWritable (Copy' p of i j k) = IsWritable of × (i < 2 ^ 64) × (j < 2 ^ 64) × (k < 2 ^ 64)

-- a name has nesting 0, and an operation has one more than the greatest of its parts
abbrev pub nesting : Expr → ℕ
nesting (Doc name) = 0
nesting (Concat' p l q r) = max (nesting l) (nesting r) + 1
nesting (Extract' p of i j) = nesting of + 1
nesting (Delete' p of i j) = nesting of + 1
nesting (Insert' p l q r k) = max (nesting l) (nesting r) + 1
nesting (Copy' p of i j k) = nesting of + 1

-- the text is the notation of the expression
pub record ExprReads (text : List ℕ) (expr : Expr) : Type 0 where
  pub writable : IsWritable expr
  pub written : AreTokens (tokens expr []) text
  pub nested : nesting expr ≤ 64
