-- The parser's statements about the start of a text.
use Rattle.std.specs.Prelude.{◌≡◌, ◌⊎◌, ℕ, ◌≤◌, ◌<◌, ◌^◌, false, List, [], ◌∷◌, codes, slice_get, Option}
use Rattle.std.specs.List.{find}
use Rattle.std.specs.Str.{bytes_eq}
use Rattle.std.specs.Fmt.{decimal}
use Rattle.std.specs.Option.{option_map_or}
use Rattle.span_types.specs.Names.{is_later_byte}
use Rattle.edit_expr.specs.declared.expr.Expr.{Expr}
use Rattle.edit_expr.specs.declared.operation.Operation.{Operation}
use Rattle.edit_expr.specs.declared.operation.Operation.TheVariants.{Concat, Extract, Delete, Insert, Copy}
use Rattle.edit_expr.specs.Expressions.{AreTokens, IsWritable, nesting, tokens}

-- the keyword of an operation
abbrev pub word_of : Operation → List ℕ
word_of Concat = codes "concat"
word_of Extract = codes "extract"
word_of Delete = codes "delete"
word_of Insert = codes "insert"
word_of Copy = codes "copy"

-- the operation with this keyword
abbrev pub operation_named : List ℕ → Option Operation
operation_named word = find (λ o. bytes_eq (word_of o) word) (Concat ∷ Extract ∷ Delete ∷ Insert ∷ Copy ∷ [])

-- the text does not continue with a byte of a word
abbrev pub IsWordEnd : List ℕ → Type 0
IsWordEnd text = option_map_or is_later_byte (slice_get text 0) false ≡ false

-- the text is tokens followed by `rest`; `prefix` prepends these tokens to others
abbrev pub Begins : (List (List ℕ) → List (List ℕ)) → List ℕ → List ℕ → Type 0
Begins prefix text rest = (others : List (List ℕ)) → AreTokens others rest → AreTokens (prefix others) text

-- what may follow an expression or a number: the end, `,` or `)`
abbrev pub IsClosing : List (List ℕ) → Type 0
IsClosing [] = Unit {0}
IsClosing (token ∷ tokens) = (token ≡ codes ",") ⊎ (token ≡ codes ")")

-- an expression that can be written, nested at most this deep
abbrev pub Fits : ℕ → Expr → Type 0
Fits depth e = IsWritable e × (nesting e ≤ depth)

-- the text is the keyword of the operation, `(` and then `inside`
abbrev pub Opens : Operation → List ℕ → List ℕ → Type 0
Opens operation text inside = Begins (λ others. word_of operation ∷ codes "(" ∷ others) text inside

-- the text is the operands of the operation, each nested at most this deep and separated by `,`, and then others
abbrev pub IsInside : Operation → ℕ → List (List ℕ) → List ℕ → Type 0
IsInside Concat depth others text = (l : Expr) × (r : Expr) × Fits depth l × Fits depth r
    × AreTokens (tokens l (codes "," ∷ tokens r others)) text
IsInside Extract depth others text = (of : Expr) × (i : ℕ) × (j : ℕ) × Fits depth of × (i < 2 ^ 64) × (j < 2 ^ 64)
    × AreTokens (tokens of (codes "," ∷ decimal i ∷ codes "," ∷ decimal j ∷ others)) text
IsInside Delete depth others text = (of : Expr) × (i : ℕ) × (j : ℕ) × Fits depth of × (i < 2 ^ 64) × (j < 2 ^ 64)
    × AreTokens (tokens of (codes "," ∷ decimal i ∷ codes "," ∷ decimal j ∷ others)) text
IsInside Insert depth others text = (l : Expr) × (r : Expr) × (k : ℕ) × Fits depth l × Fits depth r × (k < 2 ^ 64)
    × AreTokens (tokens l (codes "," ∷ tokens r (codes "," ∷ decimal k ∷ others))) text
IsInside Copy depth others text = (of : Expr) × (i : ℕ) × (j : ℕ) × (k : ℕ) × Fits depth of × (i < 2 ^ 64) × (j < 2 ^ 64) × (k < 2 ^ 64)
    × AreTokens (tokens of (codes "," ∷ decimal i ∷ codes "," ∷ decimal j ∷ codes "," ∷ decimal k ∷ others)) text
