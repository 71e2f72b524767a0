-- What the first word of a text implies for the expression that the text starts with.
use Rattle.std.proofs.Common.{◌≡◌, ◌⊎◌, inl, inr, ℕ, ◌-◌, ◌≤◌, Bool, true, false, cond, List, [], ◌∷◌, ◌++◌, Option, Some, refl, sym, ap, subst, ◌∙◌, arith, codes}
use Rattle.span_types.specs.Names.{is_name}
use Rattle.line_parts.proofs.Keywords as keywords
use Rattle.edit_expr.specs.declared.expr.Expr.{Expr}
use Rattle.edit_expr.specs.declared.expr.Expr.TheVariants.{Doc, Concat', Extract', Delete', Insert', Copy'}
use Rattle.edit_expr.specs.declared.operation.Operation.{Operation}
use Rattle.edit_expr.specs.declared.operation.Operation.TheVariants as op
use Rattle.edit_expr.specs.Expressions.{AreTokens, tokens, trimmed}
use Rattle.edit_expr.specs.Operations.{Fits, IsClosing, IsInside, IsWordEnd, operation_named, word_of}
use Rattle.edit_expr.proofs.WordLemmas.{AreLetters, closing_end, closing_shut, name_letters, sign_end, tails, word_same}

pub named_itself : (k : Operation) → operation_named (word_of k) ≡ Some k
named_itself op.Concat = refl
named_itself op.Extract = refl
named_itself op.Delete = refl
named_itself op.Insert = refl
named_itself op.Copy = refl

pub word_letters : (k : Operation) → AreLetters (word_of k)
word_letters op.Concat = refl
word_letters op.Extract = refl
word_letters op.Delete = refl
word_letters op.Insert = refl
word_letters op.Copy = refl

pub named_is : (word : List ℕ) (k : Operation) → operation_named word ≡ Some k → word ≡ word_of k
named_is word k e = keywords.named_is word_of word (op.Concat ∷ op.Extract ∷ op.Delete ∷ op.Insert ∷ op.Copy ∷ []) k e

-- a document, or an operation with its operands
pub data ParsedPrefix (depth : ℕ) (others : List (List ℕ)) (text : List ℕ) : Type 0 where
  document : (name rest : List ℕ) → is_name name ≡ true → trimmed text ≡ name ++ rest → AreTokens others rest → ParsedPrefix depth others text
  operation : (k : Operation) (a b : List ℕ) → trimmed text ≡ word_of k ++ a → trimmed a ≡ 40 ∷ b → 1 ≤ depth → IsInside k (depth - 1) (codes ")" ∷ others) b → ParsedPrefix depth others text

prefix_of : (e : Expr) (depth : ℕ) (others : List (List ℕ)) (text : List ℕ) → Fits depth e → AreTokens (tokens e others) text → ParsedPrefix depth others text
prefix_of (Doc name) depth others text fits (a, word, t) = document name a fits.0 word t
prefix_of (Concat' p l q r) depth others text fits (a, word, (b, sign, t)) =
    operation op.Concat a b word sign (omega (arith, fits.1)) (l, r, (fits.0.0, omega (arith, fits.1)), (fits.0.1, omega (arith, fits.1)), t)
prefix_of (Extract' p of i j) depth others text fits (a, word, (b, sign, t)) =
    operation op.Extract a b word sign (omega (arith, fits.1)) (of, i, j, (fits.0.0, omega (arith, fits.1)), fits.0.1, fits.0.2, t)
prefix_of (Delete' p of i j) depth others text fits (a, word, (b, sign, t)) =
    operation op.Delete a b word sign (omega (arith, fits.1)) (of, i, j, (fits.0.0, omega (arith, fits.1)), fits.0.1, fits.0.2, t)
prefix_of (Insert' p l q r k) depth others text fits (a, word, (b, sign, t)) =
    operation op.Insert a b word sign (omega (arith, fits.1)) (l, r, k, (fits.0.0, omega (arith, fits.1)), (fits.0.1, omega (arith, fits.1)), fits.0.2, t)
prefix_of (Copy' p of i j k) depth others text fits (a, word, (b, sign, t)) =
    operation op.Copy a b word sign (omega (arith, fits.1)) (of, i, j, k, (fits.0.0, omega (arith, fits.1)), fits.0.1, fits.0.2, fits.0.3, t)

-- the longest word at the start is `word`, and `rest` comes after it
module _ (e : Expr) (depth : ℕ) (others : List (List ℕ)) (text word rest : List ℕ) (fits : Fits depth e) (closing : IsClosing others) (written : AreTokens (tokens e others) text)
    (cut : trimmed text ≡ word ++ rest) (letters : AreLetters word) (end : IsWordEnd rest) where
  same_name : (name a : List ℕ) → is_name name ≡ true → trimmed text ≡ name ++ a → AreTokens others a → (word ≡ name) × (rest ≡ a)
  same_name name a h is t = word_same word name rest a letters (name_letters name h) end (closing_end others a closing t) (sym cut ∙ is)

  same_call : (k : Operation) (a b : List ℕ) → trimmed text ≡ word_of k ++ a → trimmed a ≡ 40 ∷ b → (word ≡ word_of k) × (rest ≡ a)
  same_call k a b is sign = word_same word (word_of k) rest a letters (word_letters k) end (sign_end 40 a b refl sign) (sym cut ∙ is)

  -- if no bracket opens after the word, it is a document
  pub document_there : ((r : List ℕ) → trimmed rest ≡ 40 ∷ r → ⊥) → (is_name word ≡ true) × AreTokens others rest
  document_there shut = by (prefix_of e depth others text fits written)
    where
      by : ParsedPrefix depth others text → (is_name word ≡ true) × AreTokens others rest
      by (document name a h is t) = let same = same_name name a h is t in (ap is_name same.0 ∙ h, subst (AreTokens others) (sym same.1) t)
      by (operation k a b is sign some inside) = absurd (shut b (ap trimmed (same_call k a b is sign).1 ∙ sign))

  -- if one opens, it is an operation
  pub operation_there : (behind : List ℕ) → trimmed rest ≡ 40 ∷ behind → (k : Operation) × (operation_named word ≡ Some k) × (1 ≤ depth) × IsInside k (depth - 1) (codes ")" ∷ others) behind
  operation_there behind opened = by (prefix_of e depth others text fits written)
    where
      by : ParsedPrefix depth others text → (k : Operation) × (operation_named word ≡ Some k) × (1 ≤ depth) × IsInside k (depth - 1) (codes ")" ∷ others) behind
      by (document name a h is t) = absurd (closing_shut others a behind closing t (ap trimmed (sym (same_name name a h is t).1) ∙ opened))
      by (operation k a b is sign some inside) =
          let same = same_call k a b is sign in
          let at : b ≡ behind = tails 40 40 b behind (sym sign ∙ (ap trimmed (sym same.1) ∙ opened)) in
          (k, ap operation_named same.0 ∙ named_itself k, some, subst (IsInside k (depth - 1) (codes ")" ∷ others)) at inside)

-- the operation with this keyword is that of the expression
pub inside_of : (depth : ℕ) (others : List (List ℕ)) (word behind : List ℕ) (j : Operation) → Some j ≡ operation_named word
    → (k : Operation) × (operation_named word ≡ Some k) × (1 ≤ depth) × IsInside k (depth - 1) (codes ")" ∷ others) behind → IsInside j (depth - 1) (codes ")" ∷ others) behind
inside_of depth others word behind j is (k, named, some, inside) =
    let same : k ≡ j = cc (is, named) in subst (λ (i : Operation). IsInside i (depth - 1) (codes ")" ∷ others) behind) same inside
