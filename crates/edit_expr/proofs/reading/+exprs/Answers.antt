use Rattle.std.proofs.Common.{◌≡◌, ◌⊎◌, inl, inr, ℕ, true, false, List, ◌∷◌, ◌++◌, None, refl, sym, ap, subst, ◌∙◌, arith, codes}
use Rattle.std.specs.Fmt.{decimal}
use Rattle.std.proofs.lemmas.Result.{err_from_is_err_and}
use Rattle.span_types.specs.Names.{is_name}
use Rattle.edit_expr.specs.declared.expr.Expr.{Expr}
use Rattle.edit_expr.specs.declared.operation.Operation.{Operation}
use Rattle.edit_expr.specs.declared.operation.Operation.TheVariants as op
use Rattle.edit_expr.specs.declared.reading.ExprRefusal.{ExprRefusal}
use Rattle.edit_expr.specs.declared.reading.ExprRefusal.TheVariants.{NoMemory}
use Rattle.edit_expr.specs.Expressions.{AreTokens, tokens}
use Rattle.edit_expr.specs.Operations.{Fits, IsInside, Opens, operation_named, word_of}
use Rattle.edit_expr.proofs.WordLemmas.{letters_of, tails}
use Rattle.edit_expr.proofs.PrefixLemmas.{document_there, inside_of, named_is, operation_there}
use Rattle.edit_expr.proofs.reading.+exprs.Goals as goal

-- `EXPR,NUM,NUM`

pub range-returns-in_default-clause-exact : goal.range-returns-in_default-clause-exact
range-returns-in_default-clause-exact t c = λ e i j others fits hi hj closing w.
    absurd (c.in_default.ensures.exact i (codes "," ∷ decimal j ∷ others) hi (inl refl)
    (c.in_ok-from.ensures.exact e (codes "," ∷ decimal i ∷ codes "," ∷ decimal j ∷ others) fits (inl refl) w))

pub range-returns-in_default-number_at-clause-exact : goal.range-returns-in_default-number_at-clause-exact
range-returns-in_default-number_at-clause-exact t c = λ e i j others fits hi hj closing w.
    absurd (c.in_default-number_at.ensures.exact j others hj closing
    (c.in-Some.ensures.exact i (codes "," ∷ decimal j ∷ others) hi (inl refl)
    (c.in_ok-from.ensures.exact e (codes "," ∷ decimal i ∷ codes "," ∷ decimal j ∷ others) fits (inl refl) w)))

pub range-returns-clause-exact : goal.range-returns-clause-exact
range-returns-clause-exact t c = λ e i j others fits hi hj closing w.
    c.in-Some-number_at.ensures.exact j others hj closing
    (c.in-Some.ensures.exact i (codes "," ∷ decimal j ∷ others) hi (inl refl)
    (c.in_ok-from.ensures.exact e (codes "," ∷ decimal i ∷ codes "," ∷ decimal j ∷ others) fits (inl refl) w))

pub range-returns-clause-ok : goal.range-returns-clause-ok
range-returns-clause-ok t c =
    let is = c.in_ok-boxed.ensures in (
      subst (Fits c.args.depth) (sym is) c.in_ok-from.ensures.ok.0,
      c.in-Some.ensures.number.0,
      c.in-Some-number_at.ensures.number.0,
      λ others w. subst (λ (e : Expr). AreTokens (tokens e (codes "," ∷ decimal c.in-Some.i ∷ codes "," ∷ decimal c.in-Some-number_at.j ∷ others)) c.args.text.now) (sym is)
          (c.in_ok-from.ensures.ok.1 (codes "," ∷ decimal c.in-Some.i ∷ codes "," ∷ decimal c.in-Some-number_at.j ∷ others) (c.in-Some.ensures.number.1 (codes "," ∷ decimal c.in-Some-number_at.j ∷ others) (c.in-Some-number_at.ensures.number.1 others w))),
    )

-- a name

pub expression-returns-in_err-expr-clause-exact : goal.expression-returns-in_err-expr-clause-exact
expression-returns-in_err-expr-clause-exact t c = λ e others fits closing w.
    let there = document_there e c.args.depth others c.args.text.now c.word_at.result.0.now c.word_at.result.1.now fits closing w
    c.word_at.ensures.cut (letters_of c.word_at.result.0.now c.word_at.ensures.letters) c.word_at.ensures.whole c.in_default.ensures in
    let told = err_from_is_err_and c.from_residual.result c.from_residual.ensures.1 in
    rw (told.1, told.2) (by c.word_at.result.0.now c.in_err-expr.field-0.0 c.in_err-expr.ensures.syntax there.0)
  where
    by : (word : List ℕ) (why : ExprRefusal) → (why ≡ NoMemory) ⊎ (is_name word ≡ false) → is_name word ≡ true → why ≡ NoMemory
    by word why (inl m) h = m
    by word why (inr f) h = let bad : ⊥ = cc (f, h) in absurd bad

pub expression-returns-in_default-clause-exact : goal.expression-returns-in_default-clause-exact
expression-returns-in_default-clause-exact t c = λ e others fits closing w.
    (document_there e c.args.depth others c.args.text.now c.word_at.result.0.now c.word_at.result.1.now fits closing w
    c.word_at.ensures.cut (letters_of c.word_at.result.0.now c.word_at.ensures.letters) c.word_at.ensures.whole c.in_default.ensures).1

-- an operation

pub expression-returns-in_default-operation_of-clause-exact : goal.expression-returns-in_default-operation_of-clause-exact
expression-returns-in_default-operation_of-clause-exact t c = λ e others fits closing w.
    let there = operation_there e c.args.depth others c.args.text.now c.word_at.result.0.now c.word_at.result.1.now fits closing w
    c.word_at.ensures.cut (letters_of c.word_at.result.0.now c.word_at.ensures.letters) c.word_at.ensures.whole c.in-Some.inside.now c.in-Some.ensures in
    let none : None ≡ operation_named c.word_at.result.0.now = c.in_default-operation_of.ensures in
    let bad : ⊥ = cc (none, there.1) in absurd bad

pub expression-returns-then-depth-eq0-clause-exact : goal.expression-returns-then-depth-eq0-clause-exact
expression-returns-then-depth-eq0-clause-exact t c = λ e others fits closing w.
    let there = operation_there e c.args.depth others c.args.text.now c.word_at.result.0.now c.word_at.result.1.now fits closing w
    c.word_at.ensures.cut (letters_of c.word_at.result.0.now c.word_at.ensures.letters) c.word_at.ensures.whole c.in-Some.inside.now c.in-Some.ensures in
    let bad : ⊥ = omega (arith, there.2, c.if-depth-eq0.true) in absurd bad

pub expression-returns-in_err-prefix-clause-exact : goal.expression-returns-in_err-prefix-clause-exact
expression-returns-in_err-prefix-clause-exact t c = λ e others fits closing w.
    let there = operation_there e c.args.depth others c.args.text.now c.word_at.result.0.now c.word_at.result.1.now fits closing w
    c.word_at.ensures.cut (letters_of c.word_at.result.0.now c.word_at.ensures.letters) c.word_at.ensures.whole c.in-Some.inside.now c.in-Some.ensures in
    let inside = inside_of c.args.depth others c.word_at.result.0.now c.in-Some.inside.now c.in-Some-operation_of.operation c.in-Some-operation_of.ensures there in
    let told = err_from_is_err_and c.from_residual-in_err-prefix.result c.from_residual-in_err-prefix.ensures.1 in
    rw (told.1, told.2) (c.in_err-prefix.ensures.exact (codes ")" ∷ others) (inr refl) inside)

pub expression-returns-in_default-sign_at-clause-exact : goal.expression-returns-in_default-sign_at-clause-exact
expression-returns-in_default-sign_at-clause-exact t c = λ e others fits closing w.
    let there = operation_there e c.args.depth others c.args.text.now c.word_at.result.0.now c.word_at.result.1.now fits closing w
    c.word_at.ensures.cut (letters_of c.word_at.result.0.now c.word_at.ensures.letters) c.word_at.ensures.whole c.in-Some.inside.now c.in-Some.ensures in
    let inside = inside_of c.args.depth others c.word_at.result.0.now c.in-Some.inside.now c.in-Some-operation_of.operation c.in-Some-operation_of.ensures there in
    let left = c.in_ok-prefix.ensures.exact (codes ")" ∷ others) (inr refl) inside in
    absurd (c.in_default-sign_at.ensures left.0 left.1)

pub expression-returns-clause-exact : goal.expression-returns-clause-exact
expression-returns-clause-exact t c = λ e others fits closing w.
    let there = operation_there e c.args.depth others c.args.text.now c.word_at.result.0.now c.word_at.result.1.now fits closing w
    c.word_at.ensures.cut (letters_of c.word_at.result.0.now c.word_at.ensures.letters) c.word_at.ensures.whole c.in-Some.inside.now c.in-Some.ensures in
    let inside = inside_of c.args.depth others c.word_at.result.0.now c.in-Some.inside.now c.in-Some-operation_of.operation c.in-Some-operation_of.ensures there in
    let left = c.in_ok-prefix.ensures.exact (codes ")" ∷ others) (inr refl) inside in
    subst (AreTokens others) (tails 41 41 left.0 c.in-Some-sign_at.rest.now (sym left.1 ∙ c.in-Some-sign_at.ensures)) left.2

pub expression-returns-clause-ok : goal.expression-returns-clause-ok
expression-returns-clause-ok t c =
    let word : c.word_at.result.0.now ≡ word_of c.in-Some-operation_of.operation = named_is c.word_at.result.0.now c.in-Some-operation_of.operation (sym c.in-Some-operation_of.ensures) in
    let ok = c.in_ok-prefix.ensures.ok in (
      (ok.0.0, omega (arith, ok.0.1, c.if-depth-eq0.false)),
      λ others w. ok.1 c.args.text.now
          (λ inside v. (c.word_at.result.1.now, c.word_at.ensures.cut ∙ ap (λ (x : List ℕ). x ++ c.word_at.result.1.now) word, (c.in-Some.inside.now, c.in-Some.ensures, v)))
          others (c.in-Some-sign_at.rest.now, c.in-Some-sign_at.ensures, w),
    )

-- the operands of `concat`, `extract` and `delete`

opens_with : (k j : Operation) (whole text : List ℕ) → k ≡ j → Opens k whole text → Opens j whole text
opens_with k j whole text is opens = subst (λ (o : Operation). Opens o whole text) is opens

pub arguments-returns-in_ok-left-in-Concat-clause-ok : goal.arguments-returns-in_ok-left-in-Concat-clause-ok
arguments-returns-in_ok-left-in-Concat-clause-ok t c =
    let ok = c.in_ok-left-in-Concat.ensures.ok in (
      ((ok.0.0, ok.1.0), omega (arith, ok.0.1, ok.1.1)),
      λ whole opens others w. opens_with c.args.operation op.Concat whole c.args.text.now c.in-Concat.is opens _ (ok.2 (codes ")" ∷ others) w),
    )

pub arguments-returns-in_ok-from-in-Extract-clause-ok : goal.arguments-returns-in_ok-from-in-Extract-clause-ok
arguments-returns-in_ok-from-in-Extract-clause-ok t c =
    let ok = c.in_ok-from-in-Extract.ensures.ok in (
      ((ok.0.0, ok.1, ok.2), omega (arith, ok.0.1)),
      λ whole opens others w. opens_with c.args.operation op.Extract whole c.args.text.now c.in-Extract.is opens _ (ok.3 (codes ")" ∷ others) w),
    )

pub arguments-returns-in_ok-from-in-Delete-clause-ok : goal.arguments-returns-in_ok-from-in-Delete-clause-ok
arguments-returns-in_ok-from-in-Delete-clause-ok t c =
    let ok = c.in_ok-from-in-Delete.ensures.ok in (
      ((ok.0.0, ok.1, ok.2), omega (arith, ok.0.1)),
      λ whole opens others w. opens_with c.args.operation op.Delete whole c.args.text.now c.in-Delete.is opens _ (ok.3 (codes ")" ∷ others) w),
    )

-- the operands of `insert`

pub arguments-returns-in_default-clause-exact : goal.arguments-returns-in_default-clause-exact
arguments-returns-in_default-clause-exact t c = λ others closing inside.
    let parts : IsInside op.Insert c.args.depth others c.args.text.now = subst (λ (o : Operation). IsInside o c.args.depth others c.args.text.now) c.in-Insert.is inside in
    absurd (c.in_default.ensures.exact parts.2 others parts.5 closing
    (c.in_ok-into-in-Insert.ensures.exact parts.0 parts.1 (codes "," ∷ decimal parts.2 ∷ others) parts.3 parts.4 (inl refl) parts.6))

pub arguments-returns-in-Some-clause-exact : goal.arguments-returns-in-Some-clause-exact
arguments-returns-in-Some-clause-exact t c = λ others closing inside.
    let parts : IsInside op.Insert c.args.depth others c.args.text.now = subst (λ (o : Operation). IsInside o c.args.depth others c.args.text.now) c.in-Insert.is inside in
    c.in-Some.ensures.exact parts.2 others parts.5 closing
    (c.in_ok-into-in-Insert.ensures.exact parts.0 parts.1 (codes "," ∷ decimal parts.2 ∷ others) parts.3 parts.4 (inl refl) parts.6)

pub arguments-returns-in-Some-clause-ok : goal.arguments-returns-in-Some-clause-ok
arguments-returns-in-Some-clause-ok t c =
    let ok = c.in_ok-into-in-Insert.ensures.ok in (
      ((ok.0.0, ok.1.0, c.in-Some.ensures.number.0), omega (arith, ok.0.1, ok.1.1)),
      λ whole opens others w. opens_with c.args.operation op.Insert whole c.args.text.now c.in-Insert.is opens _
          (ok.2 (codes "," ∷ decimal c.in-Some.k ∷ codes ")" ∷ others) (c.in-Some.ensures.number.1 (codes ")" ∷ others) w)),
    )

-- the operands of `copy`

pub arguments-returns-in_default-number_at-clause-exact : goal.arguments-returns-in_default-number_at-clause-exact
arguments-returns-in_default-number_at-clause-exact t c = λ others closing inside.
    let parts : IsInside op.Copy c.args.depth others c.args.text.now = subst (λ (o : Operation). IsInside o c.args.depth others c.args.text.now) c.in-Copy.is inside in
    absurd (c.in_default-number_at.ensures.exact parts.3 others parts.7 closing
    (c.in_ok-from-in-Copy.ensures.exact parts.0 parts.1 parts.2 (codes "," ∷ decimal parts.3 ∷ others) parts.4 parts.5 parts.6 (inl refl) parts.8))

pub arguments-returns-in-Some-number_at-clause-exact : goal.arguments-returns-in-Some-number_at-clause-exact
arguments-returns-in-Some-number_at-clause-exact t c = λ others closing inside.
    let parts : IsInside op.Copy c.args.depth others c.args.text.now = subst (λ (o : Operation). IsInside o c.args.depth others c.args.text.now) c.in-Copy.is inside in
    c.in-Some-number_at.ensures.exact parts.3 others parts.7 closing
    (c.in_ok-from-in-Copy.ensures.exact parts.0 parts.1 parts.2 (codes "," ∷ decimal parts.3 ∷ others) parts.4 parts.5 parts.6 (inl refl) parts.8)

pub arguments-returns-in-Some-number_at-clause-ok : goal.arguments-returns-in-Some-number_at-clause-ok
arguments-returns-in-Some-number_at-clause-ok t c =
    let ok = c.in_ok-from-in-Copy.ensures.ok in (
      ((ok.0.0, ok.1, ok.2, c.in-Some-number_at.ensures.number.0), omega (arith, ok.0.1)),
      λ whole opens others w. opens_with c.args.operation op.Copy whole c.args.text.now c.in-Copy.is opens _
          (ok.3 (codes "," ∷ decimal c.in-Some-number_at.k ∷ codes ")" ∷ others) (c.in-Some-number_at.ensures.number.1 (codes ")" ∷ others) w)),
    )
