-- An expression has exactly one value, or exactly one first rejection.
use Rattle.std.proofs.Common.{◌≡◌, ℕ, List, sym, ◌∙◌, subst}
use Rattle.span_language.proofs.Names.{Documents, EditRefusal, Err, eval, Expr, ExprReads, IsEditRefusal, Ok, one_expression, Refusal, Result}
use Rattle.edit_expr.specs.declared.refusal.EditRefusal.TheVariants as edit
use Rattle.span_language.proofs.Values.{not_both, one_err, one_ok}

same_refusal : (r : EditRefusal) (why other : Refusal) → IsEditRefusal r why → IsEditRefusal r other → why ≡ other
same_refusal edit.NoMemory why other h k = absurd h
same_refusal _ why other h k = h ∙ sym k

module _ (docs : Documents) (text : List ℕ) where
  -- the value of the other expression with the same notation
  as_first : (e f : Expr) (r : Result (List ℕ) EditRefusal) → ExprReads text e → ExprReads text f → eval docs f ≡ r → eval docs e ≡ r
  as_first e f r h k is = (one_expression text e f h k).values docs ∙ is

  pub one_text : (e f : Expr) (s t : List ℕ) → ExprReads text e → ExprReads text f → eval docs e ≡ Ok s → eval docs f ≡ Ok t → s ≡ t
  one_text e f s t h k is same = one_ok (eval docs e) s t is (as_first e f (Ok t) h k same)

  pub text_once : (e f : Expr) (s : List ℕ) (r : EditRefusal) → ExprReads text e → ExprReads text f → eval docs e ≡ Ok s → eval docs f ≡ Err r → ⊥
  text_once e f s r h k is same = not_both (eval docs e) s r is (as_first e f (Err r) h k same)

  pub one_edit_refusal : (e f : Expr) (r t : EditRefusal) (why other : Refusal) → ExprReads text e → ExprReads text f → eval docs e ≡ Err r → eval docs f ≡ Err t
      → IsEditRefusal r why → IsEditRefusal t other → why ≡ other
  one_edit_refusal e f r t why other h k is same a b =
      same_refusal t why other (subst (λ z. IsEditRefusal z why) (one_err (eval docs e) r t is (as_first e f (Err t) h k same)) a) b
