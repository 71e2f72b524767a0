-- How the evaluated operands contribute to the value and the cost of an expression.
use Rattle.std.proofs.Common.{◌≡◌, ◌⊎◌, inl, inr, ℕ, ◌+◌, ◌≤◌, max, List, length, Ok, Err, sym, ap, subst, arith}
use Rattle.edit_expr.specs.declared.expr.Expr.{Expr}
use Rattle.edit_expr.specs.declared.refusal.EditRefusal.{EditRefusal}
use Rattle.edit_expr.specs.declared.refusal.EditRefusal.TheVariants.{NoMemory}
use Rattle.doc_book.specs.Texts.{Document}
use Rattle.edit_expr.specs.Eval.{Outcome, eval, greatest, onward, reached}
use Rattle.edit_expr.specs.Costs.{edit_cost, total_cost}
use Rattle.edit_expr.proofs.EvalLemmas.{size-most}

-- the operand was evaluated to this text, and the counter of node constructions increased from p to q
pub record IsPart (docs : List Document) (e : Expr) (text : List ℕ) (p q : ℕ) : Type 0 where
  pub value : eval docs e ≡ Ok text
  pub cost : (n : ℕ) → greatest docs e ≤ n → q ≤ p + total_cost (edit_cost n) e

-- what holds of an expression in a box, on documents with the same texts
pub unboxed : (P : List Document → Expr → Type 0) (docs old : List Document) (e boxed : Expr) → old ≡ docs → boxed ≡ e → P old boxed → P docs e
unboxed P docs old e boxed same is h = subst (λ (ds : List Document). P ds e) same (subst (P old) is h)

pub part_of : (docs old : List Document) (e boxed : Expr) (text : List ℕ) (p q : ℕ) → old ≡ docs → boxed ≡ e → eval old boxed ≡ Ok text → ((n : ℕ) → greatest old boxed ≤ n → q ≤ p + total_cost (edit_cost n) boxed) → IsPart docs e text p q
part_of docs old e boxed text p q same is value cost = unboxed (λ ds f. IsPart ds f text p q) docs old e boxed same is (record { value = value; cost = cost })

-- an operation on one operand
pub one_cost : (docs : List Document) (e whole : Expr) (x : List ℕ) (p q r n last : ℕ) → IsPart docs e x p q → greatest docs whole ≡ max (greatest docs e) last → total_cost (edit_cost n) whole ≡ total_cost (edit_cost n) e + edit_cost n
    → (length x ≤ n → r ≤ q + edit_cost n) → greatest docs whole ≤ n → r ≤ p + total_cost (edit_cost n) whole
one_cost docs e whole x p q r n last part most total paid h =
    let w : greatest docs e ≤ n = omega (arith, most, h) in
    omega (arith, total, part.cost n w, paid (omega (arith, w, size-most docs e x part.value)))

module _ (docs : List Document) (e f : Expr) (x : List ℕ) (p q r : ℕ) (left : IsPart docs e x p q) where
  -- if the first operand has a text, both operands count
  both_most : (n last : ℕ) → max (greatest docs e) (reached (eval docs e) (max (greatest docs f) last)) ≤ n → (greatest docs e ≤ n) × (greatest docs f ≤ n)
  both_most n last h =
      let r : reached (eval docs e) (max (greatest docs f) last) ≡ max (greatest docs f) last = ap (λ o. reached o (max (greatest docs f) last)) left.value in
      (omega (arith, h), omega (arith, r, h))

  -- an operation whose second operand is rejected
  pub refused_cost : ((n : ℕ) → greatest docs f ≤ n → r ≤ q + total_cost (edit_cost n) f)
      → (n last : ℕ) → max (greatest docs e) (reached (eval docs e) (max (greatest docs f) last)) ≤ n → r ≤ p + (total_cost (edit_cost n) e + total_cost (edit_cost n) f + edit_cost n)
  refused_cost cost n last h = let w = both_most n last h in omega (arith, left.cost n w.0, cost n w.1)

  -- if the second operand has no text, its rejection is the result
  pub second_refused : (F : List ℕ → List ℕ → Outcome) (why : EditRefusal) → (why ≡ NoMemory) ⊎ (eval docs f ≡ Err why)
      → (why ≡ NoMemory) ⊎ (onward (eval docs e) (λ d. onward (eval docs f) (λ b. F d b)) ≡ Err why)
  second_refused F why (inl m) = inl m
  second_refused F why (inr h) = inr (λ j. onward (left.value j) (λ d. onward (h j) (λ b. F d b)))

  module _ (y : List ℕ) (right : IsPart docs f y q r) where
    -- an operation on two operands
    pub two_cost : (s n last : ℕ) → (length x ≤ n → length y ≤ n → s ≤ r + edit_cost n)
        → max (greatest docs e) (reached (eval docs e) (max (greatest docs f) last)) ≤ n → s ≤ p + (total_cost (edit_cost n) e + total_cost (edit_cost n) f + edit_cost n)
    two_cost s n last paid h =
        let w = both_most n last h in
        omega (arith, left.cost n w.0, right.cost n w.1, paid (omega (arith, w.0, size-most docs e x left.value)) (omega (arith, w.1, size-most docs f y right.value)))

    -- if both operands have texts, the value is that of the operation
    pub two_value : (F : List ℕ → List ℕ → Outcome) → F x y ≡ onward (eval docs e) (λ d. onward (eval docs f) (λ b. F d b))
    two_value F = sym (λ j. onward (left.value j) (λ d. onward (right.value j) (λ b. F d b)))
