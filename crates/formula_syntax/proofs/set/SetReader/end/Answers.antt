use Rattle.std.proofs.Common.{sym, ap, ◌∙◌, ◌≡◌, true}
use Rattle.std.specs.Prelude.{not}
use Rattle.formula_syntax.specs.Lexis.{in_ranges, negated}
use Rattle.formula_syntax.specs.Machine.{empty, low, end_set, add_set, flush}
use Rattle.formula_syntax.specs.View.{pending_of}
use Rattle.formula_syntax.proofs.Bytes.{complemented}
use Rattle.formula_syntax.proofs.set.SetReader.end.Goals as goal
use Rattle.formula_syntax.proofs.set.SetReader.end.Goals.{in-Empty, in-Low}

pub returns-then-negated : goal.returns-then-negated
returns-then-negated c = λ k neg rs p h.
    let yes_neg : neg ≡ true = sym h.sign ∙ c.if-negated.true in
    elim c.match-pending.branch [
      | in-Empty w ↦
          let p_is : p ≡ empty = sym h.pending ∙ ap pending_of w.in-Empty.is in
          ((λ b. not (in_ranges rs b)), ap (λ z. end_set k neg rs z) p_is ∙ ap (λ z. add_set k (negated z (in_ranges rs))) yes_neg, complemented _ _ (in_ranges rs) (w.whole-is ∙ h.ranges) c.complement.ensures)
      | in-Low w ↦
          let p_is : p ≡ low w.in-Low.low = sym h.pending ∙ ap pending_of w.in-Low.is in
          ((λ b. not (in_ranges (flush rs (low w.in-Low.low)) b)), ap (λ z. end_set k neg rs z) p_is ∙ ap (λ z. add_set k (negated z (in_ranges (flush rs (low w.in-Low.low))))) yes_neg, complemented _ _ (in_ranges (flush rs (low w.in-Low.low))) (w.whole-is ∙ w.with_range-whole.ensures rs h.ranges) c.complement.ensures)
    ]
