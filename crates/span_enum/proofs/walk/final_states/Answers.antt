use Rattle.span_enum.proofs.Base.{ap, arith, cases_eq, inl, inr, is_final, member, member-zero, sym, ◌<◌, ◌∙◌, ◌≢◌}
use Rattle.span_enum.proofs.Tables.{member-more_other, member-more_same}
use Rattle.span_enum.proofs.walk.final_states.Goals as goal

pub loop-p-init : goal.loop-p-init
loop-p-init g c = record { below = λ k h. absurd (omega arith); above = λ k h. ap (λ n. member n k) c.none-set.ensures ∙ member-zero k }

pub loop-p-preserved : goal.loop-p-preserved
loop-p-preserved g c =
    let set = c.loop-p.set in
    let p = c.loop-p.p in
    let a = c.args.dfa.now in
    rw (c.include.ensures, c.is_empty.ensures, c.ends.ensures)
    (record {
      below = λ k h. elim (cases_eq k p) [
        | inl same ↦ ap (member _) same ∙ member-more_same set p (is_final a p) (c.loop-p.invariant.above p (omega arith)) ∙ ap (is_final a) (sym same)
        | inr other ↦ let lt : k < p = omega arith in member-more_other set p k (is_final a p) other ∙ c.loop-p.invariant.below k lt
      ];
      above = λ k h. let other : k ≢ p = omega arith in member-more_other set p k (is_final a p) other ∙ c.loop-p.invariant.above k (omega arith);
    })
