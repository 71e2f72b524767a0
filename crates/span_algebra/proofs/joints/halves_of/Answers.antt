use Rattle.std.proofs.Common.{◌≡◌, ℕ, [], length, refl, arith}
use Rattle.marker_nfa.proofs.Adding.{each_at, each_end, from_none}
use Rattle.span_algebra.specs.declared.joints.Half.{Half}
use Rattle.span_algebra.specs.Joints.{half_by}
use Rattle.span_algebra.proofs.joints.halves_of.Goals as goal

pub loop-mark-preserved : goal.loop-mark-preserved
loop-mark-preserved c = each_at [] c.loop-mark.halves.items c.push_half.new.halves.items (λ (m : ℕ) (h : Half). h ≡ half_by c.args.meeting.now m) c.args.marks.now c.loop-mark.mark-index 0 c.loop-mark-test.true c.loop-mark.invariant c.in_ok-push_half.ensures

pub returns-clause-same : goal.returns-clause-same
returns-clause-same c =
    let e : c.loop-mark.mark-index ≡ length c.args.marks.now = omega (arith, c.loop-mark-test.false, c.loop-mark.auto.mark-index-end) in
    let all = from_none [] c.loop-mark.halves.items _ refl (each_end [] _ (λ (m : ℕ) (h : Half). h ≡ half_by c.args.meeting.now m) c.args.marks.now _ e c.loop-mark.invariant) in
    λ h. ((λ k. (all h).0 ((c.put_in_order.ensures.same h).0 k)), λ g. (c.put_in_order.ensures.same h).1 ((all h).1 g))
