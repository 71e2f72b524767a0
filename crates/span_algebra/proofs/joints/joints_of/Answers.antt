use Rattle.std.proofs.Common.{◌≡◌, [], length, ap, arith}
use Rattle.marker_nfa.proofs.Adding.{each_at}
use Rattle.span_algebra.specs.declared.joints.Half.{Half}
use Rattle.span_algebra.proofs.JointLists.{Made, all-joints, in-list}
use Rattle.span_algebra.proofs.joints.joints_of.Goals as goal

pub push_joints-requires-clause-short : goal.push_joints-requires-clause-short
push_joints-requires-clause-short c h k =
    let there = rw (c.deref-in-loop-left.ensures.value) at k in
    let w = (c.in_ok-halves.ensures.same h).0 there in
    let s = c.requires.short _ w.0 (in-list c.args.lefts.now c.loop-left.left-index 0 c.loop-left-test.true) in
    let e = ap (λ (x : Half). x.part) w.2 in
    omega (arith, s, e)

pub push_joints-requires-clause-rising : goal.push_joints-requires-clause-rising
push_joints-requires-clause-rising c = rw (c.deref-in-loop-left.ensures.value) c.in_ok-halves.ensures.rising

pub loop-left-preserved : goal.loop-left-preserved
loop-left-preserved c =
    let h = rw (c.deref-in-loop-left.ensures.value, c.mark_at-key.ensures.value, c.deref.ensures.value) at c.in_ok-push_joints.ensures in
    each_at [] c.loop-left.joints.items c.push_joints.new.joints.items (Made c.args.meeting.now c.in_ok-halves.halves.items) c.args.lefts.now c.loop-left.left-index 0 c.loop-left-test.true c.loop-left.invariant h

pub returns : goal.returns
returns c =
    let e : c.loop-left.left-index ≡ length c.args.lefts.now = omega (arith, c.loop-left-test.false, c.loop-left.auto.left-index-end) in
    all-joints c.args.meeting.now c.args.lefts.now c.args.rights.now c.in_ok-halves.halves.items c.loop-left.joints.items _ c.in_ok-halves.ensures.same e c.loop-left.invariant
