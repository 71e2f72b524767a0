use Rattle.std.proofs.Common.{◌≤◌, ◌^◌, arith}
use Rattle.marker_nfa.proofs.Adding.{from_none}
use Rattle.span_types.proofs.MarkSteps.{four_le}
use Rattle.marker_nfa.proofs.Making.{part_of_capture}
use Rattle.marker_nfa.proofs.parts.capture_part.Goals as goal

pub pow-opening-requires : goal.pow-opening-requires
pow-opening-requires c = let m : 4 ^ c.args.variable ≤ 4 ^ 7 = four_le c.args.variable 7 (omega (arith, c.requires.few)) in omega (arith, m)

pub overflow_mul-opening : goal.overflow_mul-opening
overflow_mul-opening c = let m : 4 ^ c.args.variable ≤ 4 ^ 7 = four_le c.args.variable 7 (omega (arith, c.requires.few)) in omega (arith, m, c.pow-opening.ensures)

pub push_sums-requires : goal.push_sums-requires
push_sums-requires c = rw (c.pow-opening.ensures, c.deref.ensures.value) c.requires.nulls

pub push_raised-requires : goal.push_raised-requires
push_raised-requires c = rw (c.pow-opening.ensures, c.deref-2.ensures.value) c.requires.firsts

pub overflow_mul-opening-2 : goal.overflow_mul-opening-2
overflow_mul-opening-2 c = let m : 4 ^ c.args.variable ≤ 4 ^ 7 = four_le c.args.variable 7 (omega (arith, c.requires.few)) in omega (arith, m, c.pow-opening.ensures)

pub push_raised-requires-2 : goal.push_raised-requires-2
push_raised-requires-2 c = rw (c.pow-opening.ensures, c.deref-3.ensures.value) c.requires.lasts

pub returns : goal.returns
returns c a n ip =
    let s = rw (c.deref.ensures.value) at c.in_ok-push_sums.ensures in
    let f = rw (c.deref-2.ensures.value) at c.in_ok-push_raised.ensures in
    let l = rw (c.deref-3.ensures.value) at c.in_ok-push_raised-2.ensures in
    part_of_capture c.args.variable a n c.pow-opening.result c.args.part.now _ c.pow-opening.ensures (from_none _ _ _ c.new-captured.ensures.nulls s) (from_none _ _ _ c.new-captured.ensures.firsts f) (from_none _ _ _ c.new-captured.ensures.lasts l) ip
