use Rattle.std.proofs.Common.{◌≡◌, ◌<◌, ◌≤◌, ◌^◌, arith}
use Rattle.span_types.proofs.MarkSteps.{four_le}
use Rattle.span_algebra.proofs.marks.digit.Goals as goal

pub pow-requires : goal.pow-requires
pow-requires c =
    let lt : c.in-Some.v < 8 = c.requires c.in-Some.v c.in-Some.is in
    let e : c.from.result ≡ c.in-Some.v = c.from.ensures in
    let le : 4 ^ c.from.result ≤ 4 ^ 7 = four_le c.from.result 7 (omega (arith, lt, e)) in
    omega (arith, le)

pub nonzero_div-result : goal.nonzero_div-result
nonzero_div-result c = let le : 4 ^ 0 ≤ 4 ^ c.from.result = four_le 0 c.from.result (omega arith) in omega (arith, le, c.pow.ensures)
