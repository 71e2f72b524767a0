use Rattle.std.proofs.Common.{◌≡◌, ◌+◌, arith}
use Rattle.formula_syntax.proofs.Bytes.{range_start, range_more, range_all}
use Rattle.formula_syntax.specs.Lexis.{in_ranges}
use Rattle.formula_syntax.proofs.set.with_range.Goals as goal

pub loop-byte-init : goal.loop-byte-init
loop-byte-init c = λ rs e. range_start _ c.args.low (in_ranges rs) e

pub loop-byte-preserved : goal.loop-byte-preserved
loop-byte-preserved c = λ rs e. range_more c.loop-byte.members _ c.args.low c.loop-byte.byte (in_ranges rs) (omega (arith, c.loop-byte-test.true, c.ranges.high)) (omega (arith, c.loop-byte.auto.byte)) (c.loop-byte.invariant rs e) c.insert.ensures

pub returns : goal.returns
returns c = λ rs e. range_all c.loop-byte.members c.args.low c.args.high c.loop-byte.byte rs (omega (arith, c.loop-byte-test.false, c.loop-byte.auto.byte-end, c.requires)) (c.loop-byte.invariant rs e)

pub returns-2 : goal.returns-2
returns-2 c = λ rs e.
    let last : c.loop-byte.byte + 1 ≡ c.args.high + 1 = omega arith in
    range_all _ c.args.low c.args.high (c.loop-byte.byte + 1) rs last (range_more c.loop-byte.members _ c.args.low c.loop-byte.byte (in_ranges rs) (omega (arith, c.loop-byte-test.true, c.ranges.high)) (omega (arith, c.loop-byte.auto.byte)) (c.loop-byte.invariant rs e) c.insert.ensures)
