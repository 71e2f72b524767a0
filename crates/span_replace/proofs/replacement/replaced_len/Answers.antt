use Rattle.std.proofs.Common.{◌≡◌, ◌+◌, ◌≤◌, arith, ap, sym, subst, ◌∷◌, length, drop}
use Rattle.std.proofs.Math.Nat.{mul-le-mul_right}
use Rattle.span_replace.specs.Replaced.{replaced_from}
use Rattle.span_replace.proofs.Spliced.{at_position, IsNext, next-at, rest-at, length-next}
use Rattle.span_replace.proofs.replacement.replaced_len.Goals as goal

pub overflow_add-done : goal.overflow_add-done
overflow_add-done c =
    let n = next-at c.loop-span.at c.args.len c.args.spans.now c.loop-span.span-index c.loop-span-test.true c.loop-span.invariant.apart in
    omega (arith, n.start, n.order, n.end, c.requires.len, c.requires.by)

pub overflow_add-done-in-loop-span : goal.overflow_add-done-in-loop-span
overflow_add-done-in-loop-span c =
    let n = next-at c.loop-span.at c.args.len c.args.spans.now c.loop-span.span-index c.loop-span-test.true c.loop-span.invariant.apart in
    let few : c.loop-span.span-index ≤ 32767 = omega (arith, c.loop-span-test.true, c.requires.few) in
    omega (arith, n.start, n.order, n.end, c.requires.len, c.requires.by, c.loop-span.invariant.small, mul-le-mul_right c.args.by few)

pub loop-span-preserved : goal.loop-span-preserved
loop-span-preserved c =
    let at = c.loop-span.at in
    let i = c.loop-span.span-index in
    let qs = c.args.spans.now in
    let q = at_position qs i in
    let n = next-at at c.args.len qs i c.loop-span-test.true c.loop-span.invariant.apart in
    record {
      start = omega (arith, n.start, n.order, c.loop-span.invariant.start);
      apart = n.rest;
      small = omega (arith, n.start, n.order, c.loop-span.invariant.start, c.loop-span.invariant.small);
      length_is = λ s w long wide.
          let k : IsNext at (length s) q (drop (i + 1) qs) = subst (λ m. IsNext at m q (drop (i + 1) qs)) (sym long) n in
          let e : length (replaced_from at s (drop i qs) w) ≡ length (replaced_from at s (q ∷ drop (i + 1) qs) w) = ap (λ xs. length (replaced_from at s xs w)) (rest-at qs i c.loop-span-test.true) in
          omega (arith, c.loop-span.invariant.length_is s w long wide, e, wide, length-next at q (drop (i + 1) qs) s w c.loop-span.invariant.start k);
    }
