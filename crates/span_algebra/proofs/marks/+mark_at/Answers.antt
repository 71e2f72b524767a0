use Rattle.std.proofs.Common.{◌≡◌, ℕ, ◌-◌, ◌<◌, ◌≤◌, ◌^◌, List, Option, length, take, drop, arith, length-drop}
use Rattle.std.proofs.lemmas.List.{length-take}
use Rattle.span_types.proofs.MarkSteps.{four_le}
use Rattle.span_algebra.proofs.marks.+mark_at.Goals as goal

short : (n : ℕ) (places : List (Option ℕ)) → length places ≤ 8 → n ≡ length places - 1 → length (take n (drop 1 places)) ≤ 7
short n places few e = omega (arith, length-take n (drop 1 places), length-drop 1 places)

small : (r k : ℕ) → r < 4 ^ k → k ≤ 7 → r < 16384
small r k lt le = omega (arith, four_le k 7 le)

pub overflow_mul-result : goal.overflow_mul-result
overflow_mul-result t c =
    let lt = small c.mark_at.result _ c.mark_at.ensures.small (short (length c.args.places.now - 1) c.args.places.now c.requires.few (omega arith)) in
    omega (arith, lt)

pub overflow_add-result : goal.overflow_add-result
overflow_add-result t c =
    let lt = small c.mark_at.result _ c.mark_at.ensures.small (short (length c.args.places.now - 1) c.args.places.now c.requires.few (omega arith)) in
    omega (arith, lt, c.digit.ensures.small)
