use Rattle.std.proofs.Common.{◌≡◌, length, arith, ext_get_or, rules}
use Rattle.path_counts.specs.declared.count.Count.{Count}
use Rattle.path_counts.proofs.count.is_same.Goals as goal

pub returns : goal.returns
returns c =
    let d : Count = record { state = 0; number = 0 } in
    let long : length c.args.counts.now ≡ length c.args.others.now = omega (arith, c.if-counts-others.false) in
    ((λ yes. ext_get_or d c.args.counts.now c.args.others.now long (λ i lt. c.loop-index.invariant i d (omega (arith, lt, c.loop-index-test.false)))), (λ same. search rules))
