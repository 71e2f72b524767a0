use Rattle.std.proofs.Common.{◌<◌, ℕ, ◌∙◌, sym, arith, ext_get_or, get_or, length, map}
use Rattle.std.proofs.lemmas.List.{get_or-map, length-map}
use Rattle.state_tables.proofs.partition.through.Goals as goal

pub returns : goal.returns
returns c =
    let at = c.loop-p in
    let f = λ (k : ℕ). get_or c.args.places.now k 0 in
    let cs = c.args.classes.now in
    ext_get_or 0 at.result.items (map f cs) (at.invariant.long ∙ sym (length-map cs f)) (λ k lt.
    let low : k < length c.args.classes.now = omega (arith, lt, at.invariant.long) in
    at.invariant.moved k (omega (arith, low, c.loop-p-test.false)) ∙ sym (get_or-map f cs k 0 0 low))
