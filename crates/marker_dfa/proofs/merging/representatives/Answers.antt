use Rattle.std.proofs.Common.{◌≡◌, ◌-◌, Some, arith, slice_get, subst, ℕ, List}
use Rattle.marker_dfa.proofs.Merges.{found_more}
use Rattle.marker_dfa.proofs.merging.representatives.Goals as goal

pub states-preserved : goal.states-preserved
states-preserved c =
    let facts = c.representative-kept.ensures in
    let at : slice_get c.states.into.items c.representative-kept.result ≡ Some c.representative-kept.result = subst (λ (l : List ℕ). slice_get l c.representative-kept.result ≡ Some c.representative-kept.result) c.deref.ensures.value facts.own in
    found_more c.args.dfa.now c.states.left (c.states.left - 1) c.representative-kept.result c.states.into.items c.states.invariant (omega (arith, c.states-test.true)) facts.within at facts.same
