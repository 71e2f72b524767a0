use Rattle.std.proofs.Common.{◌≡◌, ℕ, ◌++◌, ◌∷◌, [], List, length, get_or, subst, sym, arith}
use Rattle.marker_nfa.specs.Parts.{Adds}
use Rattle.marker_nfa.specs.declared.nfa.End.{End}
use Rattle.marker_nfa.proofs.Adding.{each_at, each_end}
use Rattle.marker_dfa.proofs.Lists.{contains_push}
use Rattle.span_algebra.specs.Making.{IsEndBy, mark_by}
use Rattle.span_algebra.proofs.EdgeLaws.{state-ends}
use Rattle.span_algebra.proofs.copies.push_state_ends.Goals as goal

pub loop-mark-preserved : goal.loop-mark-preserved
loop-mark-preserved c =
    let m = get_or c.ends-mark-items.result.now c.loop-mark.mark-index 0 in
    let Q : ℕ → Type 0 = λ k. Adds c.loop-mark.ends.items (c.loop-mark.ends.items ++ record { state = c.args.from; mark = k } ∷ []) (IsEndBy c.args.copy.places.now c.args.from m) in
    let pushed : Adds c.loop-mark.ends.items (c.loop-mark.ends.items ++ record { state = c.args.from; mark = mark_by c.args.copy.places.now m } ∷ []) (IsEndBy c.args.copy.places.now c.args.from m) = λ x. contains_push c.loop-mark.ends.items (record { state = c.args.from; mark = mark_by c.args.copy.places.now m }) x in
    let L : List End → Type 0 = λ l. Adds c.loop-mark.ends.items l (IsEndBy c.args.copy.places.now c.args.from m) in
    each_at _ _ _ (IsEndBy c.args.copy.places.now c.args.from) c.ends-mark-items.result.now c.loop-mark.mark-index 0 c.loop-mark-test.true c.loop-mark.invariant (subst L (sym c.in_ok-push.ensures.items) (subst Q (sym c.mark_at.ensures.value) pushed))

pub returns : goal.returns
returns c =
    let e : c.loop-mark.mark-index ≡ length c.ends-mark-items.result.now = omega (arith, c.loop-mark-test.false, c.loop-mark.auto.mark-index-end) in
    state-ends c.args.ends.now.items c.loop-mark.ends.items c.args.copy.dfa.now c.args.copy.places.now c.args.from c.args.state c.ends-mark-items.result.now c.ends-mark-items.ensures (each_end _ _ (IsEndBy c.args.copy.places.now c.args.from) c.ends-mark-items.result.now _ e c.loop-mark.invariant)
