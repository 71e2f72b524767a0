use Rattle.span_enum.proofs.Base.{Some, [], arith, height, height-by_leaves, length, length-text, refl, text, tree, ◌<◌}
use Rattle.span_enum.proofs.Tuples.{IsText, accepts-from_end, accepts-from_member, end-from_accepts, few-marks, look-text, member-from_accepts, no-text}
use Rattle.span_enum.proofs.Words.{looks-within}
use Rattle.span_enum.proofs.answers.has.Goals as goal

pub returns-in-None-clause-answer : goal.returns-in-None-clause-answer
returns-in-None-clause-answer g c =
    let a = c.args.dfa.now in
    let auto = c.states-states.ensures.automaton in
    let t = c.args.tuple.now in
    let both = c.accepts_end.ensures in
    rw c.in-None.is (
      (λ h. member-from_accepts a auto [] no-text t c.requires.tuple (accepts-from_end a [] t (Some 0) c.count-count.ensures.tuple.spans refl (both.0 h))),
      (λ h. both.1 (end-from_accepts a [] t (Some 0) refl (accepts-from_member a auto [] no-text t h))),
    )

pub returns-in-Some-clause-answer : goal.returns-in-Some-clause-answer
returns-in-Some-clause-answer g c =
    let view = c.args.view in
    let nodes = view.store.now in
    let a = c.args.dfa.now in
    let auto = c.states-states.ensures.automaton in
    let t = c.args.tuple.now in
    let live : c.in-Some.id.index < length nodes = rw c.in-Some.is at c.requires.ready.live in
    let s = text (tree nodes c.in-Some.id.index) in
    let k : IsText s = look-text a nodes view.tables.now c.requires.ready.tables view.counted c.in-Some.id.index _ _ _ live c.look-look.ensures.look in
    let both = rw c.look-look.ensures.look.len_is at c.accepts_end-in-Some.ensures in
    rw c.in-Some.is (
      (λ h. member-from_accepts a auto s k t c.requires.tuple (accepts-from_end a s t _ c.count-count.ensures.tuple.spans c.state_over-state.ensures.value (both.0 h))),
      (λ h. both.1 (end-from_accepts a s t _ c.state_over-state.ensures.value (accepts-from_member a auto s k t h))),
    )

pub returns-in-Some-clause-cost : goal.returns-in-Some-clause-cost
returns-in-Some-clause-cost g c =
    let t = tree c.args.view.store.now c.in-Some.id.index in
    rw c.in-Some.is (looks-within c.args.dfa.now.variables (length (text t)) (height t) _ c.args.looks.now _ (rw (length-text t) (height-by_leaves t c.look-look.ensures.look.balanced))
    (few-marks c.args.dfa.now.variables c.args.tuple.now (text t) c.requires.tuple) (omega (arith, c.look-look.ensures.step, c.state_over-state.ensures.cost)))
