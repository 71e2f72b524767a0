use Rattle.std.proofs.Common.{◌≡◌, ◌<◌, ◌∙◌, Some, arith, refl, sym, length, slice_get, get_or}
use Rattle.std.proofs.lemmas.Option.{slice_get-get_or}
use Rattle.marker_dfa.proofs.Lists.{one_value}
use Rattle.marker_dfa.proofs.Renumbering.{kept_pass, kept_pushed, kept_start}
use Rattle.marker_dfa.proofs.merging.kept_of.Goals as goal
use Rattle.marker_dfa.proofs.merging.kept_of.Goals.{then-representative-state+then-representative-start+in_ok-push-2, else-representative-state, else-representative-state-via-then-representative-state+else-representative-start, else-representative-state-via-else-representative-state}

pub loop-state-init : goal.loop-state-init
loop-state-init c =
    let into = c.args.into.now in
    let start = get_or into 0 0 in
    let at : slice_get into 0 ≡ Some start = slice_get-get_or into 0 0 c.requires.some in
    rw (c.in_ok-push.ensures.items, c.in_ok-kept.ensures.items) (kept_start into _ start (c.in_ok-numbers.ensures.items_if_clones_equal (λ y e. e)) (c.requires.own 0 start at))

pub loop-state-preserved : goal.loop-state-preserved
loop-state-preserved c =
    let into = c.args.into.now in
    let n = c.loop-state.state in
    let start = get_or into 0 0 in
    let at : slice_get into n ≡ Some (get_or into n 0) = slice_get-get_or into n 0 c.loop-state-test.true in
    elim c.if-representative-state.branch [
      | then-representative-state+then-representative-start+in_ok-push-2 w ↦
          let size : w.len.result ≡ length c.loop-state.kept.items = omega (arith, w.len.ensures, c.loop-state.kept.ok.0) in
          rw (w.kept-is, w.numbers-is) (kept_pushed into start n _ w.len.result _ _ _ _ at w.if-representative-state.true w.if-representative-start.true size w.in_ok-push-2.ensures.items refl c.loop-state.invariant)
      | else-representative-state w ↦
          let none : slice_get into n ≡ Some n → n ≡ start = elim w.else-representative-state.branch [
            | else-representative-state-via-then-representative-state+else-representative-start w' ↦ λ own. sym w'.if-representative-state.true ∙ w'.if-representative-start.false
            | else-representative-state-via-else-representative-state w' ↦ λ own. absurd (w'.if-representative-state.false (one_value into n _ n at own))
          ] in
          rw (w.kept-is, w.numbers-is) (kept_pass into start n _ _ none c.loop-state.invariant)
    ]

pub returns-clause-few : goal.returns-clause-few
returns-clause-few c =
    let into = c.args.into.now in
    let start = get_or into 0 0 in
    let at : slice_get into 0 ≡ Some start = slice_get-get_or into 0 0 c.requires.some in
    let lt : start < length into = c.requires.within 0 start at in
    omega (arith, c.loop-state.invariant.fewer (omega (arith, lt, c.loop-state-test.false)), c.loop-state.auto.state-end)
