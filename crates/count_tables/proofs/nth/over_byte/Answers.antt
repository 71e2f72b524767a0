use Rattle.std.proofs.Common.{◌≡◌, ◌+◌, length, get_or, drop, ap, sym, ◌∙◌, arith, Some}
use Rattle.marker_dfa.specs.Deterministic.{marks_of, next_of}
use Rattle.span_types.specs.Writes.{write_mark}
use Rattle.count_tables.proofs.ByteChoice.{left-at, left-end, left-first, left-found, left-past, left-skip}
use Rattle.count_tables.proofs.nth.over_byte.Goals as goal
use Rattle.count_tables.proofs.nth.over_byte.Goals.{in-Some+else-index-ways, in_default}

pub loop-mark-init : goal.loop-mark-init
loop-mark-init c = left-first c.args.dfa.now c.args.from.now.state c.args.byte c.args.after.now c.args.from.now.index c.requires.below c.requires.index

pub returns-then-index-ways : goal.returns-then-index-ways
returns-then-index-ways c =
    let a = c.args.dfa.now in
    let p = c.args.from.now.state in
    let b = c.args.byte in
    let ms = marks_of a p b in
    let k = c.loop-mark.mark-index in
    let e = c.marks-mark-items.ensures in
    let left = left-at a p b c.args.after.now ms c.args.from.now.index c.loop-mark.index k 0 c.loop-mark.invariant (omega (arith, c.loop-mark-test.true, ap length e)) in
    let step : next_of a p (get_or ms k 0) b ≡ Some c.in-Some.q = ap (λ ns. next_of a p (get_or ns k 0) b) (sym e) ∙ sym c.next.ensures ∙ c.in-Some.is in (
      get_or ms k 0,
      left-found a p b c.args.after.now (get_or ms k 0) (drop (k + 1) ms) c.args.from.now.index c.loop-mark.index left c.in-Some.q step c.if-index-ways.true,
      c.with_mark.ensures.value ∙ ap (λ ns. write_mark (get_or ns k 0) c.args.at c.args.from.now.tuple) e,
    )

pub loop-mark-preserved : goal.loop-mark-preserved
loop-mark-preserved c =
    let a = c.args.dfa.now in
    let p = c.args.from.now.state in
    let b = c.args.byte in
    let ms = marks_of a p b in
    let k = c.loop-mark.mark-index in
    let e = c.marks-mark-items.ensures in
    let left = left-at a p b c.args.after.now ms c.args.from.now.index c.loop-mark.index k 0 c.loop-mark.invariant (omega (arith, c.loop-mark-test.true, ap length e)) in
    let next : c.next.result ≡ next_of a p (get_or ms k 0) b = c.next.ensures ∙ ap (λ ns. next_of a p (get_or ns k 0) b) e in
    elim c.match-next.branch [
      | in-Some+else-index-ways w ↦
          let step : next_of a p (get_or ms k 0) b ≡ Some w.in-Some.q = sym next ∙ w.in-Some.is in
          rw w.index-is (left-past a p b c.args.after.now (get_or ms k 0) (drop (k + 1) ms) c.args.from.now.index c.loop-mark.index left w.in-Some.q step (c.states.ensures.automaton.within p (get_or ms k 0) b w.in-Some.q step) w.if-index-ways.false)
      | in_default w ↦ rw w.index-is (left-skip a p b c.args.after.now (get_or ms k 0) (drop (k + 1) ms) c.args.from.now.index c.loop-mark.index left (sym next ∙ w.in_default.is))
    ]

pub unreachable-requires : goal.unreachable-requires
unreachable-requires c =
    left-end c.args.dfa.now c.args.from.now.state c.args.byte c.args.after.now (marks_of c.args.dfa.now c.args.from.now.state c.args.byte) c.args.from.now.index c.loop-mark.index c.loop-mark.mark-index
    (λ q. omega (arith, c.type_inv.after q)) c.loop-mark.invariant (omega (arith, c.loop-mark-test.false, ap length c.marks-mark-items.ensures))
