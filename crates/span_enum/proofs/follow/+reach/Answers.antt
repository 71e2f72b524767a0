use Rattle.span_enum.proofs.Base.{arith, sym, ℕ, ◌∙◌}
use Rattle.std.proofs.Common.{rules}
use Rattle.span_enum.proofs.Chains.{Fork, down-left, down-right, fork, fork-size}
use Rattle.span_enum.proofs.Runs.{tells}
use Rattle.span_enum.proofs.Ways.{fails-here, laid-left, laid-right, lays-mark}
use Rattle.span_enum.proofs.follow.+reach.Given.{Over}
use Rattle.span_enum.proofs.follow.+reach.Goals.{After-look-right}
use Rattle.span_enum.proofs.follow.+reach.Goals as goal

pub returns-in-Byte-clause-laid : goal.returns-in-Byte-clause-laid
returns-in-Byte-clause-laid g t c =
    let h = c.args.descent.now.here in
    rw (c.keep_mark.ensures.marks, c.keep_mark.ensures.ahead, c.mark_at.ensures)
    (lays-mark c.args.input.now c.args.t.now h c.in-Byte.byte c.args.descent.now.state c.args.to c.args.descent.now.base c.args.trail.now.marks.items c.args.trail.now.ahead.items
    (rw c.in-Byte.is at c.requires.down.is_ahead.look.node_is) c.requires.over c.requires.down.fits)

-- the tables of the pair and of its children
pair : (g : Over) (t : ℕ) (c : After-look-right g t) → Fork c.args.input.now c.args.descent.now.here c.in-Pair.l c.in-Pair.r c.look-left.result c.look-right.result
pair g t c = fork c.args.input.now c.requires.input c.args.descent.now.here c.requires.down.is_ahead c.in-Pair.l c.in-Pair.r c.look-left.result c.look-right.result c.in-Pair.is c.look-left.ensures.look c.look-right.ensures.look

pub reach-requires : goal.reach-requires
reach-requires g t c κs within =
    let f = pair g t (goal.at.reach-requires g t c).After-look-right in
    let down = down-left c.args.input.now c.args.descent.now.here c.in-Pair.l c.in-Pair.r _ _ f c.args.descent.now.state c.args.descent.now.base c.args.trail.now.marks.items _ c.args.trail.now.ahead.items _ c.requires.down c.goals_between-between.result in
    let put = c.go_left.ensures in
    rw (put.child, put.room, put.marks, put.items)
    (omega (arith, c.decreases, f.pair.1), (within, ((λ a m. search rules), (omega (arith, c.requires.input.narrow), (omega (arith, c.requires.input.narrow), (omega (arith, c.requires.input.narrow), (c.requires.input, (down, record { from = c.requires.over.from; before = omega (arith, c.if-to-descent.true, c.look-left.ensures.look.len_is) }))))))))

pub returns-then-to-descent-clause-laid : goal.returns-then-to-descent-clause-laid
returns-then-to-descent-clause-laid g t c =
    let f = pair g t (goal.at.returns-then-to-descent-clause-laid g t c).After-look-right in
    let between = c.goals_between-between.ensures in
    let put = c.go_left.ensures in
    laid-left c.args.input.now c.args.descent.now.here c.in-Pair.l c.in-Pair.r _ _ f c.args.trail.now.ahead.items c.args.descent.now.state c.args.descent.now.base c.args.trail.now.marks.items c.reach.new.trail.marks.items c.reach.new.trail.ahead.items
    c.args.t.now c.args.to c.goals_between-between.result (between.between _ _ f.left_is f.right_is) (between.quiet _ _ f.left_is f.right_is)
    c.requires.down.low (omega (arith, c.if-to-descent.true, c.look-left.ensures.look.len_is)) c.reach.result (rw (put.child, put.items, put.marks) at c.reach.ensures.laid)

pub reach-requires-in-Some : goal.reach-requires-in-Some
reach-requires-in-Some g t c κs within =
    let f = pair g t (goal.at.reach-requires-in-Some g t c).After-look-right in
    let size = fork-size c.args.input.now c.args.descent.now.here c.in-Pair.l c.in-Pair.r _ _ f in
    let down = down-right c.args.input.now c.args.descent.now.here c.in-Pair.l c.in-Pair.r _ _ f c.args.descent.now.state c.args.descent.now.base c.args.trail.now.marks.items _ c.args.trail.now.ahead.items _ c.requires.down c.in-Some.q
    (omega (arith, c.in-Some.ensures.within, f.left_is.shape.states)) in
    rw c.go_right.ensures
    (omega (arith, c.decreases, f.pair.2), (within, ((λ a m. search rules), (omega (arith, c.requires.input.narrow), (omega (arith, c.requires.input.narrow), (omega (arith, c.requires.input.narrow), (c.requires.input, (down, record { from = omega (arith, c.if-to-descent.false); before = omega (arith, c.requires.over.before, size) }))))))))

pub returns-in-Some-clause-laid : goal.returns-in-Some-clause-laid
returns-in-Some-clause-laid g t c =
    let a = c.args.input.now.dfa.now in
    let f = pair g t (goal.at.returns-in-Some-clause-laid g t c).After-look-right in
    let run = sym ((tells a _ _ f.left_is).unmarked c.args.descent.now.state c.requires.down.state) ∙ sym c.in-Some.ensures.value in
    laid-right c.args.input.now c.args.descent.now.here c.in-Pair.l c.in-Pair.r _ _ f c.args.trail.now.ahead.items c.args.descent.now.state c.args.descent.now.base c.args.trail.now.marks.items c.reach-in-Some.new.trail.marks.items c.reach-in-Some.new.trail.ahead.items
    c.args.t.now c.args.to c.in-Some.q (omega (arith, c.in-Some.ensures.within, f.left_is.shape.states)) run (omega (arith, c.if-to-descent.false)) c.reach-in-Some.result
    (rw c.go_right.ensures at c.reach-in-Some.ensures.laid)

pub returns-in-None-clause-laid : goal.returns-in-None-clause-laid
returns-in-None-clause-laid g t c =
    let f = pair g t (goal.at.returns-in-None-clause-laid g t c).After-look-right in
    let run = sym ((tells c.args.input.now.dfa.now _ _ f.left_is).unmarked c.args.descent.now.state c.requires.down.state) ∙ sym c.in-None.ensures.value in
    fails-here c.args.input.now c.args.descent.now.here c.in-Pair.l c.in-Pair.r _ _ f c.args.trail.now.ahead.items c.args.descent.now.state c.args.descent.now.base c.args.trail.now.marks.items c.args.trail.now.marks.items c.args.trail.now.ahead.items
    c.args.t.now c.args.to (omega (arith, c.if-to-descent.false)) run
