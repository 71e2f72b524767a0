use Rattle.span_enum.proofs.Base.{Ahead, List, IsWalkAt, [], arith, length-append, sym, text_at, ℕ, ◌≡◌, ◌≤◌}
use Rattle.span_enum.proofs.Chains.{next-there}
use Rattle.span_enum.proofs.Ways.{Next, back-none, next-node, passes-dies, passes-none, passes-on}
use Rattle.span_enum.proofs.follow.pass_to.Goals.{After-ahead_at-node}
use Rattle.span_enum.proofs.follow.pass_to.Goals as goal
use Rattle.span_enum.proofs.follow.pass_to.Given.{Over}

pub loop-place-init : goal.loop-place-init
loop-place-init g c = λ at k s le. record { passes = passes-none c.args.input.now c.args.trail.now.ahead.items at c.args.from k s; before = omega arith }

pub ahead_at-node-requires : goal.ahead_at-node-requires
ahead_at-node-requires g c =
    let s = c.requires.stands in
    let p = (c.loop-place.invariant s.0 s.1.0 s.1.1 s.1.2).passes in
    (omega (arith, c.requires.input.narrow), (omega (arith, c.requires.input.narrow), next-there c.args.trail.now.ahead.items c.loop-place.place.next p.back p.stands.ahead c.loop-place-test.true))

-- the node that comes next
node : (g : Over) (c : After-ahead_at-node g) (at : ℕ) (k : List (Ahead g.row.N)) (s : IsWalkAt c.args.input.now c.args.trail.now.ahead.items at c.args.from k) (le : at ≤ c.args.position)
    → Next c.args.input.now c.args.trail.now.ahead.items at c.args.from c.loop-place.place k (c.loop-place.invariant at k s le).passes c.ahead_at-node.result
node g c at k s le = next-node c.args.input.now c.requires.input c.args.trail.now.ahead.items at c.args.from c.loop-place.place k (c.loop-place.invariant at k s le).passes c.ahead_at-node.result c.loop-place-test.true c.ahead_at-node.ensures

pub overflow_add-node : goal.overflow_add-node
overflow_add-node g c =
    let s = c.requires.stands in
    let is = (node g (goal.at.overflow_add-node g c).After-ahead_at-node s.0 s.1.0 s.1.1 s.1.2).stands.goals.0 in
    omega (arith, is.low, is.look.len_is)

pub returns-then-position-node : goal.returns-then-position-node
returns-then-position-node g c = λ at k s le most.
    let n = node g (goal.at.returns-then-position-node g c).After-ahead_at-node at k s le in
    (c.loop-place.invariant at k s le, rw n.back (omega (arith, c.if-position-node.true, n.stands.goals.0.look.len_is)))

pub unmarked-requires : goal.unmarked-requires
unmarked-requires g c =
    let s = c.requires.stands in
    let n = node g (goal.at.unmarked-requires g c).After-ahead_at-node s.0 s.1.0 s.1.1 s.1.2 in
    omega (arith, n.stands.state, n.tells.shape.states)

pub returns-in_err-state : goal.returns-in_err-state
returns-in_err-state g c = λ at k s le most.
    let p = c.loop-place.invariant at k s le in
    rw c.from_residual.ensures (passes-dies c.args.input.now c.args.trail.now.ahead.items at c.args.position c.args.from c.loop-place.place k p c.ahead_at-node.result
    (node g (goal.at.returns-in_err-state g c).After-ahead_at-node at k s le) c.if-position-node.false (sym c.in_err-state.ensures.value))

pub loop-place-smaller : goal.loop-place-smaller
loop-place-smaller g c =
    let s = c.requires.stands in
    let n = node g (goal.at.loop-place-smaller g c).After-ahead_at-node s.0 s.1.0 s.1.1 s.1.2 in
    omega (arith, n.stands.ahead.0.counted, n.stands.ahead.0.earlier)

pub loop-place-preserved : goal.loop-place-preserved
loop-place-preserved g c = λ at k s le.
    let n = node g (goal.at.loop-place-preserved g c).After-ahead_at-node at k s le in
    let p = (c.loop-place.invariant at k s le).passes in
    record {
      passes = passes-on c.args.input.now c.requires.input.automaton c.args.trail.now.ahead.items at c.args.from c.loop-place.place k p c.ahead_at-node.result n c.in_ok-state.state (sym c.in_ok-state.ensures.value);
      before = omega (arith, c.if-position-node.false, n.stands.join.0, n.stands.goals.0.look.len_is, length-append p.prefix (text_at c.args.input.now c.ahead_at-node.result.id.index));
    }

pub returns : goal.returns
returns g c = λ at k s le most.
    let p = c.loop-place.invariant at k s le in
    let empty : p.passes.back ≡ [] = back-none c.args.trail.now.ahead.items c.loop-place.place.next p.passes.back p.passes.stands.ahead c.loop-place-test.false in
    (p, rw empty tt)
