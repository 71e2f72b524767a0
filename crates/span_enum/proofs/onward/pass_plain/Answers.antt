use Rattle.span_enum.proofs.Base.{Ahead, List, PassesPlain, [], arith, ℕ, ◌≡◌}
use Rattle.span_enum.proofs.Chains.{next-there}
use Rattle.span_enum.proofs.Ways.{Next, back-none, can-head, next-node, node-on, plain-none}
use Rattle.span_enum.proofs.onward.pass_plain.Goals.{After-ahead_at-node}
use Rattle.span_enum.proofs.onward.pass_plain.Goals as goal
use Rattle.span_enum.proofs.onward.pass_plain.Given.{Over}

pub loop-place-init : goal.loop-place-init
loop-place-init g c = record { passes = λ at k s can. plain-none c.args.input.now c.args.trail.now.ahead.items at c.args.from k s can }

pub ahead_at-node-requires : goal.ahead_at-node-requires
ahead_at-node-requires g c =
    let go = c.requires.go in
    let p = c.loop-place.invariant.passes go.at go.chain go.stands go.can in
    (omega (arith, c.requires.input.narrow), (omega (arith, c.requires.input.narrow), next-there c.args.trail.now.ahead.items c.loop-place.place.next p.passes.back p.passes.stands.ahead c.loop-place-test.true))

-- the node that comes next
node : (g : Over) (c : After-ahead_at-node g) (at : ℕ) (k : List (Ahead g.row.N)) (p : PassesPlain c.args.input.now c.args.trail.now.ahead.items at c.args.from c.loop-place.place k)
    → Next c.args.input.now c.args.trail.now.ahead.items at c.args.from c.loop-place.place k p.passes c.ahead_at-node.result
node g c at k p = next-node c.args.input.now c.requires.input c.args.trail.now.ahead.items at c.args.from c.loop-place.place k p.passes c.ahead_at-node.result c.loop-place-test.true c.ahead_at-node.ensures

pub plain_into-requires : goal.plain_into-requires
plain_into-requires g c =
    let go = c.requires.go in
    let p = c.loop-place.invariant.passes go.at go.chain go.stands go.can in
    let n = node g (goal.at.plain_into-requires g c).After-ahead_at-node go.at go.chain p in (
      omega (arith, c.requires.input.narrow),
      (omega (arith, n.stands.state, n.tells.shape.states), can-head c.args.input.now c.args.trail.now.ahead.items _ _ c.loop-place.place _ p c.ahead_at-node.result n),
    )

pub loop-place-smaller : goal.loop-place-smaller
loop-place-smaller g c =
    let go = c.requires.go in
    let p = c.loop-place.invariant.passes go.at go.chain go.stands go.can in
    let n = node g (goal.at.loop-place-smaller g c).After-ahead_at-node go.at go.chain p in
    omega (arith, n.stands.ahead.0.counted, n.stands.ahead.0.earlier)

pub loop-place-preserved : goal.loop-place-preserved
loop-place-preserved g c = record {
  passes = λ at k s can.
      let p = c.loop-place.invariant.passes at k s can in
      node-on c.args.input.now c.requires.input.automaton c.args.trail.now.ahead.items at c.args.from c.loop-place.place k p c.ahead_at-node.result c.in-Some.state
      (node g (goal.at.loop-place-preserved g c).After-ahead_at-node at k p) c.in-Some.ensures.plain.0 c.in-Some.ensures.plain.1;
}

pub returns-in-None : goal.returns-in-None
returns-in-None g c = λ at k s can.
    let p = c.loop-place.invariant.passes at k s can in
    let n = node g (goal.at.returns-in-None g c).After-ahead_at-node at k p in
    (p, rw n.back c.in-None.ensures.plain)

pub returns : goal.returns
returns g c = λ at k s can.
    let p = c.loop-place.invariant.passes at k s can in
    let empty : p.passes.back ≡ [] = back-none c.args.trail.now.ahead.items c.loop-place.place.next p.passes.back p.passes.stands.ahead (omega (arith, c.loop-place-test.false)) in
    (p, rw empty tt)
