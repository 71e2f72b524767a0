use Rattle.span_enum.proofs.Base.{Lays, None, [], ap, arith, length, length-append, mark_of, step_of, sym, ℕ, ◌+◌, ◌<◌, ◌∙◌, ◌∷◌, ◌≡◌}
use Rattle.std.proofs.Common.{rules}
use Rattle.span_enum.proofs.Chains.{next-there}
use Rattle.span_enum.proofs.Kept.{last-same}
use Rattle.span_enum.proofs.Walks.{StandsOver, comes-there, followed-dead, followed-fails, followed-last, followed-on, followed-stuck, lays-goes, lays-way, most, over-down, over-early, over-few, over-node}
use Rattle.span_enum.proofs.follow.+follow.Given.{Over}
use Rattle.span_enum.proofs.follow.+follow.Goals.{After-ahead_at, After-last_of-last}
use Rattle.span_enum.proofs.follow.+follow.Goals as goal

pub pass_to-requires : goal.pass_to-requires
pass_to-requires g t c =
    let f = c.requires.can.1 in
    let first = c.first_mark-to.ensures in
    (omega (arith, c.requires.input.narrow), (omega (arith, c.requires.input.narrow), (c.requires.input, (c.args.from.at, (c.requires.can.0, f.behind.stands, first.from, most _ _ _ _ _ _ _ f _ first.from (omega (arith, first.end, c.requires.end)) first.none)))))

pub returns-in_err-place-clause-followed : goal.returns-in_err-place-clause-followed
returns-in_err-place-clause-followed g t c =
    let f = c.requires.can.1 in
    let first = c.first_mark-to.ensures in
    let le = most _ _ _ _ _ _ _ f _ first.from (omega (arith, first.end, c.requires.end)) first.none in
    rw c.from_residual.ensures
    (followed-dead _ _ _ _ _ _ _ f c.first_mark-to.result c.args.looks.now c.args.looks.now first.from le first.none (c.in_err-place.ensures c.args.from.at c.requires.can.0 f.behind.stands first.from le) (omega arith))

pub returns-then-place-eq0-clause-followed : goal.returns-then-place-eq0-clause-followed
returns-then-place-eq0-clause-followed g t c =
    let first = c.first_mark-to.ensures in
    followed-last _ _ _ _ _ _ _ c.requires.can.1 _ first.from (omega (arith, first.end, c.requires.end)) first.none c.in_ok-place.place c.args.looks.now c.in_ok-place.ensures c.if-place-eq0.true

pub ahead_at-requires : goal.ahead_at-requires
ahead_at-requires g t c =
    let first = c.first_mark-to.ensures in
    let p = (comes-there _ _ _ _ _ _ _ c.requires.can.1 _ first.from (omega (arith, first.end, c.requires.end)) first.none c.in_ok-place.place c.in_ok-place.ensures).0.passes in
    (omega (arith, c.requires.input.narrow), (omega (arith, c.requires.input.narrow), next-there c.args.trail.now.ahead.items c.in_ok-place.place.next p.back p.stands.ahead (omega (arith, c.if-place-eq0.false))))

-- the node over the position
over : (g : Over) (t : ℕ) (c : After-ahead_at g t)
    → StandsOver c.args.input.now c.args.t.now c.args.trail.now.ahead.items c.first_mark-to.result c.in_ok-place.place c.args.trail.now.marks.items c.ahead_at.result
over g t c =
    let first = c.first_mark-to.ensures in
    over-node _ _ _ _ _ _ _ c.requires.can.1 _ first.from (omega (arith, first.end, c.requires.end)) first.none c.requires.input c.in_ok-place.place c.ahead_at.result
    c.in_ok-place.ensures (omega (arith, c.if-place-eq0.false)) c.ahead_at.ensures

-- the end isn't reached, so the tuple has a mark there
marked : (g : Over) (t : ℕ) (c : After-ahead_at g t) → 0 < mark_of c.args.t.now c.first_mark-to.result
marked g t c = c.first_mark-to.ensures.some (omega (arith, over-early _ _ _ _ _ _ _ (over g t c), c.requires.end))

pub reach-comes-requires : goal.reach-comes-requires
reach-comes-requires g t c =
    let at = (goal.at.reach-comes-requires g t c).After-ahead_at in
    let down = over-down _ _ _ _ _ _ _ (over g t at) c.args.input.now.dfa.now.variables _ _ c.requires.tuple (marked g t at) c.requires.room in
    rw c.len-base.ensures.value (omega (arith, c.requires.input.narrow), (omega (arith, c.requires.input.narrow), (omega (arith, c.requires.input.narrow), (c.requires.input, (down, (over g t at).over)))))

pub returns-then-not-comes-clause-followed : goal.returns-then-not-comes-clause-followed
returns-then-not-comes-clause-followed g t c =
    rw (c.truncate.ensures.items, c.len-base.ensures.value)
    (followed-fails _ _ _ _ _ _ _ (over g t (goal.at.returns-then-not-comes-clause-followed g t c).After-ahead_at) c.args.looks.now c.reach-comes.new.looks
    _ _ (rw c.len-base.ensures.value at c.if-not-comes.ensures.laid) c.reach-comes.ensures.cost)

-- the way down to the position was laid
laid : (g : Over) (t : ℕ) (c : After-last_of-last g t) → Lays c.args.input.now c.args.t.now c.ahead_at.result c.in_ok-place.place.state c.first_mark-to.result (length c.args.trail.now.ahead.items)
    c.args.trail.now.marks.items c.reach-comes.new.trail.marks.items c.args.trail.now.ahead.items c.reach-comes.new.trail.ahead.items
laid g t c = rw c.len-base.ensures.value at c.if-not-comes.ensures.laid

-- and the last mark is the one that was kept
same : (g : Over) (t : ℕ) (c : After-last_of-last g t) → c.last_of-last.result.now ≡ (laid g t c).keeps.mark
same g t c = (last-same _ c.args.trail.now.marks.items (laid g t c).keeps.mark c.last_of-last.result.now (laid g t c).keeps.kept c.last_of-last.ensures).0

pub step-requires : goal.step-requires
step-requires g t c =
    let last = (goal.at.step-requires g t c).After-last_of-last in
    let at = (goal.at.step-requires g t c).After-ahead_at in
    rw (same g t last) (lays-way _ _ _ _ _ _ _ (over g t at) _ _ (laid g t last) (marked g t at)).is_mark.state

pub returns-in_err-state-clause-followed : goal.returns-in_err-state-clause-followed
returns-in_err-state-clause-followed g t c =
    let last = (goal.at.returns-in_err-state-clause-followed g t c).After-last_of-last in
    let at = (goal.at.returns-in_err-state-clause-followed g t c).After-ahead_at in
    let m = (laid g t last).keeps.mark in
    let step : step_of c.args.input.now.dfa.now m.state m.mark m.byte ≡ None = sym (rw (same g t last) at c.in_err-state.ensures.value) in
    rw c.from_residual-in_err-state.ensures (followed-stuck _ _ _ _ _ _ _ (over g t at) _ _ (laid g t last) (marked g t at) c.args.looks.now c.reach-comes.new.looks step c.reach-comes.ensures.cost)

pub follow-requires : goal.follow-requires
follow-requires g t c κs within =
    let last = (goal.at.follow-requires g t c).After-last_of-last in
    let at = (goal.at.follow-requires g t c).After-ahead_at in
    let few = over-few _ _ _ _ _ _ _ (over g t at) c.args.input.now.dfa.now.variables c.requires.tuple (marked g t at) in
    let k = laid g t last in
    let more : length c.reach-comes.new.trail.marks.items ≡ length c.args.trail.now.marks.items + 1 = ap length k.keeps.kept ∙ length-append c.args.trail.now.marks.items (k.keeps.mark ∷ []) in
    let can = lays-goes _ _ _ _ _ _ _ (over g t at) _ _ k (marked g t at) c.requires.input.automaton c.in_ok-state.state c.last_of-last.result.now (same g t last) (sym c.in_ok-state.ensures.value) in
    let q = c.requires in
    let room = c.reach-comes.ensures.room in
    (omega (arith, c.decreases, more, few), (within, ((λ a m. search rules), (omega (arith, c.requires.input.narrow), (omega (arith, c.requires.input.narrow), (q.input, (q.tuple, (q.end, (can, record { marks_fit = omega (arith, q.room.marks_fit, room); ahead_fits = omega (arith, q.room.ahead_fits, room) })))))))))

pub returns-clause-followed : goal.returns-clause-followed
returns-clause-followed g t c =
    let at = (goal.at.returns-clause-followed g t c).After-ahead_at in
    followed-on _ _ _ _ _ _ _ (over g t at) _ _ (laid g t (goal.at.returns-clause-followed g t c).After-last_of-last) (marked g t at)
    _ _ c.args.looks.now c.reach-comes.new.looks c.follow.new.looks c.follow.result c.reach-comes.ensures.cost c.follow.ensures.followed
