use Rattle.span_enum.proofs.Base.{Begins, CanFinish, HasRoom, Marked, [], ap, arith, length, length-append, ℕ, ◌*◌, ◌+◌, ◌-◌, ◌∙◌, ◌∷◌, ◌≡◌, ◌≤◌}
use mathlib.Core.List.{Mem}
use Rattle.std.proofs.Common.{List, rules}
use Rattle.span_enum.proofs.Chains.{next-there}
use Rattle.span_enum.proofs.Walks.{Arrives, arrives, begins-on, finds-end, finds-more, finds-quiet, one-more, turn-down}
use Rattle.span_enum.proofs.onward.+complete.Given.{Over}
use Rattle.span_enum.proofs.onward.+complete.Goals.{After-cut_before, After-len-kept}
use Rattle.span_enum.proofs.onward.+complete.Goals as goal

pub returns-then-from-clause-completes : goal.returns-then-from-clause-completes
returns-then-from-clause-completes g t c = rw c.truncate.ensures.items (λ word b. finds-quiet c.args.input.now c.args.from c.args.base word _ _ b c.args.looks.now c.args.out.now c.if-from.true)

pub pass_plain-place-requires : goal.pass_plain-place-requires
pass_plain-place-requires g t c =
    let b = c.requires.finish.1 in
    (omega (arith, c.requires.input.narrow), (omega (arith, c.requires.input.narrow), (c.requires.input, record { at = b.at; chain = b.chain; stands = b.behind.stands; can = b.can })))

pub ahead_at-requires : goal.ahead_at-requires
ahead_at-requires g t c =
    let b = c.requires.finish.1 in
    let p = (c.pass_plain-place.ensures b.at b.chain b.behind.stands b.can).0.passes in
    (omega (arith, c.requires.input.narrow), (omega (arith, c.requires.input.narrow), next-there c.args.trail.now.ahead.items c.pass_plain-place.result.next p.back p.stands.ahead (omega (arith, c.if-place-eq0.false))))

pub returns-then-place-eq0-clause-completes : goal.returns-then-place-eq0-clause-completes
returns-then-place-eq0-clause-completes g t c =
    rw c.truncate-then-place-eq0.ensures.items (λ word b. finds-end c.args.input.now c.args.from c.args.base word _ _ b c.pass_plain-place.result c.args.looks.now c.args.out.now c.if-place-eq0.true
    (c.pass_plain-place.ensures b.at b.chain b.behind.stands b.can).0)

-- the walk comes to the node at which it turns
turns : (g : Over) (t : ℕ) (c : After-cut_before g t) (word : Marked) (b : Begins c.args.input.now c.args.from c.args.base word c.args.trail.now.marks.items c.args.trail.now.ahead.items)
    → Arrives c.args.input.now c.args.trail.now.ahead.items c.cut_before.result b.at c.args.from c.pass_plain-place.result b.chain c.ahead_at.result
turns g t c word b =
    arrives c.args.input.now c.requires.input c.args.trail.now.ahead.items c.args.base c.cut_before.result b.at c.args.from c.pass_plain-place.result b.chain c.ahead_at.result
    (c.pass_plain-place.ensures b.at b.chain b.behind.stands b.can) (omega (arith, c.if-place-eq0.false)) c.ahead_at.ensures c.cut_before.ensures.least

pub descend-behind-requires : goal.descend-behind-requires
descend-behind-requires g t c =
    let b = c.requires.finish.1 in
    let n = turns g t (goal.at.descend-behind-requires g t c).After-cut_before c.requires.finish.0 b in
    let down = turn-down c.args.input.now c.args.from c.args.base c.requires.finish.0 _ _ b _ _ c.cut_before.result n c.cut_before.ensures.base _ _ c.requires.input c.requires.short c.requires.room c.cut_before.ensures.least in
    rw (c.truncate-2.ensures.items, c.truncate-2.ensures.capacity) (omega (arith, c.requires.input.narrow), (omega (arith, c.requires.input.narrow), (omega (arith, c.requires.input.narrow), (c.requires.input, (down, rw n.node.back at n.turns)))))

no-member : (a : ℕ) (xs : List ℕ) → Mem a [] → Mem a xs
no-member a xs m = search rules

-- what the next call needs
next-call : (g : Over) (t : ℕ) (c : After-len-kept g t) → CanFinish c.args.input.now c.descend-behind.result c.len-kept.result c.descend-behind.new.trail.marks.items c.descend-behind.new.trail.ahead.items
    × HasRoom c.args.input.now.dfa.now.variables c.descend-behind.new.trail.marks.capacity c.descend-behind.new.trail.ahead.capacity
    × (length c.descend-behind.new.trail.marks.items ≡ length c.args.trail.now.marks.items + 1) × (1 ≤ 2 * c.args.input.now.dfa.now.variables - length c.args.trail.now.marks.items)
next-call g t c =
    let b = c.requires.finish.1 in
    let n = turns g t (goal.at.After-len-kept g t c).After-cut_before c.requires.finish.0 b in
    let d = rw c.truncate-2.ensures.items at c.descend-behind.ensures.descends in
    let one = one-more c.args.input.now c.args.from c.args.base c.requires.finish.0 _ _ b _ _ c.cut_before.result n c.cut_before.ensures.base c.requires.input c.requires.short in
    let number : length c.descend-behind.new.trail.marks.items ≡ length c.args.trail.now.marks.items + 1 = ap length d.keeps.kept ∙ length-append c.args.trail.now.marks.items (d.keeps.mark ∷ []) in
    let on = begins-on c.args.input.now c.args.from c.args.base c.requires.finish.0 _ _ b _ _ c.cut_before.result n c.cut_before.ensures.base c.requires.input.automaton _ _ _ _ _ _ _ d in
    let room = c.requires.room in
    let same = c.descend-behind.ensures in
    let fits : HasRoom c.args.input.now.dfa.now.variables c.descend-behind.new.trail.marks.capacity c.descend-behind.new.trail.ahead.capacity =
    record { marks_fit = omega (arith, room.marks_fit, same.marks_room); ahead_fits = omega (arith, room.ahead_fits, same.ahead_room, c.truncate-2.ensures.capacity) } in
    (rw c.len-kept.ensures.value on, fits, number, one)

pub complete-requires : goal.complete-requires
complete-requires g t c κs within =
    let k = next-call g t (goal.at.complete-requires g t c).After-len-kept in
    (omega (arith, c.decreases, k.2, k.3), (within, ((λ a m. no-member a _ m), (omega (arith, c.requires.input.narrow), (omega (arith, c.requires.input.narrow), (c.requires.input, (c.requires.short, (k.0, k.1))))))))

pub returns-clause-completes : goal.returns-clause-completes
returns-clause-completes g t c = λ word b.
    let n = turns g t (goal.at.returns-clause-completes g t c).After-cut_before word b in
    finds-more c.args.input.now c.args.from c.args.base word _ _ b _ _ c.cut_before.result n c.cut_before.ensures.base c.requires.input.automaton _ _ _ _ _ _ _
    (rw c.truncate-2.ensures.items at c.descend-behind.ensures.descends) _ _ _ _ _ (rw c.len-kept.ensures.value at c.complete.ensures.completes)
