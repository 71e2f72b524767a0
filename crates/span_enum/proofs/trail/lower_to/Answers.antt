use Rattle.span_enum.proofs.Base.{[], ap, arith, length, take, ◌++◌, ◌-◌, ◌∙◌, ◌∷◌, ◌≡◌}
use Rattle.span_enum.proofs.Kept.{Last, last-kept, last-same, lower, turned-none, turned-some}
use Rattle.span_enum.proofs.trail.lower_to.Goals.{After-last_of-last}
use Rattle.span_enum.proofs.trail.lower_to.Goals as goal
use Rattle.span_enum.proofs.trail.lower_to.Given.{Over}

-- the last mark, and, after it, what comes after the tuple
last : (g : Over) (c : After-last_of-last g) → Last c.args.input.now c.args.t.now (take (length c.args.trail.now.marks.items - 1) c.args.trail.now.marks.items) c.args.trail.now.ahead.items c.requires.last.mark
last g c = last-kept c.args.input.now c.args.t.now c.args.trail.now.marks.items _ c.requires.trail c.requires.last.mark c.requires.last.is_last

pub returns-then-lowered-eq0-clause-turned : goal.returns-then-lowered-eq0-clause-turned
returns-then-lowered-eq0-clause-turned g c =
    let ms = c.args.trail.now.marks.items in
    let last' = c.requires.last in
    let kept : c.truncate.new.self.items ≡ take (length ms - 1) ms = c.truncate.ensures.items ∙ ap (λ n. take (n - 1) ms) c.len-count.ensures.value in
    rw (kept, (last-same ms _ last'.mark c.last_of-last.result.now last'.is_last c.last_of-last.ensures).0)
    (turned-none c.args.input.now c.args.t.now _ _ last'.mark (last g (goal.at.returns-then-lowered-eq0-clause-turned g c).After-last_of-last) c.args.lowered.now c.requires.input.automaton last'.at last'.best c.if-lowered-eq0.true)

pub returns-clause-turned : goal.returns-clause-turned
returns-clause-turned g c =
    let ms = c.args.trail.now.marks.items in
    let last' = c.requires.last in
    let kept : c.truncate.new.self.items ≡ take (length ms - 1) ms = c.truncate.ensures.items ∙ ap (λ n. take (n - 1) ms) c.len-count.ensures.value in
    let items = c.push_reserved.ensures.items ∙ ap (λ k. k ++ lower c.last_of-last.result.now c.args.lowered.now.mark ∷ []) kept in
    rw (items, (last-same ms _ last'.mark c.last_of-last.result.now last'.is_last c.last_of-last.ensures).0, c.len.ensures.value)
    (turned-some c.args.input.now c.args.t.now _ _ last'.mark (last g (goal.at.returns-clause-turned g c).After-last_of-last) c.args.lowered.now c.requires.input.automaton last'.at last'.best (omega (arith, c.if-lowered-eq0.false)))
