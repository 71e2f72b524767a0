use Rattle.span_enum.proofs.Base.{ap, length, take, ◌-◌, ◌∙◌, ◌≡◌}
use Rattle.span_enum.proofs.Kept.{forgotten, last-kept}
use Rattle.span_enum.proofs.trail.forget_last.Goals as goal

pub returns-clause-trail : goal.returns-clause-trail
returns-clause-trail g c =
    let ms = c.args.trail.now.marks.items in
    let others = take (length ms - 1) ms in
    let kept : c.truncate-2.new.self.items ≡ others = c.truncate-2.ensures.items ∙ ap (λ n. take (n - 1) ms) c.len-count.ensures.value in
    rw (kept, c.truncate.ensures.items) (forgotten c.args.input.now c.args.t.now others c.args.trail.now.ahead.items c.args.last (last-kept c.args.input.now c.args.t.now ms _ c.requires.trail c.args.last c.requires.last) c.requires.none)
