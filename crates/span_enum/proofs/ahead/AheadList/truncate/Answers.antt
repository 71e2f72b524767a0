use Rattle.std.proofs.Common.{◌≡◌, ◌∙◌, ap, take}
use Rattle.span_enum.specs.AheadView.{joined}
use Rattle.span_enum.proofs.Joined.{joined-take}
use Rattle.span_enum.proofs.ahead.AheadList.truncate.Goals as goal

pub returns-clause-items : goal.returns-clause-items
returns-clause-items g c =
    let nodes = c.self.inside.nodes.items in
    let sets = c.self.inside.sets.items in
    let less : joined c.truncate.new.self.items c.truncate-2.new.self.items ≡ take c.args.count (joined nodes sets) = rw (c.truncate.ensures.items, c.truncate-2.ensures.items) (joined-take c.args.count nodes sets) in
    less ∙ ap (λ l. take c.args.count l.items) c.self.view_is
