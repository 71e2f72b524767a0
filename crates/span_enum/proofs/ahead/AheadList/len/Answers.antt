use Rattle.std.proofs.Common.{◌∙◌, ap, length, sym}
use Rattle.span_enum.proofs.Joined.{joined-length}
use Rattle.span_enum.proofs.ahead.AheadList.len.Goals as goal

pub returns : goal.returns
returns g c = record { value = c.len.ensures.value ∙ sym (joined-length c.self.inside.nodes.items c.self.inside.sets.items c.self.invariant.same) ∙ ap (λ l. length l.items) c.self.view_is }
