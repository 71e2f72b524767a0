use Rattle.std.proofs.Common.{ap, ◌∙◌}
use Rattle.state_tables.specs.Digest.{set_digest}
use Rattle.state_tables.proofs.shared_set.SharedSet.digest.Goals as goal

pub returns : goal.returns
returns c = c.behind-self.invariant ∙ ap set_digest (c.behind-self.view_is ∙ c.deref.ensures ∙ c.self.view_is)
