use Rattle.std.proofs.Common.{ap, sym, ◌∙◌, length}
use Rattle.state_tables.proofs.CodedRows.{sets-length}
use Rattle.state_tables.proofs.sets.Sets.len.Goals as goal

pub returns : goal.returns
returns c = sym (sets-length c.self.inside.width c.self.inside.count c.self.inside.words.items) ∙ ap (λ s. length s.sets) c.self.view_is
