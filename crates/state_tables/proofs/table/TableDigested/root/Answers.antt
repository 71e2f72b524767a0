use Rattle.std.proofs.Common.{◌-◌, bit_and, ap, ◌∙◌}
use Rattle.state_tables.specs.Digest.{digest_of}
use Rattle.state_tables.specs.Branch.{root_of}
use Rattle.state_tables.proofs.table.TableDigested.root.Goals as goal

pub returns-clause-value : goal.returns-clause-value
unfolding root_of
returns-clause-value c = ap (λ d. bit_and d (c.args.roots - 1)) (c.self.invariant.digest_is ∙ ap digest_of c.self.view_is)
