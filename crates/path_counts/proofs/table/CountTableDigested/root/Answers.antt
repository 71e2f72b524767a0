use Rattle.std.proofs.Common.{◌%◌, ◌∙◌, ap}
use Rattle.path_counts.specs.Branch.{root_of}
use Rattle.path_counts.specs.Digest.{digest_of}
use Rattle.path_counts.proofs.table.CountTableDigested.root.Goals as goal

pub returns-clause-value : goal.returns-clause-value
unfolding root_of
returns-clause-value c = ap (λ d. d % c.args.roots) (c.self.invariant.digest_is ∙ ap digest_of c.self.view_is)
