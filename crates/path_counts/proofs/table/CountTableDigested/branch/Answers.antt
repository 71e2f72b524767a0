use Rattle.std.proofs.Common.{◌/◌, ◌^◌, ◌-◌, ◌%◌, ◌∙◌, ap}
use Rattle.std.specs.Int.{bit_at}
use Rattle.std.proofs.lemmas.Nat.{and_mask}
use Rattle.path_counts.specs.Branch.{branch_of}
use Rattle.path_counts.specs.Digest.{digest_of}
use Rattle.path_counts.proofs.table.CountTableDigested.branch.Goals as goal

pub returns-clause-value : goal.returns-clause-value
unfolding branch_of
returns-clause-value c =
    let index = 63 - c.args.depth % 64 in
    and_mask (c.self.inside.digest / 2 ^ index) 1 ∙ ap (λ d. bit_at d index) (c.self.invariant.digest_is ∙ ap digest_of c.self.view_is)
