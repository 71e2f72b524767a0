use Rattle.std.proofs.Common.{ℕ, List, ◌-◌, ◌/◌, ◌%◌, get_or, ap, sym, ◌∙◌}
use Rattle.std.specs.Int.{bit_at}
use Rattle.std.proofs.lemmas.Nat.Bits.{shr_and_one}
use Rattle.state_tables.proofs.Partitions.{branch-of_classes, branch-of_digest}
use Rattle.state_tables.proofs.partition.SharedPartitionDigested.branch.Goals as goal

pub returns-then-depth-lt64-clause-value : goal.returns-then-depth-lt64-clause-value
returns-then-depth-lt64-clause-value c =
    shr_and_one c.digest.result (127 - c.args.depth)
    ∙ ap (λ d. bit_at d (127 - c.args.depth)) c.digest.ensures
    ∙ sym (branch-of_digest c.args.self.now c.args.depth c.if-depth-lt64.true)

pub returns-else-depth-lt64-clause-value : goal.returns-else-depth-lt64-clause-value
returns-else-depth-lt64-clause-value c =
    c.class_bit.ensures
    ∙ ap (λ (cs : List ℕ). bit_at (get_or cs ((c.args.depth - 64) / 16) 0) ((c.args.depth - 64) % 16)) c.classes.ensures
    ∙ sym (branch-of_classes c.args.self.now c.args.depth c.if-depth-lt64.false)
