use Rattle.std.proofs.Common.{◌-◌, ap, sym, ◌∙◌}
use Rattle.std.specs.Int.{bit_at}
use Rattle.std.proofs.lemmas.Nat.Bits.{shr_and_one}
use Rattle.state_tables.specs.Coded.{list_of, table_of}
use Rattle.state_tables.specs.Digest.{digest_of}
use Rattle.state_tables.specs.Branch.{rows_bit}
use Rattle.state_tables.proofs.Branches.{branch-digest, branch-rows}
use Rattle.state_tables.proofs.table.TableDigested.branch.Goals as goal

pub returns-then-depth-lt64-clause-value : goal.returns-then-depth-lt64-clause-value
returns-then-depth-lt64-clause-value c =
    shr_and_one c.self.inside.digest (127 - c.args.depth)
    ∙ ap (λ d. bit_at d (127 - c.args.depth)) (c.self.invariant.digest_is ∙ ap digest_of c.self.view_is)
    ∙ sym (branch-digest c.args.self.now c.args.depth c.if-depth-lt64.true)

pub returns-else-depth-lt64-clause-value : goal.returns-else-depth-lt64-clause-value
returns-else-depth-lt64-clause-value c =
    c.rows_bit.ensures
    ∙ ap (λ t. rows_bit t (c.args.depth - 64)) (ap (λ cs. table_of cs (list_of c.self.inside.rows).rows) c.classes.ensures ∙ c.self.view_is)
    ∙ sym (branch-rows c.args.self.now c.args.depth c.if-depth-lt64.false)
