use Rattle.std.proofs.Common.{ap, ◌∙◌}
use Rattle.state_tables.specs.Coded.{coded_at}
use Rattle.state_tables.specs.Digest.{digest_with, low_of}
use Rattle.state_tables.proofs.RowSets.{number-of-row}
use Rattle.state_tables.proofs.row_set.number_at.Goals as goal

pub returns : goal.returns
returns c =
    let row = coded_at c.args.rows.now c.args.row in
    c.row_number.ensures ∙ ap (λ d. low_of (digest_with d row.code)) c.digest.ensures ∙ number-of-row c.args.sets.now.width c.args.sets.now.sets row
