use Rattle.std.proofs.Common.{◌∙◌}
use Rattle.state_tables.specs.Coded.{list_of}
use Rattle.state_tables.proofs.ClassedTables.{digest-classed}
use Rattle.state_tables.proofs.table.Table.from_partition.Goals as goal

pub invariant_of-result : goal.invariant_of-result
invariant_of-result c =
    rw c.into_rows.ensures (record {
      classed = c.requires;
      digest_is = c.digest-digest.ensures ∙ digest-classed c.args.partition (list_of c.args.set) c.requires.states;
    })
