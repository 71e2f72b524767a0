use Rattle.std.proofs.Common.{◌-◌, bit_and, ap}
use Rattle.state_tables.specs.Partition.{partition_root}
use Rattle.state_tables.proofs.partition.SharedPartitionDigested.root.Goals as goal

pub returns-clause-value : goal.returns-clause-value
unfolding partition_root
returns-clause-value c = ap (λ d. bit_and d (c.args.roots - 1)) c.digest.ensures
