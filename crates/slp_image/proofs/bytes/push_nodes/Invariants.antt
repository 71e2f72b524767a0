use Rattle.std.proofs.Common.{◌≡◌, ◌++◌}
use Rattle.slp_model.proofs.CompactionLemmas.{thin_to}
use Rattle.slp_image.specs.Written.{records_bytes}
use Rattle.slp_image.proofs.bytes.push_nodes.Given as goal

abbrev pub invariant-loop-index : goal.invariant-loop-index
invariant-loop-index l = l.out.items ≡ l.initial.out.items ++ records_bytes (thin_to l.store l.moves l.index)
