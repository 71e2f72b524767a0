use Rattle.std.proofs.Common.{arith}
use Rattle.slp_rebalance.specs.Entries.{entry_trees}
use Rattle.slp_image.specs.Reads.{HaveThese}
use Rattle.slp_image.proofs.StepLemmas.{passed}
use Rattle.slp_image.proofs.NodeLemmas.{kind-fails, kind-zero, kind-one, kind-other, byte-reads}
use Rattle.slp_image.proofs.records.node_entry.Goals as goal

pub returns-in_err-kind-clause-read : goal.returns-in_err-kind-clause-read
returns-in_err-kind-clause-read g c ns h = passed HaveThese (λ rest. rest.now) ns _ _ c.from_residual.result _ c.from_residual.ensures.1 (kind-fails ns c.args.bytes.now c.in_err-kind.field-0.0 c.in_err-kind.ensures)

pub returns-then-kind-eq0-clause-read : goal.returns-then-kind-eq0-clause-read
returns-then-kind-eq0-clause-read g c ns h = byte-reads (λ rest. rest.now) ns (entry_trees c.args.store.now c.args.roots.now) (entry_trees c.byte_entry.new.store c.byte_entry.new.roots) c.in_ok-kind.rest.now _ c.byte_entry.result h (kind-zero ns c.args.bytes.now c.in_ok-kind.rest.now c.in_ok-kind.kind (omega arith) c.in_ok-kind.ensures) c.byte_entry.ensures.read

pub returns-then-kind-eq1-clause-read : goal.returns-then-kind-eq1-clause-read
returns-then-kind-eq1-clause-read g c ns h = rw (kind-one ns c.args.bytes.now c.in_ok-kind.rest.now c.in_ok-kind.kind (omega arith) c.in_ok-kind.ensures) (c.pair_entry.ensures.read ns h)

pub returns-then-kind-eq1-clause-cost : goal.returns-then-kind-eq1-clause-cost
returns-then-kind-eq1-clause-cost g c ns h = rw (kind-one ns c.args.bytes.now c.in_ok-kind.rest.now c.in_ok-kind.kind (omega arith) c.in_ok-kind.ensures) (c.pair_entry.ensures.cost ns h)

pub returns-clause-read : goal.returns-clause-read
returns-clause-read g c ns h = kind-other ns c.args.bytes.now c.in_ok-kind.rest.now c.in_ok-kind.kind (omega arith) c.in_ok-kind.ensures
