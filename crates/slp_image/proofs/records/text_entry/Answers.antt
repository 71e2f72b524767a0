use Rattle.std.proofs.Common.{arith}
use Rattle.slp_rebalance.specs.Entries.{entry_trees}
use Rattle.slp_image.specs.Reads.{AreTexts}
use Rattle.slp_image.proofs.StepLemmas.{passed}
use Rattle.slp_image.proofs.TextLemmas.{kind-fails, kind-zero, kind-one, kind-two, kind-other, byte-reads}
use Rattle.slp_image.proofs.records.text_entry.Goals as goal

pub returns-in_err-kind-clause-read : goal.returns-in_err-kind-clause-read
returns-in_err-kind-clause-read g c ts h = passed AreTexts (λ rest. rest.now) ts _ _ c.from_residual.result _ c.from_residual.ensures.1 (kind-fails ts c.args.bytes.now c.in_err-kind.field-0.0 c.in_err-kind.ensures)

pub returns-then-kind-eq0-clause-read : goal.returns-then-kind-eq0-clause-read
returns-then-kind-eq0-clause-read g c ts h = byte-reads (λ rest. rest.now) (entry_trees c.args.store.now c.args.roots.now) (entry_trees c.byte_entry.new.store c.byte_entry.new.roots) ts c.in_ok-kind.rest.now _ c.byte_entry.result h (kind-zero ts c.args.bytes.now c.in_ok-kind.rest.now c.in_ok-kind.kind (omega arith) c.in_ok-kind.ensures) c.byte_entry.ensures.read

pub returns-then-kind-eq1-clause-read : goal.returns-then-kind-eq1-clause-read
returns-then-kind-eq1-clause-read g c ts h = rw (kind-one ts c.args.bytes.now c.in_ok-kind.rest.now c.in_ok-kind.kind (omega arith) c.in_ok-kind.ensures) (c.join_entry.ensures.read ts h)

pub returns-then-kind-eq1-clause-cost : goal.returns-then-kind-eq1-clause-cost
returns-then-kind-eq1-clause-cost g c ts h = rw (kind-one ts c.args.bytes.now c.in_ok-kind.rest.now c.in_ok-kind.kind (omega arith) c.in_ok-kind.ensures) (c.join_entry.ensures.cost ts h)

pub returns-then-kind-eq2-clause-read : goal.returns-then-kind-eq2-clause-read
returns-then-kind-eq2-clause-read g c ts h = rw (kind-two ts c.args.bytes.now c.in_ok-kind.rest.now c.in_ok-kind.kind (omega arith) c.in_ok-kind.ensures) (c.run_entry.ensures.read ts h)

pub returns-then-kind-eq2-clause-cost : goal.returns-then-kind-eq2-clause-cost
returns-then-kind-eq2-clause-cost g c ts h = rw (kind-two ts c.args.bytes.now c.in_ok-kind.rest.now c.in_ok-kind.kind (omega arith) c.in_ok-kind.ensures) (c.run_entry.ensures.cost ts h)

pub returns-clause-read : goal.returns-clause-read
returns-clause-read g c ts h = kind-other ts c.args.bytes.now c.in_ok-kind.rest.now c.in_ok-kind.kind (omega arith) c.in_ok-kind.ensures
