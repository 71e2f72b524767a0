use Rattle.std.proofs.Common.{arith}
use Rattle.std.proofs.lemmas.Result.{err_from_is_err_and}
use Rattle.slp_image.specs.Image.{node_at, text_at, contents}
use Rattle.slp_image.proofs.ReadLemmas.{image-fails, image-one, image-two, reads-nodes, reads-texts, trees-one, trees-two}
use Rattle.slp_image.proofs.reading.read.Goals as goal

pub returns-in_err-version-clause-read : goal.returns-in_err-version-clause-read
returns-in_err-version-clause-read g c =
    let p = err_from_is_err_and c.from_residual.result c.from_residual.ensures.1 in rw (p.1, p.2) (image-fails c.in_err-version.field-0.0 c.args.bytes.now c.in_err-version.ensures)

pub returns-then-version-eq1-clause-read : goal.returns-then-version-eq1-clause-read
returns-then-version-eq1-clause-read g c =
    rw (image-one c.args.bytes.now c.in_ok-version.rest.now c.in_ok-version.version c.in_ok-version.ensures (omega arith)) (reads-nodes c.read_records.new.store (contents node_at c.in_ok-version.rest.now) c.read_records.result c.read_records.ensures.read)

pub returns-then-version-eq1-clause-trees : goal.returns-then-version-eq1-clause-trees
returns-then-version-eq1-clause-trees g c =
    trees-one c.args.bytes.now c.in_ok-version.rest.now c.in_ok-version.version c.read_records.new.store c.read_records.result c.in_ok-version.ensures c.read_records.ensures.read

pub returns-then-version-eq1-clause-cost : goal.returns-then-version-eq1-clause-cost
returns-then-version-eq1-clause-cost g c = rw (image-one c.args.bytes.now c.in_ok-version.rest.now c.in_ok-version.version c.in_ok-version.ensures (omega arith)) c.read_records.ensures.cost

pub returns-clause-read : goal.returns-clause-read
returns-clause-read g c =
    rw (image-two c.args.bytes.now c.in_ok-version.rest.now c.in_ok-version.version c.in_ok-version.ensures (λ e. absurd (omega (arith, e)))) (reads-texts c.read_records-2.new.store (contents text_at c.in_ok-version.rest.now) c.read_records-2.result c.read_records-2.ensures.read)

pub returns-clause-trees : goal.returns-clause-trees
returns-clause-trees g c =
    trees-two c.args.bytes.now c.in_ok-version.rest.now c.in_ok-version.version c.read_records-2.new.store c.read_records-2.result c.in_ok-version.ensures (λ e. absurd (omega (arith, e)))

pub returns-clause-cost : goal.returns-clause-cost
returns-clause-cost g c = rw (image-two c.args.bytes.now c.in_ok-version.rest.now c.in_ok-version.version c.in_ok-version.ensures (λ e. absurd (omega (arith, e)))) c.read_records-2.ensures.cost
