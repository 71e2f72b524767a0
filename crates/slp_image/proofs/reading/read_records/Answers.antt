use Rattle.std.proofs.Common.{[]}
use Rattle.std.proofs.lemmas.Result.{err_from_is_err_and}
use Rattle.slp_image.specs.Image.{records_onto}
use Rattle.slp_image.specs.Reads.{record_at}
use Rattle.slp_image.proofs.ReadLemmas.{contents-is, contents-fail, after-fails, contents-failed, contents-read}
use Rattle.slp_image.proofs.reading.read_records.Goals as goal

pub returns-in_err-count-clause-read : goal.returns-in_err-count-clause-read
returns-in_err-count-clause-read g c =
    let p = err_from_is_err_and c.from_residual.result c.from_residual.ensures.1 in rw (p.1, p.2) (contents-failed c.args.format _ _ _ (contents-fail (record_at c.args.format) c.in_err-count.field-0.0 c.args.bytes.now c.in_err-count.ensures.read))

pub returns-in_err-rest-clause-read : goal.returns-in_err-rest-clause-read
returns-in_err-rest-clause-read g c =
    let p = err_from_is_err_and c.from_residual-in_err-rest.result c.from_residual-in_err-rest.ensures.1 in rw (p.1, p.2) (contents-failed c.args.format _ _ _ (rw (contents-is (record_at c.args.format) c.in_ok-count.count c.args.bytes.now c.in_ok-count.after.now c.in_ok-count.ensures.read) (after-fails (records_onto (record_at c.args.format) c.in_ok-count.count [] 0 c.in_ok-count.after.now) c.in_err-rest.field-0.0 c.in_err-rest.ensures.read)))

pub returns-in_err-rest-clause-cost : goal.returns-in_err-rest-clause-cost
returns-in_err-rest-clause-cost g c = rw (contents-is (record_at c.args.format) c.in_ok-count.count c.args.bytes.now c.in_ok-count.after.now c.in_ok-count.ensures.read) c.entries.ensures.cost

pub returns-clause-read : goal.returns-clause-read
returns-clause-read g c =
    rw (contents-is (record_at c.args.format) c.in_ok-count.count c.args.bytes.now c.in_ok-count.after.now c.in_ok-count.ensures.read) (contents-read c.args.format c.entries.new.store c.entries.new.roots (records_onto (record_at c.args.format) c.in_ok-count.count [] 0 c.in_ok-count.after.now) c.in_ok-rest.rest.now c.documents.result c.entries.ensures.live c.in_ok-rest.ensures.read c.documents.ensures)

pub returns-clause-cost : goal.returns-clause-cost
returns-clause-cost g c = rw (contents-is (record_at c.args.format) c.in_ok-count.count c.args.bytes.now c.in_ok-count.after.now c.in_ok-count.ensures.read) c.entries.ensures.cost
