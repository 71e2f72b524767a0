use Rattle.std.proofs.Common.{length, arith, None, Some}
use Rattle.std.proofs.lemmas.Result.{err_from_is_err_and}
use Rattle.slp_image.proofs.DocumentLemmas.{index-fails, root-none, root-past, root-there}
use Rattle.slp_image.proofs.documents.root.Goals as goal

pub returns-in_err-index : goal.returns-in_err-index
returns-in_err-index c =
    let p = err_from_is_err_and c.from_residual.result c.from_residual.ensures.1 in rw (p.1, p.2) (index-fails (length c.args.roots.now) c.args.bytes.now c.in_err-index.field-0.0 c.in_err-index.ensures.read)

pub returns-then-index : goal.returns-then-index
returns-then-index c =
    record { number = None; is = root-none (length c.args.roots.now) c.in_ok-index.index c.args.bytes.now c.in_ok-index.rest.now c.in_ok-index.ensures.read (omega arith); there = tt }

pub returns-then-index-count : goal.returns-then-index-count
returns-then-index-count c =
    root-past (length c.args.roots.now) c.in_ok-index.index c.args.bytes.now c.in_ok-index.rest.now c.in_ok-index.ensures.read (omega (arith, c.in_ok-index.ensures.fits)) (omega arith)

pub returns : goal.returns
returns c =
    record { number = Some c.in_ok-index.index; is = root-there (length c.args.roots.now) c.in_ok-index.index c.args.bytes.now c.in_ok-index.rest.now c.in_ok-index.ensures.read (omega (arith, c.in_ok-index.ensures.fits)) (omega arith); there = c.root.ensures }
