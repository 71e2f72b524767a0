use Rattle.std.proofs.Common.{[], length, sym, ◌∙◌}
use Rattle.std.proofs.lemmas.Result.{err_from_is_err_and}
use Rattle.slp_image.specs.Image.{documents_onto, documents_of}
use Rattle.slp_image.proofs.StepLemmas.{fails-same, fails-bind}
use Rattle.slp_image.proofs.DocumentLemmas.{files-init, files-on, files-end, files-done, documents-is, count-fails, ended, ended-rest, ended-all}
use Rattle.slp_image.proofs.documents.documents.Goals as goal

pub returns-in_err-count : goal.returns-in_err-count
returns-in_err-count c =
    let p = err_from_is_err_and c.from_residual.result c.from_residual.ensures.1 in rw (p.1, p.2) (count-fails (length c.args.roots.now) c.args.bytes.now c.in_err-count.field-0.0 c.in_err-count.ensures.read)

pub loop-init : goal.loop-init
loop-init c = files-init c.args.roots.now c.new-docs.result c.in_ok-count.count c.in_ok-count.rest.now c.new-docs.ensures

pub returns-in_err-after : goal.returns-in_err-after
returns-in_err-after c =
    let p = err_from_is_err_and c.from_residual-in_err-after.result c.from_residual-in_err-after.ensures.1 in rw (p.1, p.2) (fails-same c.in_err-after.field-0.0 (documents_of (length c.args.roots.now) c.args.bytes.now) (ended (documents_onto (length c.args.roots.now) c.in_ok-count.count [] c.in_ok-count.rest.now)) (documents-is (length c.args.roots.now) c.in_ok-count.count c.args.bytes.now c.in_ok-count.rest.now c.in_ok-count.ensures.read) (fails-bind c.in_err-after.field-0.0 (documents_onto (length c.args.roots.now) c.in_ok-count.count [] c.in_ok-count.rest.now) _ (files-end c.args.roots.now c.loop.docs c.in_ok-count.count c.loop.counter c.loop.rest.now (documents_onto (length c.args.roots.now) c.in_ok-count.count [] c.in_ok-count.rest.now) c.in_err-after.field-0.0 c.loop-test.true c.loop.invariant c.in_err-after.ensures)))

pub loop-preserved : goal.loop-preserved
loop-preserved c =
    files-on c.args.roots.now c.loop.docs c.document.new.docs c.in_ok-count.count c.loop.counter c.loop.rest.now c.in_ok-after.after.now (documents_onto (length c.args.roots.now) c.in_ok-count.count [] c.in_ok-count.rest.now) c.loop-test.true c.loop.invariant c.in_ok-after.ensures

pub returns-then-not-is_empty : goal.returns-then-not-is_empty
returns-then-not-is_empty c =
    documents-is (length c.args.roots.now) c.in_ok-count.count c.args.bytes.now c.in_ok-count.rest.now c.in_ok-count.ensures.read ∙ ended-rest (documents_onto (length c.args.roots.now) c.in_ok-count.count [] c.in_ok-count.rest.now) c.loop.invariant.documents c.loop.rest.now (files-done c.args.roots.now c.loop.docs c.in_ok-count.count c.loop.counter c.loop.rest.now (documents_onto (length c.args.roots.now) c.in_ok-count.count [] c.in_ok-count.rest.now) c.loop-test.false c.loop.invariant) (sym c.is_empty.ensures ∙ c.if-not-is_empty.true)

pub returns : goal.returns
returns c =
    record { documents = c.loop.invariant.documents; is = documents-is (length c.args.roots.now) c.in_ok-count.count c.args.bytes.now c.in_ok-count.rest.now c.in_ok-count.ensures.read ∙ ended-all (documents_onto (length c.args.roots.now) c.in_ok-count.count [] c.in_ok-count.rest.now) c.loop.invariant.documents c.loop.rest.now (files-done c.args.roots.now c.loop.docs c.in_ok-count.count c.loop.counter c.loop.rest.now (documents_onto (length c.args.roots.now) c.in_ok-count.count [] c.in_ok-count.rest.now) c.loop-test.false c.loop.invariant) (sym c.is_empty.ensures ∙ c.if-not-is_empty.false); shown = c.loop.invariant.shown }
