use Rattle.std.proofs.Common.{ℕ, ◌++◌, Option, ap, ◌∙◌}
use Rattle.slp_model.specs.Thin.{rank}
use Rattle.slp_image.specs.Written.{document_bytes}
use Rattle.slp_image.proofs.SavedLemmas.{saved-init, saved-on}
use Rattle.slp_image.proofs.bytes.push_documents.Goals as goal

pub loop-index-init : goal.loop-index-init
loop-index-init c = saved-init (rank c.args.moves.now) c.args.docs.now c.args.out.now.items

pub loop-index-preserved : goal.loop-index-preserved
loop-index-preserved c =
    saved-on (rank c.args.moves.now) c.args.docs.now c.loop-index.index (record { name = c.at-root.result.0.now; root = c.at-root.result.1 }) c.args.out.now.items c.loop-index.out.items c.push_document.new.out.items c.loop-index.invariant c.at-root.ensures c.in_ok-push_document.ensures.named
    (c.in_ok-push_document.ensures.bytes ∙ ap (λ (r : Option ℕ). c.loop-index.out.items ++ document_bytes (record { name = c.at-root.result.0.now; root = r })) c.number_of.ensures)
