use Rattle.doc_book.specs.declared.Doc.{Doc}
use Rattle.doc_book.proofs.TextLemmas.{live-at}
use Rattle.slp_image.proofs.KeptLemmas.{exactly-next}
use Rattle.slp_image.proofs.writing.plan_of.Goals as goal

pub keep_root-requires-clause-live : goal.keep_root-requires-clause-live
keep_root-requires-clause-live c = live-at c.args.store.now c.args.docs.now c.loop-index.index _ c.requires c.at-root.ensures

pub loop-index-preserved : goal.loop-index-preserved
loop-index-preserved c =
    let d : Doc = record { name = c.at-root.result.0.now; root = c.at-root.result.1 } in
    record {
      plan = c.keep_root.ensures.plan;
      kept = exactly-next c.args.store.now c.loop-index.plan c.keep_root.new.self c.args.docs.now c.loop-index.index d c.loop-index.invariant.kept c.at-root.ensures c.keep_root.ensures.kept;
    }
