use Rattle.query_commands.proofs.Names.{arith, refl}
use Rattle.query_commands.proofs.Facts.{last, part, passed, rest_end, starts}
use Rattle.query_commands.proofs.all_listing.list_documents.Goals as goal

pub loop-first-preserved : goal.loop-first-preserved
loop-first-preserved g c = record {
  within = omega (arith, c.loop-first.invariant.within, c.min-count.ensures);
  so_far = λ lists are. part (c.loop-first.invariant.so_far lists are) (c.in_ok-list_batch.ensures.done lists are);
}

pub returns-in_err-list_batch-clause-wrote : goal.returns-in_err-list_batch-clause-wrote
returns-in_err-list_batch-clause-wrote g c = λ lists are. last c.from_residual.result _ _ _ (c.loop-first.invariant.so_far lists are) refl (passed _ _ _ _ c.from_residual.ensures.1 (c.in_err-list_batch.ensures.stopped lists are))

pub returns-clause-wrote : goal.returns-clause-wrote
returns-clause-wrote g c = λ lists are.
    last c.close.result _ _ _ (rest_end _ _ _ lists c.loop-first.first (omega (arith, c.loop-first-test.false, c.count-all.ensures.count)) (c.loop-first.invariant.so_far lists are)) refl c.close.ensures.wrote

pub loop-first-init : goal.loop-first-init
loop-first-init g c = record { within = omega arith; so_far = λ lists are. starts _ _ }
