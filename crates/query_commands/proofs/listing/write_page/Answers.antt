use Rattle.query_commands.proofs.Names.{arith, sym, ◌-◌, ◌∙◌}
use Rattle.query_commands.proofs.Facts.{kept_looks, kept_size, looks_more, moved, page_ends, page_goes_on, page_has_more, page_stops, passed}
use Rattle.query_commands.proofs.listing.write_page.Goals as goal

pub write_tuple-requires : goal.write_tuple-requires
write_tuple-requires g c = c.requires ∙ sym (kept_size c.loop-tuple.invariant.kept c.in-Some.ensures.answer)

pub loop-tuple-preserved : goal.loop-tuple-preserved
loop-tuple-preserved g c =
    let i = c.loop-tuple.invariant in
    let to = moved i.kept c.in-Some.ensures.listing in
    record {
      kept = to.0;
      so_far = λ all rest are after.
          page_goes_on i.kept are (i.so_far all rest are after) (c.loop-tuple.left - 1) _ c.in-Some.tuple _ (omega (arith, c.if-left-eq0.false)) to.1 c.in-Some.ensures.answer (kept_looks _ _ i.kept c.in-Some.ensures.cost) c.in_ok-write_tuple.ensures.wrote;
      wants = c.in_ok-write_tuple.ensures.wrote.sound.1 ∙ i.wants;
    }

pub returns-then-left-eq0-clause-page : goal.returns-then-left-eq0-clause-page
returns-then-left-eq0-clause-page g c = λ all rest are after.
    let i = c.loop-tuple.invariant in
    let h = i.so_far all rest are after in
    (page_has_more i.kept are h _ c.close.result c.in-Some.tuple c.if-left-eq0.true c.in-Some.ensures.answer c.close.ensures.wrote, looks_more i.kept are h _ (kept_looks _ _ i.kept c.in-Some.ensures.cost))

pub returns-in_err-write_tuple-clause-page : goal.returns-in_err-write_tuple-clause-page
returns-in_err-write_tuple-clause-page g c = λ all rest are after.
    let i = c.loop-tuple.invariant in
    let h = i.so_far all rest are after in (
      passed _ _ _ _ c.from_residual.ensures.1 (page_stops i.kept are h (c.loop-tuple.left - 1) c.in-Some.tuple (omega (arith, c.if-left-eq0.false)) c.in-Some.ensures.answer c.in_err-write_tuple.ensures.wrote),
      looks_more i.kept are h _ (kept_looks _ _ i.kept c.in-Some.ensures.cost),
    )

pub returns-clause-page : goal.returns-clause-page
returns-clause-page g c = λ all rest are after.
    let i = c.loop-tuple.invariant in
    let h = i.so_far all rest are after in
    (page_ends i.kept are h _ c.close-2.result c.in_default.ensures.answer c.close-2.ensures.wrote, looks_more i.kept are h _ (kept_looks _ _ i.kept c.in_default.ensures.cost))
