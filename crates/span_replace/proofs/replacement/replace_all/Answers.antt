use Rattle.std.proofs.Common.{◌≡◌, ◌+◌, ◌-◌, arith, ap, sym, subst, refl, ◌∙◌, ◌++◌, length, take, drop}
use Rattle.slp_model.proofs.NodesLemmas.{Grows-none, Grows-trans}
use Rattle.slp_model.specs.Nodes.{text_of}
use Rattle.span_replace.specs.Replaced.{AreApartFrom, replaced_from}
use Rattle.span_replace.proofs.Grown.{text-grows}
use Rattle.span_replace.proofs.Spliced.{at_position, next-at, rest-at, whole-next, fits-next, rest-next, end-next}
use Rattle.span_replace.proofs.replacement.replace_all.Goals as goal

pub loop-span-init : goal.loop-span-init
loop-span-init g c = record {
  grows = Grows-none c.args.store.now c.args.pairs.now c.args.pairs.now (omega arith);
  done_live = tt;
  rest_live = c.requires.live.0;
  start = omega arith;
  apart = c.requires.apart;
  rest = refl;
  whole = refl;
  paid = omega arith;
}

pub replace_next-requires-clause-end : goal.replace_next-requires-clause-end
replace_next-requires-clause-end g c =
    let s = text_of c.args.store.now c.args.root in
    let i = c.loop-span.span-index in
    let qs = c.args.spans.now in
    let n = next-at c.loop-span.work.at (length s) qs i c.loop-span-test.true c.loop-span.invariant.apart in
    omega (arith, ap length c.loop-span.invariant.rest, end-next c.loop-span.work.at (at_position qs i) (drop (i + 1) qs) s (text_of c.args.store.now c.args.by) c.loop-span.invariant.start n)

pub replace_next-requires-clause-short : goal.replace_next-requires-clause-short
replace_next-requires-clause-short g c =
    let s = text_of c.args.store.now c.args.root in
    let w = text_of c.args.store.now c.args.by in
    let at = c.loop-span.work.at in
    let i = c.loop-span.span-index in
    let qs = c.args.spans.now in
    let done = text_of c.loop-span.store c.loop-span.work.done in
    let n = next-at at (length s) qs i c.loop-span-test.true c.loop-span.invariant.apart in
    let h = ap (λ xs. done ++ replaced_from at s xs w) (sym (rest-at qs i c.loop-span-test.true)) ∙ c.loop-span.invariant.whole in
    let by : text_of c.loop-span.store c.args.by ≡ w = text-grows _ _ _ _ c.loop-span.invariant.grows c.args.by c.requires.live.1 in
    omega (arith, ap length by, fits-next at (at_position qs i) (drop (i + 1) qs) s w c.loop-span.invariant.start n done _ h c.requires.short)

pub returns-in_err-work-clause-grows : goal.returns-in_err-work-clause-grows
returns-in_err-work-clause-grows g c = Grows-trans _ _ _ _ _ _ c.loop-span.invariant.grows c.replace_next.ensures.grows

pub loop-span-preserved : goal.loop-span-preserved
loop-span-preserved g c =
    let s = text_of c.args.store.now c.args.root in
    let w = text_of c.args.store.now c.args.by in
    let at = c.loop-span.work.at in
    let i = c.loop-span.span-index in
    let qs = c.args.spans.now in
    let q = at_position qs i in
    let more = drop (i + 1) qs in
    let new = c.replace_next.new.store in
    let next = c.in_ok-work.work in
    let done = text_of c.loop-span.store c.loop-span.work.done in
    let n = next-at at (length s) qs i c.loop-span-test.true c.loop-span.invariant.apart in
    let here : q.end ≡ next.at = sym c.in_ok-work.ensures.at in
    let h = ap (λ xs. done ++ replaced_from at s xs w) (sym (rest-at qs i c.loop-span-test.true)) ∙ c.loop-span.invariant.whole in
    let by : text_of c.loop-span.store c.args.by ≡ w = text-grows _ _ _ _ c.loop-span.invariant.grows c.args.by c.requires.live.1 in
    let made : text_of new next.done ≡ done ++ (take (q.start - at) (drop (at - 1) s) ++ w) =
    c.in_ok-work.ensures.done ∙ (λ j. done ++ (take (q.start - at) (c.loop-span.invariant.rest j) ++ by j)) in
    record {
      grows = Grows-trans _ _ _ _ _ _ c.loop-span.invariant.grows c.replace_next.ensures.grows;
      done_live = c.in_ok-work.ensures.live.0;
      rest_live = c.in_ok-work.ensures.live.1;
      start = omega (arith, here, n.start, n.order, c.loop-span.invariant.start);
      apart = subst (λ m. AreApartFrom m (length s) more) here n.rest;
      rest = c.in_ok-work.ensures.rest
          ∙ (ap (λ x. drop (q.end - at) x) c.loop-span.invariant.rest ∙ (rest-next at q more s w c.loop-span.invariant.start n ∙ ap (λ m. drop (m - 1) s) here));
      whole = (λ j. made j ++ replaced_from (c.in_ok-work.ensures.at j) s more w) ∙ whole-next at q more s w c.loop-span.invariant.start n done _ h;
      paid = omega (arith, c.loop-span.invariant.paid, c.replace_next.ensures.cost);
    }

pub returns-clause-grows : goal.returns-clause-grows
returns-clause-grows g c = Grows-trans _ _ _ _ _ _ c.loop-span.invariant.grows c.join.ensures.grows
