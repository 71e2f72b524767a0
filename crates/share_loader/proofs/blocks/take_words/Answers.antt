use Rattle.std.proofs.Common.{◌≡◌, inl, ◌+◌, ◌-◌, ◌++◌, length, take, drop, refl, ap, sym, ◌∙◌, arith, append_assoc, append-nil, length-append}
use Rattle.std.proofs.Math.Seq.{take-add}
use Rattle.std.proofs.lemmas.List.{take_rest, length-drop, length-take-le}
use Rattle.slp_model.proofs.NodesLemmas.{Grows-none, Grows-trans}
use Rattle.share_loader.specs.Blocks.{ended_text, taken_text}
use Rattle.share_loader.specs.BlocksView.{taken_of}
use Rattle.share_loader.proofs.CostLemmas.{limit-grows, cost-all}
use Rattle.share_loader.proofs.BlockLemmas.{taken-long, left-more}
use Rattle.share_loader.proofs.blocks.take_words.Goals as goal

pub loop-count-init : goal.loop-count-init
loop-count-init g c = record {
  grows = Grows-none c.args.store.now c.args.pairs.now c.args.pairs.now (omega arith);
  within = omega arith;
  left = inl refl;
  taken = c.requires.taken;
  few = c.requires.few;
  text = sym (append-nil (taken_text c.args.store.now (taken_of c.args.blocks.now)));
  cost = omega arith;
}

pub returns-in_err-len-clause-grows : goal.returns-in_err-len-clause-grows
returns-in_err-len-clause-grows g c = Grows-trans _ _ _ _ _ _ c.loop-count.invariant.grows c.take_word.ensures.grows

pub returns-in_err-len-clause-most : goal.returns-in_err-len-clause-most
returns-in_err-len-clause-most g c =
    let e = take_rest c.args.text.now c.loop-count.count in
    let n : length (take c.loop-count.count c.args.text.now) ≡ c.loop-count.count = length-take-le c.loop-count.count c.args.text.now c.loop-count.invariant.within in
    let taken : length (taken_text c.loop-count.store (taken_of c.loop-count.blocks)) ≡ length (taken_text c.args.store.now (taken_of c.args.blocks.now)) + c.loop-count.count =
    omega (arith, ap length c.loop-count.invariant.text, length-append (taken_text c.args.store.now (taken_of c.args.blocks.now)) (take c.loop-count.count c.args.text.now), n) in
    let rest = length-drop c.loop-count.count c.args.text.now in
    let all = cost-all (length (ended_text c.loop-count.store (taken_of c.loop-count.blocks))) (length (taken_text c.loop-count.store (taken_of c.loop-count.blocks))) (length (taken_text c.args.store.now (taken_of c.args.blocks.now)) + length c.args.text.now)
    (omega (arith, taken, taken-long c.loop-count.store (taken_of c.loop-count.blocks), c.loop-count.invariant.within)) (omega (arith, taken, c.loop-count.invariant.within)) in
    let left : length (take (length c.args.text.now - c.loop-count.count) (drop c.loop-count.count c.args.text.now)) ≡ length c.args.text.now - c.loop-count.count = ap length e ∙ rest in
    let limit = limit-grows (length (taken_text c.loop-count.store (taken_of c.loop-count.blocks)) + length (take (length c.args.text.now - c.loop-count.count) (drop c.loop-count.count c.args.text.now))) (length (taken_text c.args.store.now (taken_of c.args.blocks.now)) + length c.args.text.now) (omega (arith, taken, left, c.loop-count.invariant.within)) in
    omega (arith, all, limit, left, c.loop-count.invariant.cost, c.loop-count.invariant.within, c.take_word.ensures.most)

pub returns-clause-most : goal.returns-clause-most
returns-clause-most g c =
    let n : length (take c.loop-count.count c.args.text.now) ≡ c.loop-count.count = length-take-le c.loop-count.count c.args.text.now c.loop-count.invariant.within in
    let taken : length (taken_text c.loop-count.store (taken_of c.loop-count.blocks)) ≡ length (taken_text c.args.store.now (taken_of c.args.blocks.now)) + c.loop-count.count =
    omega (arith, ap length c.loop-count.invariant.text, length-append (taken_text c.args.store.now (taken_of c.args.blocks.now)) (take c.loop-count.count c.args.text.now), n) in
    let all = cost-all (length (ended_text c.loop-count.store (taken_of c.loop-count.blocks))) (length (taken_text c.loop-count.store (taken_of c.loop-count.blocks))) (length (taken_text c.args.store.now (taken_of c.args.blocks.now)) + length c.args.text.now)
    (omega (arith, taken, taken-long c.loop-count.store (taken_of c.loop-count.blocks), c.loop-count.invariant.within)) (omega (arith, taken, c.loop-count.invariant.within)) in
    omega (arith, all, c.loop-count.invariant.cost, c.loop-count.invariant.within)

pub loop-count-preserved : goal.loop-count-preserved
loop-count-preserved g c =
    let e = take_rest c.args.text.now c.loop-count.count in
    let left : length (take (length c.args.text.now - c.loop-count.count) (drop c.loop-count.count c.args.text.now)) ≡ length c.args.text.now - c.loop-count.count = ap length e ∙ length-drop c.loop-count.count c.args.text.now in
    let more = left-more c.loop-count.count c.in_ok-len.len (length (take (length c.args.text.now - c.loop-count.count) (drop c.loop-count.count c.args.text.now))) (length c.args.text.now) c.args.least (omega (arith, left, c.loop-count.invariant.within)) c.in_ok-len.ensures.left c.in_ok-len.ensures.longest (omega (arith, left, c.loop-count-test.true)) in
    record {
      grows = Grows-trans _ _ _ _ _ _ c.loop-count.invariant.grows c.take_word.ensures.grows;
      within = more.0;
      left = more.1;
      taken = c.in_ok-len.ensures.taken;
      few = c.in_ok-len.ensures.few;
      text =
          c.in_ok-len.ensures.text
          ∙ (ap (λ x. x ++ take c.in_ok-len.len (take (length c.args.text.now - c.loop-count.count) (drop c.loop-count.count c.args.text.now))) c.loop-count.invariant.text
          ∙ (ap (λ xs. (taken_text c.args.store.now (taken_of c.args.blocks.now) ++ take c.loop-count.count c.args.text.now) ++ take c.in_ok-len.len xs) e
          ∙ (append_assoc (taken_text c.args.store.now (taken_of c.args.blocks.now)) (take c.loop-count.count c.args.text.now) (take c.in_ok-len.len (drop c.loop-count.count c.args.text.now))
          ∙ ap (λ xs. taken_text c.args.store.now (taken_of c.args.blocks.now) ++ xs) (sym (take-add c.loop-count.count c.in_ok-len.len c.args.text.now)))));
      cost = omega (arith, c.loop-count.invariant.cost, c.in_ok-len.ensures.cost);
    }
