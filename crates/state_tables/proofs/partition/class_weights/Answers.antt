use Rattle.std.proofs.Common.{◌≡◌, ℕ, List, ◌+◌, ◌%◌, ◌^◌, ◌<◌, ap, arith, sym, ◌∙◌, get_or, length, length-set, replicate, set}
use Rattle.std.proofs.lemmas.Grind.{get_or_default_zero}
use Rattle.std.proofs.lemmas.List.{get_or-replicate, take_all}
use Rattle.state_tables.specs.Weights.{weighted}
use Rattle.state_tables.proofs.Weights.{next-weight, weight-none}
use Rattle.state_tables.proofs.ClassWeights.{one_at, weight-more_states}
use Rattle.state_tables.proofs.partition.class_weights.Goals as goal

pub loop-class-init : goal.loop-class-init
loop-class-init c =
    let zeros : c.in_ok-weights.weights.items ≡ replicate c.class_count.result 0 = c.in_ok-weights.ensures.items_if_clones_equal (λ y h. h) in
    record {
      next = ap (λ n. n % 2 ^ 64) (sym weight-none);
      within = λ p lt. omega (arith, c.class_count.ensures p lt, c.in_ok-weights.ensures.len);
      added = λ k lt. ap (λ (ws : List ℕ). get_or ws k 0) zeros ∙ get_or-replicate c.class_count.result k 0 0 (omega (arith, lt, c.in_ok-weights.ensures.len));
    }

pub loop-class-preserved : goal.loop-class-preserved
loop-class-preserved c =
    let at = c.loop-class in
    let i = at.class-index in
    let cs = c.args.classes.now in
    let ws = at.weights.items in
    let class = get_or cs i 0 in
    let has : class < length ws = at.invariant.within i c.loop-class-test.true in
    let before : c.index.result.now ≡ get_or ws class 0 = c.index.ensures ∙ get_or_default_zero ws class c.index.result.now has in
    let new = set ws class ((c.index.result.now + at.weight) % 2 ^ 64) in
    let long : length new ≡ length ws = length-set ws class ((c.index.result.now + at.weight) % 2 ^ 64) in
    record {
      next = next-weight i at.weight at.invariant.next;
      within = λ p lt. omega (arith, at.invariant.within p lt, long);
      added = λ k lt.
          ap (λ x. get_or (set ws class ((x + at.weight) % 2 ^ 64)) k 0) before
          ∙ weight-more_states cs ws i at.weight (2 ^ 64) k c.loop-class-test.true has at.invariant.next (at.invariant.added k (omega (arith, lt, long)));
    }

pub returns : goal.returns
returns c =
    let at = c.loop-class in
    let all = take_all at.class-index c.args.classes.now (omega (arith, c.loop-class-test.false)) in
    record {
      within = at.invariant.within;
      weights_are = λ k lt. at.invariant.added k lt ∙ ap (λ (cs : List ℕ). weighted (one_at k) 0 cs % 2 ^ 64) all;
    }
