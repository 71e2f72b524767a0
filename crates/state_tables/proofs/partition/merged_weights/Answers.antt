use Rattle.std.proofs.Common.{◌≡◌, ℕ, List, ◌+◌, ◌%◌, ◌^◌, ◌<◌, ap, arith, ◌∙◌, get_or, length, length-set, replicate, set}
use Rattle.std.proofs.lemmas.Grind.{get_or_default_zero}
use Rattle.std.proofs.lemmas.List.{get_or-replicate}
use Rattle.state_tables.proofs.ClassWeights.{merged-weights, weight-more_classes}
use Rattle.state_tables.proofs.partition.merged_weights.Goals as goal

pub loop-class-init : goal.loop-class-init
loop-class-init c =
    let zeros : c.in_ok-merged.merged.items ≡ replicate c.class_count.result 0 = c.in_ok-merged.ensures.items_if_clones_equal (λ y h. h) in
    record {
      within = λ k lt. omega (arith, c.class_count.ensures k lt, c.in_ok-merged.ensures.len);
      added = λ j lt. ap (λ (ws : List ℕ). get_or ws j 0) zeros ∙ get_or-replicate c.class_count.result j 0 0 (omega (arith, lt, c.in_ok-merged.ensures.len));
    }

pub loop-class-preserved : goal.loop-class-preserved
loop-class-preserved c =
    let at = c.loop-class in
    let ws = c.args.weights.now in
    let places = c.args.places.now in
    let merged = at.merged.items in
    let index = get_or places at.class 0 in
    let has : index < length merged = at.invariant.within at.class (omega (arith, c.loop-class-test.true, c.min-class-end.ensures)) in
    let before : c.index.result.now ≡ get_or merged index 0 = c.index.ensures ∙ get_or_default_zero merged index c.index.result.now has in
    let new = set merged index ((c.index.result.now + get_or ws at.class 0) % 2 ^ 64) in
    let long : length new ≡ length merged = length-set merged index ((c.index.result.now + get_or ws at.class 0) % 2 ^ 64) in
    record {
      within = λ k lt. omega (arith, at.invariant.within k lt, long);
      added = λ j lt.
          ap (λ x. get_or (set merged index ((x + get_or ws at.class 0) % 2 ^ 64)) j 0) before
          ∙ weight-more_classes ws places merged at.class (2 ^ 64) j has (at.invariant.added j (omega (arith, lt, long)));
    }

pub returns : goal.returns
returns c = λ classes has within.
    let at = c.loop-class in
    merged-weights classes c.args.weights.now c.args.places.now at.merged.items at.class has (omega (arith, at.auto.class-end, c.min-class-end.ensures))
    (λ p lt. omega (arith, c.loop-class-test.false, c.min-class-end.ensures, has.within p lt, within p lt))
    (λ k lt. at.invariant.within k (omega (arith, lt, at.auto.class-end, c.min-class-end.ensures))) at.invariant.added
