use Rattle.std.proofs.Common.{rules}
use Rattle.std.proofs.lemmas.List.Sorted.{Contains-permutation, IsNonDecreasingBy-from_sort_by_key, IsPermutation-sym}
use Rattle.span_algebra.specs.declared.joints.Half.{Half}
use Rattle.span_algebra.proofs.joints.put_in_order.Goals as goal

pub returns-clause-same : goal.returns-clause-same
returns-clause-same c h =
    let moved = c.sort_unstable_by_key.ensures.permutation in
    ((λ k. Contains-permutation _ _ h (IsPermutation-sym _ _ moved) k), λ k. Contains-permutation _ _ h moved k)

pub returns-clause-rising : goal.returns-clause-rising
returns-clause-rising c = IsNonDecreasingBy-from_sort_by_key (λ (h : Half). h.key) _ c.sort_unstable_by_key.ensures.sorted (λ a r q k. search rules)
