use Rattle.std.proofs.lemmas.List.Filters.{dedup_is}
use Rattle.std.proofs.lemmas.List.Kept.{Contains-dedup_nat, Contains-from_dedup}
use Rattle.std.proofs.lemmas.List.Sorted.{Contains-permutation, IsPermutation-sym}
use Rattle.std.proofs.lemmas.Map.Keys.{IsStrictlyIncreasing-dedup}
use Rattle.marker_dfa.proofs.Leaving.{reversed_falls}
use Rattle.marker_dfa.proofs.exits.put_in_order.Goals as goal

pub returns-clause-same : goal.returns-clause-same
returns-clause-same c m =
    let is = dedup_is _ _ _ c.dedup.ensures.filtered in
    let moved = c.sort_unstable.ensures.permutation in
    let turned = c.reverse.ensures.permutation in (
      (λ k. Contains-permutation _ _ m (IsPermutation-sym _ _ moved) (Contains-from_dedup _ _ m (rw is at (Contains-permutation _ _ m (IsPermutation-sym _ _ turned) k)))),
      λ k. Contains-permutation _ _ m turned (rw is (Contains-dedup_nat _ m (Contains-permutation _ _ m moved k))),
    )

pub returns-clause-falling : goal.returns-clause-falling
returns-clause-falling c = rw (c.reverse.ensures.items, dedup_is _ _ _ c.dedup.ensures.filtered) (reversed_falls _ (IsStrictlyIncreasing-dedup _ c.sort_unstable.ensures.sorted))
