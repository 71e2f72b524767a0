use Rattle.std.proofs.Common.{◌-◌, rules}
use Rattle.std.proofs.lemmas.List.Sorted.{IsNonDecreasingBy-from_sort_by_key}
use Rattle.marker_dfa.specs.declared.bundles.Bundle.{Bundle}
use Rattle.marker_dfa.proofs.Bundling.{in_order, reordered}
use Rattle.marker_dfa.proofs.bundles.put_in_order.Goals as goal

pub returns-clause-same : goal.returns-clause-same
returns-clause-same c = reordered _ _ c.sort_unstable_by_key.ensures.permutation

pub returns-clause-order : goal.returns-clause-order
returns-clause-order c a is h = in_order a _ _ is.few_variables c.sort_unstable_by_key.ensures.permutation (IsNonDecreasingBy-from_sort_by_key (λ (w : Bundle). 65535 - w.mark) _ c.sort_unstable_by_key.ensures.sorted (λ a r q k. search rules)) h
