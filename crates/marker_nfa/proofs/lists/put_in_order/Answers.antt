use Rattle.std.proofs.Common.{arith, rules}
use Rattle.std.proofs.lemmas.Bool.Decides.{nat_tests}
use Rattle.marker_nfa.specs.contracts.lists.HopOrd.TheImpl.Laws.{total-law}
use Rattle.marker_nfa.specs.contracts.lists.HopEq.TheImpl.Laws.{laws-law}
use Rattle.marker_nfa.proofs.Strict.{put_in_order_same, put_in_order_once}
use Rattle.marker_nfa.proofs.lists.put_in_order.Goals as goal

pub returns-clause-same : goal.returns-clause-same
returns-clause-same c = put_in_order_same laws-law (λ x y e. grind (arith, nat_tests)) _ _ _ c.sort_unstable.ensures.permutation c.dedup.ensures.filtered

pub returns-clause-once : goal.returns-clause-once
returns-clause-once c = put_in_order_once total-law (λ x y. search rules) _ _ c.sort_unstable.ensures.sorted c.dedup.ensures.filtered
