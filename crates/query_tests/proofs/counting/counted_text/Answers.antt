use Rattle.std.proofs.Common.{◌≡◌, ℕ, ◌<◌, List, length, Option, Some, None, arith}
use Rattle.std.specs.Prelude.{IfSome}
use Rattle.slp_model.specs.declared.Node.{Node}
use Rattle.slp_model.specs.declared.NodeId.{NodeId}
use Rattle.slp_model.specs.Nodes.{IsLive}
use Rattle.query_tests.proofs.counting.counted_text.Goals as goal

live-counted : (nodes : List Node) (n : ℕ) (root : Option NodeId) → n ≡ length nodes → IsLive nodes root → IfSome root (λ id. id.index < n)
live-counted nodes n None e live = tt
live-counted nodes n (Some id) e live = omega (arith, e, live)

pub returns-clause-counted : goal.returns-clause-counted
returns-clause-counted g c = record {
  states = c.in_ok-counts.ensures.states;
  tables = c.in_ok-counts.ensures.true_tables;
  covered = omega (arith, c.in_ok-counts.ensures.covered);
  live = live-counted c.load.new.store _ c.in_ok-root.root c.in_ok-counts.ensures.covered c.in_ok-root.ensures.live;
}
