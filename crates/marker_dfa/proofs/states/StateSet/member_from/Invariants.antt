use Rattle.std.proofs.Common.{◌-◌, ◌<◌, ◌≤◌, ℕ}
use Rattle.marker_dfa.specs.Reached.{IsIn}
use Rattle.marker_dfa.proofs.states.StateSet.member_from.Given as goal

abbrev pub invariant-loop-next : goal.invariant-loop-next
invariant-loop-next l = record {
  from : l.state ≤ l.next;
  none : (p : ℕ) → l.state ≤ p → p < l.next → IsIn l.self p → ⊥;
}

abbrev pub decreases-loop-next : goal.decreases-loop-next
decreases-loop-next l = l.states - l.next
