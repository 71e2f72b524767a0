use Rattle.span_enum.proofs.Base.{StayQuiet, can_reach_of, length, member, true, ℕ, ◌<◌, ◌≡◌, ◌⊎◌}
use Rattle.span_enum.proofs.sets.goals_among.Given as goal

abbrev pub invariant-loop-q : goal.invariant-loop-q
invariant-loop-q g l = record {
  left : (q : ℕ) → member l.rest q ≡ true → member l.from q ≡ true;
  all : (q : ℕ) → member l.from q ≡ true → can_reach_of l.table q l.goals ≡ true → (member l.rest q ≡ true) ⊎ (member l.set q ≡ true);
  only : (q : ℕ) → member l.set q ≡ true → (q < length l.table) × (can_reach_of l.table q l.goals ≡ true);
  quiet : StayQuiet l.table l.from l.goals l.quiet l.stay;
}

abbrev pub decreases-loop-q : goal.decreases-loop-q
decreases-loop-q g l = l.rest
