use Rattle.std.proofs.Common.{◌≡◌, ℕ, ◌+◌, ◌<◌, ◌≤◌, get_or}
use Rattle.slp_model.specs.Kept.{Keeps}
use Rattle.slp_model.specs.Thin.{rank}
use Rattle.distinct_items.specs.Renumbering.{flags_of}
use Rattle.distinct_items.proofs.Moving.{AreAllMoved}
use Rattle.distinct_items.proofs.renumbering.close_up.Given as goal

abbrev pub invariant-loop-index : goal.invariant-loop-index
invariant-loop-index g l = record {
  moved : AreAllMoved l.initial.items.items (flags_of l.initial.marks) l.index l.items.items l.kept;
  places : (k : ℕ) → k < l.index → Keeps (flags_of l.initial.marks) k → get_or l.marks k 0 ≡ rank (flags_of l.initial.marks) k + 1;
  ahead : (k : ℕ) → l.index ≤ k → get_or l.marks k 0 ≡ get_or l.initial.marks k 0;
}
