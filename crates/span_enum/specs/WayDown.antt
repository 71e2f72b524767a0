-- The path down to the first mark, level by level.
use Rattle.std.specs.Prelude.{ℕ, ◌+◌, List, Option}
use Rattle.slp_model.specs.declared.NodeId.{NodeId}
use Rattle.state_tables.specs.declared.view.Look.{Look}
use Rattle.span_enum.specs.Members.{Tuple}
use Rattle.span_enum.specs.Trail.{Descends}
use Rattle.span_enum.specs.declared.input.EnumerationInput.{EnumerationInput}
use Rattle.span_enum.specs.declared.sets.Between.{Between}
use Rattle.span_enum.specs.declared.trail.Ahead.{Ahead}
use Rattle.span_enum.specs.declared.trail.Mark.{Mark}
use Rattle.span_enum.specs.declared.trail.WalkPosition.{WalkPosition}

-- the path down from one node continues at another: a path down from there is, with what lies between, one from the
-- first
abbrev pub ContinuesAt : {words : ℕ} → EnumerationInput words → Ahead words → ℕ → Ahead words → ℕ → ℕ → List (Mark words) → List (Option (Ahead words)) → List (Option (Ahead words)) → ℕ → ℕ → Type 0
ContinuesAt {words = words} g from p to q base marks old new before after = (more : List (Mark words)) (last : List (Option (Ahead words))) (end : ℕ) (out out' : Tuple) (place : WalkPosition)
    → Descends g to q base marks more new last after end out out' place → Descends g from p base marks more old last before end out out' place

-- the left child of a node ahead: its goals and quiet states are those of `between`, and the node with this index in
-- the list comes next
abbrev pub child : {words : ℕ} → Ahead words → NodeId → Look → Between words → ℕ → Ahead words
child h l left between next = record { id = l; look = left; at = h.at; goals = between.goals; quiet = between.quiet; next = next }

-- its right child, which is ahead of the left one
abbrev pub sibling : {words : ℕ} → Ahead words → NodeId → Look → Look → Ahead words
sibling h r left right = record { id = r; look = right; at = h.at + left.len; goals = h.goals; quiet = h.quiet; next = h.next }
