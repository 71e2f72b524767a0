-- The effect of a line with a meaning on a session and on the environment.
use Rattle.std.specs.Prelude.{◌≡◌, ◌⊎◌, ℕ, ◌+◌, ◌≤◌, Bool, true, List, Option}
use Rattle.edge_io.specs.Causes.{HasIncreased}
use Rattle.script_syntax.specs.declared.form.Command.{Command}
use Rattle.span_language.specs.Allowance.{Allowance, IsPaid, no_steps}
use Rattle.span_language.specs.Counts.{AsksForCounts, Compacts, PlacesPartOfBoth, Registers}
use Rattle.span_language.specs.Means.{Carried, IsAllowance, Means, Of, Replies}
use Rattle.span_language.specs.Step.{Finishes, Halts, IsList, IsOfFile, Leaves}
use Rattle.span_language.specs.declared.told.Told.{Told}
use Rattle.span_language.specs.declared.told.Stop.{Stop}
use Rattle.span_language.specs.declared.told.Stop.TheVariants as stop
use Rattle.session_state.specs.SessionState.{nodes_of, pairs_of, tables_in}
use Rattle.session_state.specs.LineState.{LineState, Tallies, world_in, counters_in}

-- a sink: the bytes written to it, if they are observable, and the numbers of its failures and of its allocation
-- failures
pub record Outlet : Type 0 where
  pub written : Option (List ℕ)
  pub faults : ℕ
  pub wants : ℕ

abbrev pub outlet : Option (List ℕ) → ℕ → ℕ → Outlet
outlet written faults wants = record { written = written; faults = faults; wants = wants }

-- what a line does to the session however it ends: nodes are added, and each new pair is counted; its cost is at most its
-- allowance, if it began; tables are computed only for nodes
pub record IsBounded (meaning : Option Command) (old new : LineState) : Type 0 where
  pub nodes : (nodes_of old.model ≤ nodes_of new.model) ⊎ Of Compacts meaning
  pub pairs : pairs_of new.model + old.pairs ≤ pairs_of old.model + new.pairs
  pub calls : old.pairs ≤ new.pairs
  pub begun : (a : Allowance) × ((a ≡ no_steps) ⊎ IsAllowance (world_in old) meaning a) × IsPaid a (counters_in old) (counters_in new)
  pub counts : Bool
  pub asked : counts ≡ true → Of (AsksForCounts (world_in old)) meaning
  pub placed : PlacesPartOfBoth counts (nodes_of old.model) (nodes_of new.model) (tables_in old.model) old.places new.places
  pub faults : old.faults ≤ new.faults

-- what holds however the line ends
pub record Passes (meaning : Option Command) (old : LineState) (before : Outlet) (new : LineState) (after : Outlet) : Type 0 where
  pub bounded : IsBounded meaning old new
  pub later : before.faults ≤ after.faults
  pub wants_later : before.wants ≤ after.wants

-- the sink had neither a failure nor an allocation failure
abbrev pub HasNoFault : Outlet → Outlet → Type 0
HasNoFault before after = (after.faults ≡ before.faults) × (after.wants ≡ before.wants)

-- the line was executed with this outcome: the file store and the sink had no failure
pub record Done (number : ℕ) (meaning : Option Command) (old : LineState) (before : Outlet) (new : LineState) (after : Outlet) (told : Told) : Type 0 where
  pub passes : Passes meaning old before new after
  pub shelf_sound : new.faults ≡ old.faults
  pub sink_sound : HasNoFault before after
  pub finishes : Finishes (Carried (world_in old) number meaning) told before.written after.written (world_in new)
  pub paid : (a : Allowance) × IsAllowance (world_in old) meaning a × IsPaid a (counters_in old) (counters_in new)
  pub tallies : Tallies (Of Registers meaning) (Of Compacts meaning) (Of (AsksForCounts (world_in old)) meaning) told old new

-- the line was stopped for this reason
pub record Stopped (number : ℕ) (meaning : Option Command) (old : LineState) (before : Outlet) (new : LineState) (after : Outlet) (why : Stop) : Type 0 where
  pub passes : Passes meaning old before new after
  pub halts : Halts (Carried (world_in old) number meaning) (world_in old) before.written after.written (world_in new)
  pub fault : why ≡ stop.OutFault → Replies meaning × HasIncreased before.faults after.faults
  pub shelf_fault : why ≡ stop.ShelfFault → Of IsOfFile meaning × HasIncreased old.faults new.faults × Leaves (world_in old) before.written after.written (world_in new)
  pub want : why ≡ stop.NoMemory → (Of IsList meaning → ⊥) ⊎ (HasIncreased before.wants after.wants ⊎ Leaves (world_in old) before.written after.written (world_in new))

-- the line was executed, by its meaning, with this outcome
abbrev pub IsDone : List ℕ → ℕ → LineState → Outlet → LineState → Outlet → Told → Type 0
IsDone line number old before new after told = (meaning : Option Command) × Means line meaning × Done number meaning old before new after told

-- the line was stopped for this reason: if an allocation failed while it was parsed nothing changed, and otherwise by
-- its meaning
abbrev pub IsStopped : List ℕ → ℕ → LineState → Outlet → LineState → Outlet → Stop → Type 0
IsStopped line number old before new after why = ((why ≡ stop.NoMemory) × (new ≡ old) × (after ≡ before))
    ⊎ ((meaning : Option Command) × Means line meaning × Stopped number meaning old before new after why)
