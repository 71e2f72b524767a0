-- The effect of writing calls on a sink, and how a line ends that was executed or stopped.
use Rattle.std.specs.Prelude.{◌≡◌, ◌⊎◌, ℕ, ◌≤◌, List, ◌++◌, Option, Result, IfErr, MatchResult, OnOk}
use Rattle.std.specs.Io.KnownBytes.{Appends, Keeps}
use Rattle.edge_io.specs.Causes.{HasIncreased}
use Rattle.script_syntax.specs.declared.form.Command.{Command}
use Rattle.span_language.specs.Step.{AppendsPrefix}
use Rattle.span_language.specs.declared.told.Told.{Told}
use Rattle.span_language.specs.declared.told.Stop.{Stop}
use Rattle.span_language.specs.declared.told.Stop.TheVariants as stop
use Rattle.session_state.specs.Carried.{Done, HasNoFault, Outlet, Stopped}
use Rattle.session_state.specs.LineState.{LineState}

-- a piece was written completely, without a failure
pub record IsSent (before : Outlet) (piece : List ℕ) (after : Outlet) : Type 0 where
  pub appends : Appends before.written after.written piece
  pub sound : HasNoFault before after

-- a prefix of it was written, and then the call was stopped for this reason
pub record IsCut (before : Outlet) (piece : List ℕ) (after : Outlet) (why : Stop) : Type 0 where
  pub prefix : AppendsPrefix before.written after.written piece
  pub later : before.faults ≤ after.faults
  pub wants_later : before.wants ≤ after.wants
  pub fault : why ≡ stop.OutFault → HasIncreased before.faults after.faults
  pub no_shelf : why ≡ stop.ShelfFault → ⊥

-- a call wrote a piece: all of it, or a prefix if the call was stopped
abbrev pub Wrote : {T : Type 0} → Result T Stop → Outlet → List ℕ → Outlet → Type 0
Wrote result before piece after = MatchResult result (λ _. IsSent before piece after) (IsCut before piece after)

-- an allocation failed in a call only if it failed in the sink, or nothing was written
abbrev pub WantsFor : {T : Type 0} → Result T Stop → Outlet → Outlet → Type 0
WantsFor result before after = IfErr result (λ why. why ≡ stop.NoMemory → HasIncreased before.wants after.wants ⊎ Keeps before.written after.written)

-- if the call succeeded everything written has been sent, unless there was no reply
abbrev pub IsGone : {T : Type 0} → Result T Stop → Type 0 → ℕ → Type 0
IsGone result quiet kept = OnOk result (quiet ⊎ (kept ≡ 0))

-- everything was written except what is left
pub record IsUpTo (before after : Outlet) (left whole : List ℕ) : Type 0 where
  pub done : List ℕ
  pub sent : IsSent before done after
  pub cut : whole ≡ done ++ left

-- a line with this meaning was executed with the outcome in the result, or it was stopped
abbrev pub Ends : ℕ → Option Command → LineState → Outlet → LineState → Outlet → Result Told Stop → Type 0
Ends number meaning old before new after result = MatchResult result (Done number meaning old before new after) (Stopped number meaning old before new after)
