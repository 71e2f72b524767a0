-- The state of a script between two of its pieces, and what executing a piece does.
use Rattle.std.specs.Prelude.{◌≡◌, ℕ, ◌≤◌, Bool, List, [], ◌∷◌, ◌++◌, take}
use Rattle.edge_io.specs.Causes.{HasIncreased}
use Rattle.span_language.specs.Lines.{IsCut, lines_of}
use Rattle.span_language.specs.Runs.{Anywhere, Ending, InFileLine, Outside, RunsAll, RunsPrefix, UnlessList}
use Rattle.span_language.specs.declared.told.Stop.{Stop}
use Rattle.span_language.specs.declared.told.Stop.TheVariants as stop
use Rattle.session_state.specs.Carried.{Outlet}
use Rattle.script_driver.specs.Position.{ConversationState, ReachesState, conversation}
use Rattle.script_driver.specs.declared.progress.Progress.{Progress}

-- the state of a conversation, with this observable of the environment
abbrev pub state_of : Progress → Outside → ConversationState
state_of p now = conversation p.number p.refused p.session now

-- the complete lines of these bytes ran, and these bytes are stored of the line that has begun
pub record IsTalking (bytes : List ℕ) (most : ℕ) (before : Outside) (kept : List ℕ) (p : ConversationState) : Type 0 where
  pub done : List (List ℕ)
  pub begun : List ℕ
  pub cut : IsCut bytes done begun
  pub kept_is : kept ≡ take 65537 begun
  pub at : ReachesState done most before p

-- a line with these stored bytes was executed
abbrev pub Does : List ℕ → ConversationState → ConversationState → Type 0
Does kept old new = (line : List ℕ) (lines : List (List ℕ)) (most : ℕ) (before : Outside) → kept ≡ take 65537 line → ReachesState lines most before old → ReachesState (lines ++ line ∷ []) most before new

-- a run was stopped in such a line
abbrev pub StopsIn : Ending → List ℕ → ConversationState → Outside → Type 0
StopsIn Ends kept old after = (line : List ℕ) (lines more : List (List ℕ)) (most : ℕ) (before : Outside) → kept ≡ take 65537 line → ReachesState lines most before old
    → RunsPrefix Ends (lines ++ line ∷ more) most before after

-- the lines that end in these bytes were executed
abbrev pub Hears : List ℕ → List ℕ → ConversationState → List ℕ → ConversationState → Type 0
Hears piece kept old kept_after new = (bytes : List ℕ) (most : ℕ) (before : Outside) → IsTalking bytes most before kept old → IsTalking (bytes ++ piece) most before kept_after new

-- a run was stopped in one of them
abbrev pub StopsWithin : Ending → List ℕ → List ℕ → ConversationState → Outside → Type 0
StopsWithin Ends piece kept old after = (bytes tail : List ℕ) (most : ℕ) (before : Outside) → IsTalking bytes most before kept old
    → RunsPrefix Ends (lines_of (bytes ++ (piece ++ tail))) most before after

-- and the end of the bytes ended the script
abbrev pub Finishes : Bool → List ℕ → ConversationState → Outside → Type 0
Finishes refused kept old after = (sent : List ℕ) (most : ℕ) (before : Outside) → IsTalking sent most before kept old → RunsAll (lines_of sent) refused most before after

-- or a run was stopped in a last line without a newline
abbrev pub StopsAtEnd : Ending → List ℕ → ConversationState → Outside → Type 0
StopsAtEnd Ends kept old after = (sent : List ℕ) (most : ℕ) (before : Outside) → IsTalking sent most before kept old → RunsPrefix Ends (lines_of sent) most before after

-- a run was stopped for this reason: the reason's count increased, of the sink or of the file store, and the run ended
-- as it may for this reason
pub record IsHalted (Stops : Ending → Type 0) (before : Outlet) (old : ℕ) (after : Outlet) (new : ℕ) (why : Stop) : Type 0 where
  pub out_fault : why ≡ stop.OutFault → HasIncreased before.faults after.faults × Stops Anywhere
  pub shelf_fault : why ≡ stop.ShelfFault → HasIncreased old new × Stops InFileLine
  pub want : why ≡ stop.NoMemory → (wants : ℕ) → wants ≤ before.wants → Stops (UnlessList wants after.wants)
