-- The effect and the cost of a command.
use Rattle.std.specs.Prelude.{◌≡◌, ◌⊎◌, ℕ, ◌≤◌, List, Option, Some, Result, IfErr, IfOk}
use Rattle.edge_io.specs.Causes.{HasIncreased}
use Rattle.edge_io.specs.Files.{Files}
use Rattle.line_parts.specs.NameList.{IsNameList}
use Rattle.script_syntax.specs.Syntax.{IsStart}
use Rattle.script_syntax.specs.declared.form.Command.{Command}
use Rattle.script_syntax.specs.declared.form.Command.TheVariants as form
use Rattle.span_language.specs.Allowance.{PaysFor}
use Rattle.span_language.specs.Counts.{AsksForCounts, Compacts, Registers}
use Rattle.span_language.specs.Step.{Carries, IsOfFile}
use Rattle.session_state.specs.declared.replies.Answer.{Answer}
use Rattle.span_language.specs.declared.told.Told.{Told}
use Rattle.span_language.specs.declared.told.Stop.{Stop}
use Rattle.span_language.specs.declared.told.Stop.TheVariants as stop
use Rattle.session_state.specs.declared.session.SessionState.{SessionState}
use Rattle.session_state.specs.Carried.{IsBounded}
use Rattle.session_state.specs.SessionState.{IsConsistent}
use Rattle.session_state.specs.CommandState.{CommandState, at, world_at, counters_at}
use Rattle.session_state.specs.LineState.{Tallies, line_state}

-- what holds however a command ends: the invariant, and the bounds of a line
pub record KeepsInvariant (old : CommandState) (command : Command) (new : CommandState) : Type 0 where
  pub session : IsConsistent new.session
  pub bounded : IsBounded (Some command) (line_state old) (line_state new)

-- the command has this answer in the first state, and results in the second: the file store had no failure
pub record Answers (old : CommandState) (number : ℕ) (command : Command) (new : CommandState) (answer : Answer) : Type 0 where
  pub goes : KeepsInvariant old command new
  pub sound : new.faults ≡ old.faults
  pub carries : Carries (world_at old) number command answer.told answer.line.items (world_at new)
  pub paid : PaysFor (world_at old) command (counters_at old) (counters_at new)
  pub tallies : Tallies (Registers command) (Compacts command) (AsksForCounts (world_at old) command) answer.told (line_state old) (line_state new)

-- the command was stopped for this reason: the state and the files are unchanged, or, for a command without files, as
-- an answer allows
pub record Stays (old : CommandState) (number : ℕ) (command : Command) (new : CommandState) (why : Stop) : Type 0 where
  pub goes : KeepsInvariant old command new
  pub world : (world_at new ≡ world_at old)
      ⊎ ((IsOfFile command → ⊥) × ((told : Told) × (reply : List ℕ) × Carries (world_at old) number command told reply (world_at new)))
  pub shelf : why ≡ stop.ShelfFault → IsOfFile command × HasIncreased old.faults new.faults
  pub sink : why ≡ stop.OutFault → ⊥

-- the same for a command that uses neither files nor counters
abbrev pub AnswersFreely : SessionState → ℕ → Command → SessionState → Result Answer Stop → Type 0
AnswersFreely old number command new result = (files : Option Files) (faults looks pairs places : ℕ)
    → IfOk result (Answers (at old files faults looks pairs places) number command (at new files faults looks pairs places))

abbrev pub StaysFreely : SessionState → ℕ → Command → SessionState → Result Answer Stop → Type 0
StaysFreely old number command new result = (files : Option Files) (faults looks pairs places : ℕ)
    → IfErr result (Stays (at old files faults looks pairs places) number command (at new files faults looks pairs places))

-- the command's reply is one value: only Nothing has none, and only the listings have several lines
abbrev pub IsAnswering : Command → Type 0
IsAnswering form.Nothing = ⊥
IsAnswering form.Names = ⊥
IsAnswering (form.List query name start limit) = ⊥
IsAnswering (form.ListAll query limit) = ⊥
IsAnswering _ = Unit {0}

-- what holds of every line of the form: its start is one that a listing can have, its limit is from 1 to 10,000, and its
-- list is a list of names
abbrev pub IsWellFormed : Command → Type 0
IsWellFormed (form.List query name start limit) = IsStart start
IsWellFormed (form.ListAll query limit) = (1 ≤ limit) × (limit ≤ 10000)
IsWellFormed (form.ProjectQuery name source keep) = IsNameList keep
IsWellFormed _ = Unit {0}
