-- The effect of a rejected command: its reply, and nothing else.
use Rattle.std.specs.Prelude.{◌≡◌, ℕ, Option, Some, Result, IfOk}
use Rattle.edge_io.specs.Files.{Files}
use Rattle.script_syntax.specs.declared.form.Command.{Command}
use Rattle.report_text.specs.declared.refusal.Refusal.{Refusal}
use Rattle.span_language.specs.State.{world}
use Rattle.span_language.specs.Allowance.{IsAllowed, no_steps}
use Rattle.span_language.specs.Step.{IsRefused}
use Rattle.span_language.specs.declared.told.Told.{Told}
use Rattle.span_language.specs.declared.told.Stop.{Stop}
use Rattle.session_state.specs.declared.replies.Answer.{Answer}
use Rattle.session_state.specs.declared.session.SessionState.{SessionState}
use Rattle.session_state.specs.Answers.{Answers, StaysFreely}
use Rattle.session_state.specs.Carried.{Outlet}
use Rattle.session_state.specs.SessionState.{IsConsistent, model_of, state_of}
use Rattle.session_state.specs.LineState.{seen}
use Rattle.session_state.specs.CommandState.{at}
use Rattle.session_state.specs.Written.{Ends}

-- the command is rejected for this reason, at no cost
pub record IsRejectedFreely (h : SessionState) (files : Option Files) (command : Command) (why : Refusal) : Type 0 where
  pub session : IsConsistent h
  pub refused : IsRefused (world (state_of h) files) command why
  pub free : IsAllowed (world (state_of h) files) command no_steps

-- the answer to a command that is rejected for this reason, in an unchanged session
abbrev pub RejectsFreely : SessionState → ℕ → Refusal → Result Answer Stop → Type 0
RejectsFreely session number why result = (old : SessionState) (command : Command) (files : Option Files) (faults looks pairs places : ℕ)
    → IsRejectedFreely old files command why → session ≡ old
    → IfOk result (Answers (at old files faults looks pairs places) number command (at session files faults looks pairs places))

-- or its allocation failed
abbrev pub KeepsFreely : SessionState → ℕ → Result Answer Stop → Type 0
KeepsFreely session number result = (old : SessionState) (command : Command) → IsConsistent old → session ≡ old → StaysFreely old number command session result

-- the answer was written, completely or in part
abbrev pub WritesRejection : SessionState → ℕ → Refusal → Outlet → Outlet → Result Told Stop → Type 0
WritesRejection session number why before after result = (command : Command) (files : Option Files) (faults looks pairs places : ℕ) → IsRejectedFreely session files command why
    → Ends number (Some command) (seen (model_of session) files faults looks pairs places) before (seen (model_of session) files faults looks pairs places) after result
