-- Why a run was stopped.
use Rattle.script_driver.proofs.Names.{start}
use Rattle.std.proofs.Common.{◌≡◌, ℕ, ◌≤◌, [], arith}
use Rattle.std.specs.Prelude.{Option, None, Result, Ok, Err, IfErr, MatchResult}
use Rattle.std.specs.Result.{IsErrAnd}
use Rattle.edge_io.specs.Causes.{HasIncreased}
use Rattle.edge_io.specs.Files.{Files}
use Rattle.span_language.specs.Runs.{Anywhere, Ending, InFileLine, UnlessList}
use Rattle.span_language.specs.declared.told.Stop.{Stop}
use Rattle.span_language.specs.declared.told.Stop.TheVariants as stop
use Rattle.session_state.specs.Carried.{Outlet}
use Rattle.session_state.proofs.CommandLemmas.{passed_on}
use Rattle.script_driver.specs.Progress.{IsHalted}
use Rattle.script_driver.proofs.RunsLemmas.{increased_later}

-- what stops a part of a run stops the run
pub halted_later : (P Q : Ending → Type 0) (first before after : Outlet) (start old new : ℕ) (why : Stop) → first.faults ≤ before.faults → first.wants ≤ before.wants → start ≤ old
    → IsHalted P before old after new why → ((Ends : Ending) → P Ends → Q Ends) → IsHalted Q first start after new why
halted_later P Q first before after start old new why later wants_later shelf_later h so = record {
  out_fault = λ is. let x = h.out_fault is in (increased_later first.faults before.faults after.faults later x.0, so Anywhere x.1);
  shelf_fault = λ is. let x = h.shelf_fault is in (increased_later start old new shelf_later x.0, so InFileLine x.1);
  want = λ is wants few. so (UnlessList wants after.wants) (h.want is wants (omega (arith, few, wants_later)));
}

-- an allocation failed when no line had begun
pub halted_wanting : {T : Type 0} (r : Result T Stop) (Stops : Ending → Type 0) (before after : Outlet) (old new : ℕ) → IsErrAnd r (λ e. e ≡ stop.NoMemory)
    → ((Ends : Ending) → ((files : Option Files) → Ends None [] files files) → Stops Ends) → IfErr r (IsHalted Stops before old after new)
halted_wanting r Stops before after old new none so = passed_on r (IsHalted Stops before old after new) none (record {
  out_fault = λ no. let bad : ⊥ = cc no in absurd bad;
  shelf_fault = λ no. let bad : ⊥ = cc no in absurd bad;
  want = λ _ wants few. so (UnlessList wants after.wants) (λ files list. absurd list);
})

-- the buffered output of a sink after a part that doesn't use it
pub kept_on : {T : Type 0} (r : Result T Stop) (Kept : Type 0) → Kept → MatchResult r (λ _. Kept) (λ why. why ≡ stop.ShelfFault → Kept)
kept_on (Ok _) Kept kept = kept
kept_on (Err _) Kept kept = λ _. kept

-- the three reasons for which a call may have been stopped
module _ {T : Type 0} (Stops : Ending → Type 0) (before after : Outlet) (old new : ℕ) where
  pub out_faults : (r : Result T Stop) → IfErr r (IsHalted Stops before old after new) → IfErr r (λ why. why ≡ stop.OutFault → HasIncreased before.faults after.faults × Stops Anywhere)
  out_faults (Ok _) h = tt
  out_faults (Err why) h = h.out_fault

  pub shelf_faults : (r : Result T Stop) → IfErr r (IsHalted Stops before old after new) → IfErr r (λ why. why ≡ stop.ShelfFault → HasIncreased old new × Stops InFileLine)
  shelf_faults (Ok _) h = tt
  shelf_faults (Err why) h = h.shelf_fault

  pub wants_more : (r : Result T Stop) → IfErr r (IsHalted Stops before old after new) → IfErr r (λ why. why ≡ stop.NoMemory → Stops (UnlessList before.wants after.wants))
  wants_more (Ok _) h = tt
  wants_more (Err why) h = λ is. h.want is before.wants (omega arith)
