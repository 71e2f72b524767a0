-- Executing the stored bytes of a line, at most 65,537, has the effect of executing the line.
use Rattle.std.proofs.Common.{◌≡◌, ℕ, ◌+◌, Bool, List, take, refl, sym, subst, arith, inl, inr}
use Rattle.std.specs.Prelude.{◌||◌, Option, Some, None}
use Rattle.std.proofs.lemmas.List.{take_all}
use Rattle.edge_io.specs.Causes.{HasIncreased}
use Rattle.script_syntax.specs.Syntax.{LineText}
use Rattle.script_syntax.specs.declared.form.Command.{Command}
use Rattle.span_language.specs.Means.{Means}
use Rattle.span_language.specs.Runs.{is_refused}
use Rattle.span_language.specs.declared.told.Told.{Told}
use Rattle.span_language.specs.declared.told.Stop.{Stop}
use Rattle.span_language.specs.declared.told.Stop.TheVariants as stop
use Rattle.session_state.specs.SessionState.{IsSessionModel}
use Rattle.session_state.specs.LineState.{LineState}
use Rattle.session_state.specs.Carried.{IsDone, IsStopped, Outlet}
use Rattle.script_driver.specs.Position.{conversation}
use Rattle.script_driver.specs.Progress.{Does, IsHalted, StopsIn}
use Rattle.script_driver.proofs.Kept.{short_take}
use Rattle.script_driver.proofs.RunsLemmas.{told_of, goes_on, stops_anywhere, stops_in_file, stops_wanting}

pub means_kept : (line : List ℕ) (meaning : Option Command) → Means (take 65537 line) meaning → Means line meaning
means_kept line None h = λ command text. h command (subst (λ (l : List ℕ). LineText l command) (sym (take_all 65537 line (omega (arith, text.short)))) text)
means_kept line (Some command) h = subst (λ (l : List ℕ). LineText l command) (short_take 65537 line (omega (arith, h.short))) h

module _ (kept : List ℕ) (number : ℕ) (old : LineState) (sink : Outlet) (new : LineState) (after : Outlet) where
  done_as : (line : List ℕ) (told : Told) → kept ≡ take 65537 line → IsDone kept number old sink new after told → IsDone line number old sink new after told
  done_as line told is (meaning, means, d) = (meaning, means_kept line meaning (subst (λ (l : List ℕ). Means l meaning) is means), d)

  stopped_as : (line : List ℕ) (why : Stop) → kept ≡ take 65537 line → IsStopped kept number old sink new after why → IsStopped line number old sink new after why
  stopped_as line why is (inl unread) = inl unread
  stopped_as line why is (inr (meaning, means, s)) = inr (meaning, means_kept line meaning (subst (λ (l : List ℕ). Means l meaning) is means), s)

  -- the stored bytes are those of the line that was executed
  pub does : (executed : List ℕ) (refused now : Bool) (told : Told) → executed ≡ kept → now ≡ (refused || is_refused told) → IsDone executed number old sink new after told
      → Does kept (conversation number refused old.model (told_of old sink)) (conversation (number + 1) now new.model (told_of new after))
  does executed refused now told is counts done =
      subst (λ (b : Bool). Does kept (conversation number refused old.model (told_of old sink)) (conversation (number + 1) b new.model (told_of new after))) (sym counts)
      (λ line lines most before same at. goes_on lines line number refused most before old sink new after at told (done_as line told same (subst (λ (l : List ℕ). IsDone l number old sink new after told) is done)))

  output_increased : IsStopped kept number old sink new after stop.OutFault → HasIncreased sink.faults after.faults
  output_increased (inl (other, same, unsaid)) = let bad : ⊥ = cc other in absurd bad
  output_increased (inr (meaning, means, s)) = (s.fault refl).1

  store_increased : IsStopped kept number old sink new after stop.ShelfFault → HasIncreased old.faults new.faults
  store_increased (inl (other, same, unsaid)) = let bad : ⊥ = cc other in absurd bad
  store_increased (inr (meaning, means, s)) = (s.shelf_fault refl).1

  -- the run is stopped as the line was
  pub halts : (executed : List ℕ) (refused : Bool) (why : Stop) → executed ≡ kept → IsStopped executed number old sink new after why → IsSessionModel old.model → IsSessionModel new.model
      → IsHalted (λ Ends. StopsIn Ends kept (conversation number refused old.model (told_of old sink)) (told_of new after)) sink old.faults after new.faults why
  halts executed refused why same_line was_stopped session state_of =
      let stopped = subst (λ (l : List ℕ). IsStopped l number old sink new after why) same_line was_stopped in
      record {
        out_fault = λ is.
            let s = subst (λ (w : Stop). IsStopped kept number old sink new after w) is stopped in
            (output_increased s, λ line lines more most before same at. stops_anywhere lines line number refused most before old sink new after at more session state_of (stopped_as line stop.OutFault same s));
        shelf_fault = λ is.
            let s = subst (λ (w : Stop). IsStopped kept number old sink new after w) is stopped in
            (store_increased s, λ line lines more most before same at. stops_in_file lines line number refused most before old sink new after at more session state_of (stopped_as line stop.ShelfFault same s));
        want = λ is wants few line lines more most before same at.
            let s = subst (λ (w : Stop). IsStopped kept number old sink new after w) is stopped in
            stops_wanting lines line number refused most before old sink new after at more wants few session state_of (stopped_as line stop.NoMemory same s);
      }
