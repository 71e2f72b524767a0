-- A line whose reply was written, and then flushed.
use Rattle.span_session.proofs.Names.{Accepted, Appends, Appends-kept, AppendsPrefix, arith, Carried, Carries, Command, Done, Ends, Err, HasIncreased, HasNoFault, IfErr}
use Rattle.span_session.proofs.Names.{IfOk, inl, inr, IsDone, IsGone, IsOfFile, IsStopped, Keeps, length, LineState, List, Ok, Option, Outlet, Passes, Quiet, refl}
use Rattle.span_session.proofs.Names.{Refused, Replies, Result, Some, Stop, Stopped, subst, sym, take_all, Told, world_in, Wrote, ℕ, ◌∙◌, ◌≡◌, ◌≤◌, ◌⊎◌}
use Rattle.script_syntax.specs.declared.form.Command.TheVariants as form
use Rattle.session_state.proofs.EndsLemmas.{stays_stopped}
use Rattle.session_state.proofs.Names.{CommandState, IsAnswering, IsErrAnd, line_state, Stays}
use Rattle.session_state.proofs.Written.{passed}
use Rattle.span_language.specs.declared.told.Stop.TheVariants as stop

-- only a line without a command has no reply
pub quiet_never : (P : Type 0) (number : ℕ) (command : Command) (old new : LineState) (before after : Outlet) (r : Result Told Stop) → (command ≡ form.Nothing → ⊥) → Ends number (Some command) old before new after r
    → IfOk r (λ told. told ≡ Quiet → P)
quiet_never P number command old new before after (Ok told) other d =
    λ is. absurd (other (subst (λ (t : Told). Done number (Some command) old before new after t) is d).finishes.1.0)
quiet_never P number command old new before after (Err why) other s = tt

-- only a line that uses files is stopped by a failure of the file store
pub shelf_never : (P : Type 0) (number : ℕ) (command : Command) (old new : LineState) (before after : Outlet) (r : Result Told Stop) → (IsOfFile command → ⊥) → Ends number (Some command) old before new after r
    → IfErr r (λ why. why ≡ stop.ShelfFault → P)
shelf_never P number command old new before after (Ok told) other d = tt
shelf_never P number command old new before after (Err why) other s = λ is. absurd (other (s.shelf_fault is).0)

-- a command that was stopped before it had an answer
pub stopped_ends : (old new : CommandState) (number : ℕ) (command : Command) (before : Outlet) (why : Stop) (r : Result Told Stop) → IsAnswering command → Stays old number command new why → IsErrAnd r (λ x. x ≡ why)
    → Ends number (Some command) (line_state old) before (line_state new) before r
stopped_ends old new number command before why r answering stays is =
    passed r (Done number (Some command) (line_state old) before (line_state new) before) (Stopped number (Some command) (line_state old) before (line_state new) before) why is
    (stays_stopped old new number command before why answering stays)

-- what holds of every error
pub each_err : {T E : Type 0} (r : Result T E) (Q : E → Type 0) → ((e : E) → Q e) → IfErr r Q
each_err (Ok x) Q h = tt
each_err (Err e) Q h = h e

-- a rejection is a reply
pub refused_loud : (P : Type 0) (r : Result Told Stop) → IfOk r (λ told. told ≡ Refused) → IfOk r (λ told. told ≡ Quiet → P)
refused_loud P (Ok told) is = λ quiet. let bad : ⊥ = cc (is, quiet) in absurd bad
refused_loud P (Err why) is = tt

-- writing a reply doesn't use the file store
pub no_shelf_wrote : (P : Type 0) (r : Result Told Stop) (before after : Outlet) (piece : List ℕ) → Wrote r before piece after → IfErr r (λ why. why ≡ stop.ShelfFault → P)
no_shelf_wrote P (Ok told) before after piece sent = tt
no_shelf_wrote P (Err why) before after piece cut = λ is. absurd (cut.no_shelf is)

module _ (number : ℕ) (meaning : Option Command) (old new : LineState) (before mid after : Outlet) (told : Told) (kept : Keeps mid.written after.written) where
  passes_on : mid.faults ≤ after.faults → mid.wants ≤ after.wants → Passes meaning old before new mid → Passes meaning old before new after
  passes_on later wants_later p = record { bounded = p.bounded; later = omega (arith, later, p.later); wants_later = omega (arith, wants_later, p.wants_later) }

  replied : (c : Option Command) (reply : List ℕ) → (told ≡ Quiet → ⊥) → Carried (world_in old) number c told reply (world_in new) → Replies c
  replied c reply spoken carried is = by told spoken (subst (λ (x : Option Command). Carried (world_in old) number x told reply (world_in new)) is carried)
    where
      by : (t : Told) → (t ≡ Quiet → ⊥) → Carries (world_in old) number form.Nothing t reply (world_in new) → ⊥
      by Quiet loud h = loud refl
      by Accepted loud h = h
      by Refused loud h = h.1

  -- all of it was sent
  pub sent_done : HasNoFault mid after → Done number meaning old before new mid told → Done number meaning old before new after told
  sent_done sound d = record {
    passes = passes_on (omega (arith, sound.0)) (omega (arith, sound.1)) d.passes;
    shelf_sound = d.shelf_sound;
    sink_sound = (sound.0 ∙ d.sink_sound.0, sound.1 ∙ d.sink_sound.1);
    finishes = (d.finishes.0, d.finishes.1, Appends-kept before.written mid.written after.written d.finishes.0 d.finishes.2 kept);
    paid = d.paid;
    tallies = d.tallies;
  }

  -- or the flush failed
  pub unsent_stopped : (why : Stop) → (told ≡ Quiet → ⊥) → mid.faults ≤ after.faults → mid.wants ≤ after.wants → (why ≡ stop.OutFault → HasIncreased mid.faults after.faults)
      → (why ≡ stop.NoMemory → HasIncreased mid.wants after.wants) → (why ≡ stop.ShelfFault → ⊥) → Done number meaning old before new mid told → Stopped number meaning old before new after why
  unsent_stopped why spoken later wants_later fault want shelf d =
      let reply = d.finishes.0 in
      let wrote = Appends-kept before.written mid.written after.written reply d.finishes.2 kept in
      let whole : AppendsPrefix before.written after.written reply =
      (length reply, subst (λ (l : List ℕ). Appends before.written after.written l) (sym (take_all (length reply) reply (omega arith))) wrote) in
      record {
        passes = passes_on later wants_later d.passes;
        halts = inr (told, reply, d.finishes.1, whole);
        fault = λ is. (replied meaning reply spoken d.finishes.1, (let has_increased = fault is in omega (arith, has_increased, d.sink_sound.0)));
        shelf_fault = λ is. absurd (shelf is);
        want = λ is. inr (inl (let has_increased = want is in omega (arith, has_increased, d.sink_sound.1)));
      }

-- what holds of a line after its reply was written holds after the flush
module _ {K : Type 0} (line : List ℕ) (number : ℕ) (old new : LineState) (before mid after : Outlet) (first second third : K) (told : Told) (r : Result Told Stop)
    (same : IfOk r (λ t. t ≡ told)) (quiet : told ≡ Quiet → (r ≡ Ok Quiet) × (third ≡ second)) (kept : Keeps mid.written after.written) where
  pub line_gone : (gone : ℕ) → (told ≡ Quiet → second ≡ first) → IsGone r (told ≡ Quiet) gone → IfOk r (λ t. ((t ≡ Quiet) × (third ≡ first)) ⊎ (gone ≡ 0))
  line_gone gone still h = by r same h
    where
      by : (q : Result Told Stop) → IfOk q (λ t. t ≡ told) → IsGone q (told ≡ Quiet) gone → IfOk q (λ t. ((t ≡ Quiet) × (third ≡ first)) ⊎ (gone ≡ 0))
      by (Ok t) is (inl silent) = inl (is ∙ silent, (quiet silent).1 ∙ still silent)
      by (Ok t) is (inr none) = inr none
      by (Err why) is g = tt

  pub line_done : IfOk r (λ _. HasNoFault mid after) → IsDone line number old before new mid told → IfOk r (IsDone line number old before new after)
  line_done sound (meaning, means, d) = by r same sound
    where
      by : (q : Result Told Stop) → IfOk q (λ t. t ≡ told) → IfOk q (λ _. HasNoFault mid after) → IfOk q (IsDone line number old before new after)
      by (Ok t) is calm = (meaning, means, subst (λ (x : Told). Done number meaning old before new after x) (sym is) (sent_done number meaning old new before mid after told kept calm d))
      by (Err why) is calm = tt

  pub line_stopped : mid.faults ≤ after.faults → mid.wants ≤ after.wants → IfErr r (λ why. why ≡ stop.OutFault → HasIncreased mid.faults after.faults)
      → IfErr r (λ why. why ≡ stop.NoMemory → HasIncreased mid.wants after.wants) → IfErr r (λ why. why ≡ stop.ShelfFault → ⊥) → IsDone line number old before new mid told
      → IfErr r (IsStopped line number old before new after)
  line_stopped later wants_later fault want shelf (meaning, means, d) = by r quiet fault want shelf
    where
      by : (q : Result Told Stop) → (told ≡ Quiet → (q ≡ Ok Quiet) × (third ≡ second)) → IfErr q (λ why. why ≡ stop.OutFault → HasIncreased mid.faults after.faults)
          → IfErr q (λ why. why ≡ stop.NoMemory → HasIncreased mid.wants after.wants) → IfErr q (λ why. why ≡ stop.ShelfFault → ⊥) → IfErr q (IsStopped line number old before new after)
      by (Ok t) silent f w s = tt
      by (Err why) silent f w s = inr (meaning, means, unsent_stopped number meaning old new before mid after told kept why (λ is. let bad : ⊥ = cc ((silent is).0) in bad) later wants_later f w s d)
