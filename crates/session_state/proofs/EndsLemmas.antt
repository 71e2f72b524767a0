-- How a line ends: its reply was written, or a prefix of it, or it was stopped before.
use Rattle.session_state.proofs.Names.{[], Allowance, Answer, Answers, ap, Appends-nil, arith, AsksForCounts, at, Bool, Carried, Carries, Command, CommandState, Compacts}
use Rattle.session_state.proofs.Names.{counters_at, counters_in, Done, Ends, Err, false, Files, IfErr, IfOk, inl, inr, IsAllowance, IsAnswering, IsBounded, IsConsistent}
use Rattle.session_state.proofs.Names.{IsList, IsOnce, IsPaid, IsRefused, IsRejectedFreely, Keeps-refl, Leaves, line_state, LineState, List, MatchResult, model_of}
use Rattle.session_state.proofs.Names.{no_steps, none_paid, not_asked, not_begun, Of, Ok, Option, Outlet, Quiet, refl, Refusal, refusal_text, Refused, Registers, Replies}
use Rattle.session_state.proofs.Names.{Result, seen, SessionState, Some, state_of, Stays, Stop, Stopped, subst, sym, Tallies, Told, true, WantsFor, World, world}
use Rattle.session_state.proofs.Names.{world_at, world_in, Wrote, ℕ, ◌≡◌, ◌⊎◌}
use Rattle.script_syntax.specs.declared.form.ListStart.{ListStart}
use Rattle.script_syntax.specs.declared.form.Command.TheVariants as form
use Rattle.span_language.specs.declared.told.Stop.TheVariants as stop
use Rattle.session_state.proofs.CommandLemmas.{answers, bounded, Changes, no_shelf, no_sink, refused_never, still, tallied}
use Rattle.session_state.proofs.Written.{starts, waits}

-- a line whose reply was written, or a prefix of it
pub written_ends : (number : ℕ) (meaning : Option Command) (old new : LineState) (before after : Outlet) (told : Told) (reply : List ℕ) (r : Result Told Stop)
    → IsBounded meaning old new → new.faults ≡ old.faults → Replies meaning → Carried (world_in old) number meaning told reply (world_in new)
    → ((a : Allowance) × IsAllowance (world_in old) meaning a × IsPaid a (counters_in old) (counters_in new)) → Tallies (Of Registers meaning) (Of Compacts meaning) (Of (AsksForCounts (world_in old)) meaning) told old new
    → (Of IsList meaning → ⊥) ⊎ (WantsFor r before after × (world_in new ≡ world_in old)) → IfOk r (λ t. t ≡ told) → Wrote r before reply after → Ends number meaning old before new after r
written_ends number meaning old new before after told reply (Ok t) bounded sound replied carried paid tallies wants is sent = record {
  passes = record { bounded = bounded; later = omega (arith, sent.sound.0); wants_later = omega (arith, sent.sound.1) };
  shelf_sound = sound;
  sink_sound = sent.sound;
  finishes = (reply, subst (λ (x : Told). Carried (world_in old) number meaning x reply (world_in new)) (sym is) carried, sent.appends);
  paid = paid;
  tallies = subst (λ (x : Told). Tallies (Of Registers meaning) (Of Compacts meaning) (Of (AsksForCounts (world_in old)) meaning) x old new) (sym is) tallies;
}
written_ends number meaning old new before after told reply (Err why) bounded sound replied carried paid tallies wants is cut = record {
  passes = record { bounded = bounded; later = cut.later; wants_later = cut.wants_later };
  halts = inr (told, reply, carried, cut.prefix);
  fault = λ e. (replied, cut.fault e);
  shelf_fault = λ e. absurd (cut.no_shelf e);
  want = λ e. elim wants [
    | inl other ↦ inl other
    | inr (want, same) ↦ inr (elim (want e) [
      | inl has_increased ↦ inl has_increased
      | inr kept ↦ inr (record { written = kept; world = same })
    ])
  ];
}

replies : (command : Command) → IsAnswering command → Some command ≡ Some form.Nothing → ⊥
replies command answering is = let same : command ≡ form.Nothing = cc is in subst IsAnswering same answering

lists_none : (command : Command) → IsAnswering command → IsList command → ⊥
lists_none (form.List q n w k) answering list = answering
lists_none _ answering list = list

-- an answer that was written, or wasn't
pub answer_ends : (old new : CommandState) (number : ℕ) (command : Command) (answer : Answer) (before after : Outlet) (r : Result Told Stop) → IsAnswering command → Answers old number command new answer
    → IfOk r (λ t. t ≡ answer.told) → Wrote r before answer.line.items after → Ends number (Some command) (line_state old) before (line_state new) after r
answer_ends old new number command answer before after r answering a is wrote =
    written_ends number (Some command) (line_state old) (line_state new) before after answer.told answer.line.items r a.goes.bounded a.sound (replies command answering) a.carries a.paid a.tallies
    (inl (lists_none command answering)) is wrote

-- a command that was stopped before it had an answer
pub stays_stopped : (old new : CommandState) (number : ℕ) (command : Command) (before : Outlet) (why : Stop) → IsAnswering command → Stays old number command new why → Stopped number (Some command) (line_state old) before (line_state new) before why
stays_stopped old new number command before why answering s = record {
  passes = record { bounded = s.goes.bounded; later = omega arith; wants_later = omega arith };
  halts = elim s.world [
    | inl same ↦ inl (record { written = Keeps-refl before.written; world = same })
    | inr more ↦ inr (more.1.0, more.1.1, more.1.2, (waits (starts before more.1.1)).prefix)
  ];
  fault = λ is. absurd (s.sink is);
  shelf_fault = λ is. let file = s.shelf is in (
    file.0,
    file.1,
    elim s.world [
      | inl same ↦ record { written = Keeps-refl before.written; world = same }
      | inr more ↦ absurd (more.0 file.0)
    ],
  );
  want = λ is. inl (lists_none command answering);
}

-- ---- a line that drops no node
module _ {asks : Bool} {count : ℕ} (old new : CommandState) (number : ℕ) (meaning : Option Command) (c : Changes asks count old new) (asked : asks ≡ true → Of (AsksForCounts (world_at old)) meaning) where
  pub changed_ends : (before after : Outlet) (told : Told) (reply : List ℕ) (r : Result Told Stop) → IsOnce (Of Registers meaning) told count → IsOnce (Of Compacts meaning) told 0 → new.faults ≡ old.faults → Replies meaning
      → Carried (world_at old) number meaning told reply (world_at new) → ((a : Allowance) × IsAllowance (world_at old) meaning a × IsPaid a (counters_at old) (counters_at new))
      → (Of IsList meaning → ⊥) ⊎ (WantsFor r before after × (world_at new ≡ world_at old)) → IfOk r (λ t. t ≡ told) → Wrote r before reply after → Ends number meaning (line_state old) before (line_state new) after r
  changed_ends before after told reply r registered kept sound replied carried (a, allowed, paid) =
      written_ends number meaning (line_state old) (line_state new) before after told reply r (bounded old new meaning c asked (a, inr allowed, paid) (omega (arith, sound))) sound replied carried (a, allowed, paid)
      (tallied old new meaning c asked told registered kept)

  -- an allocation failed before anything was written, and the state is unchanged
  pub changed_stops : (before : Outlet) → world_at new ≡ world_at old → counters_at new ≡ counters_at old → new.faults ≡ old.faults → Stopped number meaning (line_state old) before (line_state new) before stop.NoMemory
  changed_stops before same unpaid sound =
      let left : Leaves (world_at old) before.written before.written (world_at new) = record { written = Keeps-refl before.written; world = same } in
      record {
        passes = record {
          bounded = bounded old new meaning c asked (no_steps, inl refl, record { looks = omega (arith, ap (λ k. k.looks) unpaid); pairs = omega (arith, ap (λ k. k.pairs) unpaid) }) (omega (arith, sound));
          later = omega arith;
          wants_later = omega arith;
        };
        halts = inl left;
        fault = λ e. absurd (no_sink e);
        shelf_fault = λ e. no_shelf e;
        want = λ e. inr (inr left);
      }

-- ---- the session's state is unchanged
same : (h : SessionState) (files : Option Files) (faults looks pairs places : ℕ) → IsConsistent h → Changes false 0 (at h files faults looks pairs places) (at h files faults looks pairs places)
same h files faults looks pairs places is = still h h.docs h.versions files files faults faults looks pairs places is is.live is.kept

module _ (number : ℕ) (h : SessionState) (files : Option Files) (faults looks pairs places : ℕ) (before : Outlet) (is : IsConsistent h) where
  pub quiet_done : Done number (Some form.Nothing) (seen (model_of h) files faults looks pairs places) before (seen (model_of h) files faults looks pairs places) before Quiet
  quiet_done = record {
    passes = record { bounded = bounded _ _ (Some form.Nothing) (same h files faults looks pairs places is) not_asked (not_begun (world (state_of h) files) form.Nothing looks pairs) (omega arith); later = omega arith; wants_later = omega arith };
    shelf_sound = refl;
    sink_sound = (refl, refl);
    finishes = ([], (refl, refl, refl), Appends-nil before.written);
    paid = (no_steps, refl, none_paid looks pairs pairs refl);
    tallies = tallied _ _ (Some form.Nothing) (same h files faults looks pairs places is) not_asked Quiet refl refl;
  }

  -- a line that only replies, at no cost
  pub still_ends : (meaning : Option Command) (after : Outlet) (told : Told) (reply : List ℕ) (r : Result Told Stop) → Replies meaning → Carried (world (state_of h) files) number meaning told reply (world (state_of h) files)
      → IsAllowance (world (state_of h) files) meaning no_steps → IsOnce (Of Registers meaning) told 0 → IsOnce (Of Compacts meaning) told 0 → (Of IsList meaning → ⊥) ⊎ WantsFor r before after → IfOk r (λ t. t ≡ told) → Wrote r before reply after
      → Ends number meaning (seen (model_of h) files faults looks pairs places) before (seen (model_of h) files faults looks pairs places) after r
  still_ends meaning after told reply r replied carried free none kept wants =
      changed_ends _ _ number meaning (same h files faults looks pairs places is) not_asked before after told reply r none kept refl replied carried (no_steps, free, none_paid looks pairs pairs refl)
      (elim wants [ inl other ↦ inl other | inr want ↦ inr (want, refl) ])

-- ---- a rejected command
pub rejected_here : (h : SessionState) (number : ℕ) (command : Command) (why : Refusal) (answer : Answer) (files : Option Files) (faults looks pairs places : ℕ) → IsRejectedFreely h files command why
    → answer.told ≡ Refused → answer.line.items ≡ refusal_text number why → Answers (at h files faults looks pairs places) number command (at h files faults looks pairs places) answer
rejected_here h number command why answer files faults looks pairs places r told written =
    let w = world (state_of h) files in
    let here = same h files faults looks pairs places r.session in
    answers _ _ command here not_asked number answer (refused_never _ answer.told told) (refused_never _ answer.told told) (no_steps, r.free, none_paid looks pairs pairs refl) refl
    (subst (λ (t : Told). Carries w number command t answer.line.items w) (sym told) (why, r.refused, written, refl))

-- a rejected line has a reply
pub rejected_replies : (w : World) (command : Command) (why : Refusal) → IsRefused w command why → Some command ≡ Some form.Nothing → ⊥
rejected_replies w command why refused is = let same : command ≡ form.Nothing = cc is in subst (λ (c : Command). IsRefused w c why) same refused

-- the end of a command is the end of its line
pub line_ends : {T E : Type 0} {P : T → Type 0} {Q : E → Type 0} (r : Result T E) (D : T → Type 0) (S : E → Type 0) → ((x : T) → P x → D x) → ((e : E) → Q e → S e) → MatchResult r P Q → IfOk r D × IfErr r S
line_ends (Ok x) D S done stopped h = (done x h, tt)
line_ends (Err e) D S done stopped h = (tt, stopped e h)

-- ---- the commands whose reply is one value
pub is_answering : (command : Command) → (command ≡ form.Nothing → ⊥) → (command ≡ form.Names → ⊥) → ((q n : List ℕ) (s : ListStart) (k : ℕ) → command ≡ form.List q n s k → ⊥) → ((q : List ℕ) (k : ℕ) → command ≡ form.ListAll q k → ⊥) → IsAnswering command
is_answering form.Nothing nothing names list all = nothing refl
is_answering form.Names nothing names list all = names refl
is_answering (form.List q n s k) nothing names list all = list q n s k refl
is_answering (form.ListAll q k) nothing names list all = all q k refl
is_answering _ nothing names list all = tt
