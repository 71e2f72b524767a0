-- The line of a command that writes its reply, after tables were computed.
use Rattle.query_commands.proofs.Names.{arith, AsksForCounts, at, Book, Bool, Carries, Command, Compacts, counters, Ends, Files, Grows-none, GrowsTables, inl, inr}
use Rattle.query_commands.proofs.Names.{IsConsistent, IsList, model_of, never, Option, Outlet, refl, Registers, Replies, Result, same_world, seen, Sends, SessionState}
use Rattle.query_commands.proofs.Names.{Some, state_of, Stop, Stopped, subst, sym, Told, true, WantsFor, world, Wrote, ℕ, ◌≡◌, ◌⊎◌}
use Rattle.span_language.specs.declared.told.Stop.TheVariants as stop
use Rattle.session_state.proofs.CommandLemmas.{Changes, moves, moved_state}
use Rattle.session_state.proofs.EndsLemmas.{changed_ends, changed_stops}

module _ {asked : Bool} {h : SessionState} {book : Book} {p q : ℕ} (number : ℕ) (command : Command) (files : Option Files) (faults looks pairs : ℕ) (before : Outlet) (is : IsConsistent h) (grown : GrowsTables asked h.store h.book book p q)
    (asks : asked ≡ true → AsksForCounts (world (state_of h) files) command) where
  changes : (more : ℕ) → Changes asked 0 (at h files faults looks pairs p) (at (record h { book = book }) files faults more pairs q)
  changes more = moves asked _ _ (Grows-none h.store pairs pairs (omega arith)) is.live is.kept grown

  same : world (state_of (record h { book = book })) files ≡ world (state_of h) files
  same = same_world (moved_state asked h h.store h.docs book pairs pairs p q is (Grows-none h.store pairs pairs (omega arith)) grown) refl

  -- the allocation of some tables failed
  pub growth_stops : Stopped number (Some command) (seen (model_of h) files faults looks pairs p) before (seen (model_of (record h { book = book })) files faults looks pairs q) before stop.NoMemory
  growth_stops = changed_stops _ _ number (Some command) (changes looks) asks before same refl refl

  -- the reply was written, or a part of it
  pub reply_ends : (more : ℕ) (after : Outlet) (r : Result Told Stop) → (Registers command → ⊥) → (Compacts command → ⊥) → Replies (Some command) → (IsList command → ⊥) ⊎ WantsFor r before after
      → Sends (world (state_of h) files) number command (λ reply. Wrote r before reply after) r (counters looks pairs) (counters more pairs)
      → Ends number (Some command) (seen (model_of h) files faults looks pairs p) before (seen (model_of (record h { book = book })) files faults more pairs q) after r
  reply_ends more after r other kept replied wants s =
      changed_ends _ _ number (Some command) (changes more) asks before after s.told s.reply r (never _ other s.told) (never _ kept s.told) refl replied
      (subst (Carries (world (state_of h) files) number command s.told s.reply) (sym same) s.carries) s.paid (elim wants [ inl none ↦ inl none | inr want ↦ inr (want, same) ]) s.told_is s.writes
