-- The effect of commands on documents.
use Rattle.text_commands.proofs.Names.{[], Answer, Answers, ap, append_assoc, AreLive, AreLive-grows, Assigns, at, at_drop_all, Carries, codes, Command, Compacts}
use Rattle.text_commands.proofs.Names.{counters, Doc, Documents, drop, entry_text, Err, eval, Expr, ExprReads, false, Files, flat_map, Grows, Grows-trans, HasIncreased}
use Rattle.text_commands.proofs.Names.{IfErr, inl, inr, IsConsistent, IsEditRejectionReply, IsErrAnd, IsOfFile, IsShown, IsUpTo, length, length-text_of, List}
use Rattle.text_commands.proofs.Names.{moved_answers, moved_stays, names_text, no_shelf, no_sink, Node, none_grown, not_asked, Ok, only_documents, Option, Outcome}
use Rattle.text_commands.proofs.Names.{Outlet, part_of_paid, passed_on, PaysFor, PaysForPart, plain, plain-grows, put, refl, Refusal, Registers, Result, SessionState}
use Rattle.text_commands.proofs.Names.{shown_range, slice_get, Some, State, state_of, Stays, Stop, subst, sym, text_of, Told, value_of, with_documents, World, world, ℕ}
use Rattle.text_commands.proofs.Names.{◌++◌, ◌+◌, ◌∙◌, ◌∷◌, ◌≡◌, ◌≤◌, ◌⊎◌}
use Rattle.report_text.proofs.Vars.{drop_at}
use Rattle.edit_expr.specs.declared.refusal.EditRefusal.{EditRefusal}
use Rattle.edit_expr.specs.declared.refusal.EditRefusal.TheVariants as edit
use Rattle.script_syntax.specs.declared.form.Command.TheVariants as form
use Rattle.span_language.specs.declared.told.Stop.TheVariants as stop

-- documents stay live when the store gets nodes, and one growth follows another
pub ruleset growing = (AreLive-grows, Grows-trans, plain-grows)

pub ruleset lengths = (length-text_of)

-- ---- a command that adds nodes to the store
module _ (h : SessionState) (store : List Node) (docs : List Doc) (number : ℕ) (command : Command) (files after : Option Files) (faults more looks p q places : ℕ)
    (is : IsConsistent h) (grows : Grows h.store store p q) (same : after ≡ files) where
  -- documents were replaced
  pub grown_answers : (answer : Answer) → AreLive store docs → (Registers command → ⊥) → (Compacts command → ⊥) → PaysFor (world (state_of h) files) command (counters looks p) (counters looks q) → more ≡ faults
      → Carries (world (state_of h) files) number command answer.told answer.line.items (world (with_documents (state_of h) (plain store docs)) files)
      → Answers (at h files faults looks p places) number command (at (record h { store = store; docs = docs }) after more looks q places) answer
  grown_answers answer live other kept paid sound carries =
      moved_answers false h store docs h.book number command files after faults more looks looks p q places places is grows live (none_grown h.store h.book places is.serves) not_asked answer other kept paid same sound carries

  -- no document was replaced
  pub grown_stays : (why : Stop) → docs ≡ h.docs → PaysForPart (world (state_of h) files) command (counters looks p) (counters looks q) → faults ≤ more
      → (why ≡ stop.ShelfFault → IsOfFile command × HasIncreased faults more) → (why ≡ stop.OutFault → ⊥)
      → Stays (at h files faults looks p places) number command (at (record h { store = store; docs = docs }) after more looks q places) why
  grown_stays why unchanged begun later shelf sink =
      let live = subst (AreLive store) (sym unchanged) (AreLive-grows h.store store p q grows h.docs is.live) in
      let texts = ap (plain store) unchanged ∙ plain-grows h.store store p q grows h.docs is.live in
      moved_stays false h store docs h.book number command files after faults more looks looks p q places places is grows live (none_grown h.store h.book places is.serves) not_asked why texts begun same later shelf sink

  pub grown_stops : (r : Result Answer Stop) → IsErrAnd r (λ e. e ≡ stop.NoMemory) → docs ≡ h.docs → PaysFor (world (state_of h) files) command (counters looks p) (counters looks q) → faults ≤ more
      → IfErr r (Stays (at h files faults looks p places) number command (at (record h { store = store; docs = docs }) after more looks q places))
  grown_stops r stopped unchanged paid later =
      passed_on r _ stopped (grown_stays stop.NoMemory unchanged (part_of_paid (world (state_of h) files) command (counters looks p) (counters looks q) paid) later no_shelf no_sink)

-- ---- replies
pub assigned_refusal : (old new : Documents) (number : ℕ) (name : List ℕ) (o : Outcome) (why : EditRefusal) (told : Told) (reply : List ℕ) → new ≡ old → (why ≡ edit.NoMemory) ⊎ (o ≡ Err why)
    → IsEditRejectionReply number why told reply → Assigns old number name o told reply new
assigned_refusal old new number name o why told reply same (inl none) h = let rejected = rw none at h in absurd rejected.2
assigned_refusal old new number name o why told reply same (inr is) h = rw is (h, same)

pub let_carries : (st : State) (new : Documents) (number : ℕ) (name expr : List ℕ) (e : Expr) (o : Outcome) (told : Told) (reply : List ℕ) (files : Option Files) → ExprReads expr e → eval st.documents e ≡ o → Assigns st.documents number name o told reply new
    → Carries (world st files) number (form.LetDoc name expr) told reply (world (with_documents st new) files)
let_carries st new number name expr e (Ok text) told reply files reads is h = rw h.0.0 (e, text, reads, is, h.0.1, only_documents st (put st.documents name text) new files h.1)
let_carries st new number name expr e (Err refusal) told reply files reads is h = rw h.0.0 (h.0.1, inr (e, refusal, reads, is, h.0.2), h.0.3, only_documents st st.documents new files h.1)

pub show_carries : (w : World) (number : ℕ) (name : List ℕ) (i j : ℕ) (text : List ℕ) (o : Result (List ℕ) Refusal) (told : Told) (reply : List ℕ) → value_of w.state.documents name ≡ Some text → shown_range text i j ≡ o → IsShown number o told reply
    → Carries w number (form.Show name i j) told reply w
show_carries w number name i j text (Ok bytes) told reply there is h = rw h.0 (bytes, rw there is, h.1, refl)
show_carries w number name i j text (Err why) told reply there is h = rw h.0 (why, rw there is, h.1, refl)

-- ---- the lines of the documents from an index on, and the end
abbrev pub names_rest : List Node → List Doc → ℕ → List ℕ
names_rest ns ds index = names_text (plain ns (drop index ds))

pub names_next : {a b : Outlet} {whole : List ℕ} (ns : List Node) (ds : List Doc) (index : ℕ) (d : Doc) → slice_get ds index ≡ Some d → IsUpTo a b (names_rest ns ds index) whole
    → IsUpTo a b (entry_text (d.name, text_of ns d.root) ++ names_rest ns ds (index + 1)) whole
names_next {a} {b} {whole} ns ds index d e h = subst (λ (l : List ℕ). IsUpTo a b l whole)
    (ap (λ (es : List Doc). names_text (plain ns es)) (drop_at ds index d e) ∙ append_assoc (entry_text (d.name, text_of ns d.root)) (flat_map entry_text (plain ns (drop (index + 1) ds))) (codes "end" ++ 10 ∷ [])) h

pub names_end : {a b : Outlet} {whole : List ℕ} (ns : List Node) (ds : List Doc) (index : ℕ) → length ds ≤ index → IsUpTo a b (names_rest ns ds index) whole → IsUpTo a b (codes "end" ++ 10 ∷ []) whole
names_end {a} {b} {whole} ns ds index past h = subst (λ (l : List ℕ). IsUpTo a b l whole) (at_drop_all (λ (es : List Doc). names_text (plain ns es)) ds index past) h
