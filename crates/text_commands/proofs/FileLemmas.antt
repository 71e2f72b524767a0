-- The effect of the commands that read or put a file.
use Rattle.text_commands.proofs.Names.{AllowsWrites, Answer, Answers, ap, AreLive-grows, arith, at, BadImage, CannotRead, CannotWrite, Carries, Command, Compacts}
use Rattle.text_commands.proofs.Names.{counters, DeniesWrites, Documents, Does, Err, file_command, Files, FileTooLong, free_answers, Grows, HasIncreased, IfErr, IfOk}
use Rattle.text_commands.proofs.Names.{image, inl, inr, IsAllowed, IsConsistent, IsFileRefused, IsFileRejection, IsFileRejectionReply, IsLoadPaid, IsOfFile, IsOfTheFile}
use Rattle.text_commands.proofs.Names.{IsPut, IsPutReply, IsPutStop, IsPutTo, IsRefused, IsWithin, length, limit_of, List, load_size, Meaning, MeansFile, Method}
use Rattle.text_commands.proofs.Names.{no_shelf, no_sink, no_steps, Node, none_paid, NoSuchFile, Ok, OnErr, only_documents, Opens, Option, part_of_paid, PaysFor}
use Rattle.text_commands.proofs.Names.{PaysForPart, plain, plain-grows, put, refl, Refusal, refusal_text, Refused, Registers, Result, same_world, SessionState, Sets}
use Rattle.text_commands.proofs.Names.{Some, State, state_of, Stays, stays_so, Stop, Told, with_documents, World, world, ℕ, ◌+◌, ◌∙◌, ◌≡◌, ◌≤◌}
use Rattle.edge_io.specs.Causes.{HasPutCause}
use Rattle.edge_io.specs.declared.PutRefusal.{PutRefusal}
use Rattle.edge_io.specs.declared.PutRefusal.TheVariants as cause
use Rattle.script_syntax.specs.declared.form.Command.TheVariants as form
use Rattle.slp_image.specs.Fields.{kind_of}
use Rattle.slp_image.specs.Documents.{Fails}
use Rattle.slp_image.specs.Image.{Outcome}
use Rattle.slp_image.specs.declared.refusal.ImageRefusal.{ImageRefusal}
use Rattle.slp_image.specs.declared.refusal.ImageRefusal.TheVariants as fault
use Rattle.span_language.specs.declared.told.Stop.TheVariants as stop
use Rattle.text_commands.specs.declared.reading.FileRefusal.{FileRefusal}
use Rattle.text_commands.specs.declared.reading.FileRefusal.TheVariants as turned
use Rattle.text_commands.proofs.CarryLemmas.{grown_answers, grown_stays}
use Rattle.text_commands.proofs.LoadingLemmas.{load_kinds}

-- ---- a rejected file
-- only a rejection about the file itself has a reply
rejection : (files : Option Files) (number : ℕ) (file : List ℕ) (limit : ℕ) (why : FileRefusal) (told : Told) (reply : List ℕ) → IsFileRejection files file limit why → IsFileRejectionReply number file why told reply
    → (told ≡ Refused) × IsOfTheFile why × (v : Refusal) × IsFileRefused files file limit v × (reply ≡ refusal_text number v)
rejection files number file limit turned.Absent told reply is h = (h.0, tt, NoSuchFile file, inl (is, refl), h.1)
rejection files number file limit turned.Denied told reply is h = (h.0, tt, CannotRead file, inr (inl (is, refl)), h.1)
rejection files number file limit turned.TooLong told reply is h = (h.0, tt, FileTooLong file, inr (inr (is, refl)), h.1)
rejection files number file limit _ told reply is h = absurd h

-- a command that is rejected if its file is, or was stopped there
pub file_rejected : (h : SessionState) (store : List Node) (number : ℕ) (command : Command) (files after : Option Files) (faults more looks p q places : ℕ) (file : List ℕ) (limit : ℕ) (why : FileRefusal) (r : Result Answer Stop)
    → IsConsistent h → Grows h.store store p q → after ≡ files → faults ≤ more → IsOfFile command → (Registers command → ⊥) → (Compacts command → ⊥)
    → ((v : Refusal) → IsFileRefused files file limit v → IsRefused (world (state_of h) files) command v × PaysFor (world (state_of h) files) command (counters looks p) (counters looks q))
    → PaysForPart (world (state_of h) files) command (counters looks p) (counters looks q) → IsFileRejection files file limit why → (IsOfTheFile why → more ≡ faults) → (why ≡ turned.Failed → HasIncreased faults more)
    → IfOk r (λ a. IsFileRejectionReply number file why a.told a.line.items) → IfErr r (λ s. s ≡ stop.ShelfFault → why ≡ turned.Failed) → IfErr r (λ s. s ≡ stop.OutFault → ⊥)
    → IfOk r (Answers (at h files faults looks p places) number command (at (record h { store = store }) after more looks q places))
    × IfErr r (Stays (at h files faults looks p places) number command (at (record h { store = store }) after more looks q places))
file_rejected h store number command files after faults more looks p q places file limit why (Ok a) is grows same later isfile other kept refuses begun refused sound failed reply shelf sink =
    let (told, here, v, so, written) = rejection files number file limit why a.told a.line.items refused reply in
    let (is_refused, paid) = refuses v so in
    let texts = only_documents (state_of h) (plain h.store h.docs) (plain store h.docs) files (plain-grows h.store store p q grows h.docs is.live) in
    (grown_answers h store h.docs number command files after faults more looks p q places is grows same a (AreLive-grows h.store store p q grows h.docs is.live) other kept paid (sound here) (rw told (v, is_refused, written, texts)), tt)
file_rejected h store number command files after faults more looks p q places file limit why (Err s) is grows same later isfile other kept refuses begun refused sound failed reply shelf sink =
    (tt, grown_stays h store h.docs number command files after faults more looks p q places is grows same s refl begun later (λ e. (isfile, failed (shelf e))) sink)

-- ---- `load` and `share`
pub load_carries : (m : Method) (st : State) (new : Documents) (number : ℕ) (name file bytes : List ℕ) (told : Told) (reply : List ℕ) (files : Option Files) → IsWithin files file load_size bytes → Sets st.documents name bytes told reply new
    → Carries (world st files) number (file_command m name file) told reply (world (with_documents st new) files)
load_carries m st new number name file bytes told reply files there h = rw h.0.0 ((load_kinds m name file).3 (world st files) (world (with_documents st new) files) reply (bytes, there, (h.0.1, only_documents st (put st.documents name bytes) new files h.1)))

-- loading a file: at most the maximum for its length
pub loaded : (m : Method) (old : World) (name file bytes : List ℕ) (looks p q : ℕ) → IsWithin old.files file load_size bytes → q ≤ p + limit_of m (length bytes) → PaysFor old (file_command m name file) (counters looks p) (counters looks q)
loaded m old name file bytes looks p q within paid = (_, (load_kinds m name file).5 old (record { looks = 0; pairs = limit_of m (length bytes) }) (inr (bytes, within, refl)), record { looks = omega arith; pairs = omega (arith, paid) })

pub file_refused_paid : (m : Method) (old : World) (name file : List ℕ) (why : Refusal) (looks p q : ℕ) → IsFileRefused old.files file load_size why → IsLoadPaid m old.files file p q → PaysFor old (file_command m name file) (counters looks p) (counters looks q)
file_refused_paid m old name file why looks p q refused (inl same) = (no_steps, (load_kinds m name file).5 old no_steps (inl (why, refused, refl)), none_paid looks p q same)
file_refused_paid m old name file why looks p q refused (inr (all, within, paid)) = loaded m old name file all looks p q within paid

pub file_begun : (m : Method) (old : World) (name file : List ℕ) (looks p q : ℕ) → IsLoadPaid m old.files file p q → PaysForPart old (file_command m name file) (counters looks p) (counters looks q)
file_begun m old name file looks p q (inl same) = (no_steps, inl refl, none_paid looks p q same)
file_begun m old name file looks p q (inr (all, within, paid)) = part_of_paid old (file_command m name file) (counters looks p) (counters looks q) (loaded m old name file all looks p q within paid)

-- ---- `open`
-- the documents are those of an image
pub open_carries : (st : State) (new : Documents) (number : ℕ) (file bytes : List ℕ) (o : Result Meaning ImageRefusal) (told : Told) (reply : List ℕ) (files : Option Files) → MeansFile files file bytes → (image bytes).answer ≡ o
    → Opens st.documents number o told reply new
    → Carries (world st files) number (form.OpenFile file) told reply (world (with_documents st new) files)
open_carries st new number file bytes (Ok m) told reply files there is h = rw h.0 (there.all, m.documents, m.nodes, there.within, ap (λ (i : Outcome Meaning). i.answer) there.same ∙ is, h.1, only_documents st m.documents new files h.2)
open_carries st new number file bytes (Err why) told reply files there is h = rw h.0 (BadImage h.1, inr (there.all, h.1, there.within, record { refusal = why; means = ap (λ (i : Outcome Meaning). i.answer) there.same ∙ is; kind_is = h.2 }, refl), h.3, only_documents st st.documents new files h.4)

pub open_paid : (old : World) (file bytes : List ℕ) (looks p q : ℕ) → MeansFile old.files file bytes → q ≤ p + (image bytes).cost → PaysFor old (form.OpenFile file) (counters looks p) (counters looks q)
open_paid old file bytes looks p q there paid =
    let cost : (image there.all).cost ≡ (image bytes).cost = ap (λ (i : Outcome Meaning). i.cost) there.same in
    (record { looks = 0; pairs = (image there.all).cost }, inr (there.all, there.within, refl), record { looks = omega arith; pairs = omega (arith, paid, cost) })

-- the reply to bytes that are no valid image
pub opens_refused : (old new : Documents) (number : ℕ) (o : Result Meaning ImageRefusal) (why : ImageRefusal) (told : Told) (reply : List ℕ) → new ≡ old → Fails why o → told ≡ Refused
    → ((kind : ℕ) × (kind_of why ≡ Some kind) × (reply ≡ refusal_text number (BadImage kind))) → Opens old number o told reply new
opens_refused old new number o why told reply same fails is (kind, known, written) = rw (fails_at why known fails) (is, kind, known, written, same)
  where
    fails_at : (e : ImageRefusal) → kind_of e ≡ Some kind → Fails e o → o ≡ Err e
    fails_at fault.NoMemory known h = let bad : ⊥ = cc known in absurd bad
    fails_at _ known h = h

-- ---- `save` and `write`
-- a command that puts these bytes to a file and replies with this line, or with a rejection if the file may not be written
module _ (h : SessionState) (number : ℕ) (command : Command) (file bytes line : List ℕ) (files after : Option Files) (faults more wants wanted : ℕ)
    (is : IsConsistent h) (putting : IsOfFile command) (other : Registers command → ⊥) (kept : Compacts command → ⊥) (free : IsAllowed (world (state_of h) files) command no_steps)
    (accepts : AllowsWrites files file → IsPut files file bytes after → Does (world (state_of h) files) command line (world (state_of h) after))
    (rejects : DeniesWrites files file → IsRefused (world (state_of h) files) command (CannotWrite file)) where
  pub put_ends : (o : Result (Unit {0}) PutRefusal) (r : Result Answer Stop) → IsPutTo files after file bytes o → OnErr o (after ≡ files) → HasPutCause faults more wants wanted o
      → IfOk r (λ a. IsPutReply number file line o a.told a.line.items) → IfErr r (IsPutStop o) → (looks pairs places : ℕ)
      → IfOk r (Answers (at h files faults looks pairs places) number command (at h after more looks pairs places)) × IfErr r (Stays (at h files faults looks pairs places) number command (at h after more looks pairs places))
  put_ends (Ok done) (Ok a) put same causes reply stopped looks pairs places =
      let wrote = accepts put.allowed (record { held = put.done; others = put.others }) in
      (free_answers h h.docs h.versions number command a files after faults more looks pairs places is is.live is.kept other kept free causes.kept.0 (rw (reply.0, reply.1) wrote), tt)
  put_ends (Err cause.Denied) (Ok a) put same causes reply stopped looks pairs places =
      (free_answers h h.docs h.versions number command a files after faults more looks pairs places is is.live is.kept other kept free (causes.kept_denied refl).0 (rw reply.0 (CannotWrite file, rejects (put.denied refl), reply.1, same_world refl same)), tt)
  put_ends (Err _) (Ok a) put same causes reply stopped looks pairs places = absurd reply
  put_ends (Ok done) (Err why) put same causes reply stopped looks pairs places = absurd stopped
  put_ends (Err cause.Failed) (Err why) put same causes reply stopped looks pairs places =
      (tt, rw stopped (stays_so h number command files after faults more looks pairs places stop.ShelfFault is same causes.later (λ _. (putting, causes.failed refl)) (λ e. let bad : ⊥ = cc e in bad)))
  put_ends (Err _) (Err why) put same causes reply stopped looks pairs places = (tt, rw stopped (stays_so h number command files after faults more looks pairs places stop.NoMemory is same causes.later no_shelf no_sink))
