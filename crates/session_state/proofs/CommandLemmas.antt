-- The effect of a command on the session, whatever it adds, computes or replaces.
use Rattle.session_state.proofs.Names.{Accepted, Allowance, Answer, Answers, ap, AreKept, AreKept-grows, AreLive, arith, AsksForCounts, at, Book, Bool, Carries, Command}
use Rattle.session_state.proofs.Names.{CommandState, Compacts, counters, counters_at, Doc, Err, false, Files, grown_placed, grown_placed_part, Grows, Grows-length}
use Rattle.session_state.proofs.Names.{Grows-none, GrowsTables, HasIncreased, IfErr, inl, inr, IsAllowance, IsAllowed, IsBounded, IsConsistent, IsErrAnd, IsOfFile}
use Rattle.session_state.proofs.Names.{IsOnce, IsPaid, KeepsInvariant, length, line_state, List, Named, no_steps, Node, none_grown, none_paid, none_placed_part}
use Rattle.session_state.proofs.Names.{not_asked, not_begun, Of, Ok, Option, part_of_paid, PaysFor, PaysForPart, PlacesOfBoth, PlacesPartOfBoth, plain}
use Rattle.session_state.proofs.Names.{plain_versions-grows, queries_of, Quiet, refl, Refused, Registers, Result, same_world, Serves, serves-grows, SessionState, Some}
use Rattle.session_state.proofs.Names.{state_of, Stays, Stop, subst, sym, tables-within, tables_of, Tallies, Told, true, with_documents, with_queries, world, world_at, ℕ}
use Rattle.session_state.proofs.Names.{◌∙◌, ◌≡◌, ◌≤◌, ◌⊎◌}
use Rattle.span_language.specs.declared.told.Stop.TheVariants as stop
use Rattle.session_state.specs.Answers.{StaysFreely}
use Rattle.session_state.proofs.StateLemmas.{Grows-pairs}

-- an allocation failed in a call, and the error is propagated
pub passed_on : {T : Type 0} (r : Result T Stop) (P : Stop → Type 0) → IsErrAnd r (λ e. e ≡ stop.NoMemory) → P stop.NoMemory → IfErr r P
passed_on (Ok x) P h p = tt
passed_on (Err e) P h p = subst P (sym h) p

pub if_err_both : {T E : Type 0} (r : Result T E) (P Q S : E → Type 0) → ((x : E) → P x → Q x → S x) → IfErr r P → IfErr r Q → IfErr r S
if_err_both (Ok x) P Q S f h k = tt
if_err_both (Err e) P Q S f h k = f e h k

-- a command of another kind
pub never : (kind : Type 0) → (kind → ⊥) → (told : Told) → IsOnce kind told 0
never kind other Quiet = refl
never kind other Accepted = inr (other, refl)
never kind other Refused = refl

pub once_accepted : (kind : Type 0) → kind → (told : Told) → told ≡ Accepted → IsOnce kind told 1
once_accepted kind is told accepted = subst (λ (t : Told). IsOnce kind t 1) (sym accepted) (inl (is, refl))

pub refused_never : (kind : Type 0) (told : Told) → told ≡ Refused → IsOnce kind told 0
refused_never kind told refused = subst (λ (t : Told). IsOnce kind t 0) (sym refused) refl

not_one : {P : Type 0} → ◌≡◌ {A = ℕ} 0 1 → P
not_one is = let bad : ⊥ = cc is in absurd bad

pub no_shelf : {P : Type 0} → stop.NoMemory ≡ stop.ShelfFault → P
no_shelf is = let bad : ⊥ = cc is in absurd bad

pub no_sink : stop.NoMemory ≡ stop.OutFault → ⊥
no_sink is = cc is

-- ---- a change that drops no node
-- the store got nodes, tables were computed, and this many queries were registered
pub record Changes (asks : Bool) (count : ℕ) (old new : CommandState) : Type 0 where
  pub session : IsConsistent new.session
  pub grows : Grows old.session.store new.session.store old.pairs new.pairs
  pub placed : PlacesOfBoth asks count 0 (length new.session.store) (tables_of old.session.book) (tables_of new.session.book) old.places new.places
  pub part : PlacesPartOfBoth asks (length old.session.store) (length new.session.store) (tables_of old.session.book) old.places new.places

module _ {asks : Bool} {count : ℕ} (old new : CommandState) (meaning : Option Command) (c : Changes asks count old new) (asked : asks ≡ true → Of (AsksForCounts (world_at old)) meaning) where
  pub bounded : ((a : Allowance) × ((a ≡ no_steps) ⊎ IsAllowance (world_at old) meaning a) × IsPaid a (counters_at old) (counters_at new)) → old.faults ≤ new.faults → IsBounded meaning (line_state old) (line_state new)
  bounded begun later = record {
    nodes = inl (Grows-length _ _ _ _ c.grows);
    pairs = Grows-pairs _ _ _ _ c.grows;
    calls = omega (arith, c.grows.paid);
    begun = begun;
    counts = asks;
    asked = asked;
    placed = c.part;
    faults = later;
  }

  pub tallied : (told : Told) → IsOnce (Of Registers meaning) told count → IsOnce (Of Compacts meaning) told 0
      → Tallies (Of Registers meaning) (Of Compacts meaning) (Of (AsksForCounts (world_at old)) meaning) told (line_state old) (line_state new)
  tallied told registered kept = record {
    queries = count;
    registered = registered;
    compactions = 0;
    compacted = kept;
    dropped = 0;
    none_dropped = λ _. refl;
    reached = not_one;
    kept = not_one;
    nodes = omega (arith, Grows-length _ _ _ _ c.grows);
    pairs = omega (arith, Grows-pairs _ _ _ _ c.grows);
    counts = asks;
    asked = asked;
    placed = c.placed;
  }

module _ {asks : Bool} {count : ℕ} (old new : CommandState) (command : Command) (c : Changes asks count old new) (asked : asks ≡ true → AsksForCounts (world_at old) command) where
  pub keeps : PaysForPart (world_at old) command (counters_at old) (counters_at new) → old.faults ≤ new.faults → KeepsInvariant old command new
  keeps begun later = record { session = c.session; bounded = bounded old new (Some command) c asked begun later }

  pub answers : (number : ℕ) (answer : Answer) → IsOnce (Registers command) answer.told count → IsOnce (Compacts command) answer.told 0 → PaysFor (world_at old) command (counters_at old) (counters_at new)
      → new.faults ≡ old.faults → Carries (world_at old) number command answer.told answer.line.items (world_at new) → Answers old number command new answer
  answers number answer registered kept paid sound carries = record {
    goes = keeps (part_of_paid (world_at old) command (counters_at old) (counters_at new) paid) (omega (arith, sound));
    sound = sound;
    carries = carries;
    paid = paid;
    tallies = tallied old new (Some command) c asked answer.told registered kept;
  }

-- tables were computed, the store got nodes, and documents or versions were replaced
pub moves : (asked : Bool) (old new : CommandState) → Grows old.session.store new.session.store old.pairs new.pairs → AreLive new.session.store new.session.docs → AreKept new.session.store new.session.versions
    → GrowsTables asked old.session.store old.session.book new.session.book old.places new.places → Changes asked 0 old new
moves asked old new grows live kept grown =
    let all = grown_placed asked old.session.store old.session.book new.session.book old.places new.places grown in
    let part = grown_placed_part asked old.session.store old.session.book new.session.book old.places new.places grown in
    let longer = Grows-length _ _ _ _ grows in
    record {
      session = record { live = live; kept = kept; serves = serves-grows _ _ _ _ new.session.book grows grown.serves };
      grows = grows;
      placed = record { between = all.between; tables = λ n le. all.tables n (omega (arith, le, longer)); counting = λ n le. all.counting n (omega (arith, le, longer)); unasked = all.unasked };
      part = record { between = part.between; tables = λ n few le. part.tables n few few; counting = λ n few le. part.counting n few few; unasked = part.unasked };
    }

-- only documents or versions were replaced
pub still : (h : SessionState) (docs : List Doc) (versions : Named (List Doc)) (files after : Option Files) (faults more looks pairs places : ℕ) → IsConsistent h → AreLive h.store docs → AreKept h.store versions
    → Changes false 0 (at h files faults looks pairs places) (at (record h { docs = docs; versions = versions }) after more looks pairs places)
still h docs versions files after faults more looks pairs places is live kept = moves false _ _ (Grows-none h.store pairs pairs (omega arith)) live kept (none_grown h.store h.book places is.serves)

pub free_answers : (h : SessionState) (docs : List Doc) (versions : Named (List Doc)) (number : ℕ) (command : Command) (answer : Answer) (files after : Option Files) (faults more looks pairs places : ℕ) → IsConsistent h → AreLive h.store docs → AreKept h.store versions
    → (Registers command → ⊥) → (Compacts command → ⊥) → IsAllowed (world (state_of h) files) command no_steps → more ≡ faults
    → Carries (world (state_of h) files) number command answer.told answer.line.items (world (state_of (record h { docs = docs; versions = versions })) after)
    → Answers (at h files faults looks pairs places) number command (at (record h { docs = docs; versions = versions }) after more looks pairs places) answer
free_answers h docs versions number command answer files after faults more looks pairs places is live kept other keeps free =
    answers _ _ command (still h docs versions files after faults more looks pairs places is live kept) not_asked number answer (never _ other answer.told) (never _ keeps answer.told) (no_steps, free, none_paid looks pairs pairs refl)

-- nothing was changed
pub stays_so : (h : SessionState) (number : ℕ) (command : Command) (files after : Option Files) (faults more looks pairs places : ℕ) (why : Stop) → IsConsistent h → after ≡ files → faults ≤ more
    → (why ≡ stop.ShelfFault → IsOfFile command × HasIncreased faults more) → (why ≡ stop.OutFault → ⊥) → Stays (at h files faults looks pairs places) number command (at h after more looks pairs places) why
stays_so h number command files after faults more looks pairs places why is same later shelf sink = record {
  goes = keeps _ _ command (still h h.docs h.versions files after faults more looks pairs places is is.live is.kept) not_asked (not_begun (world (state_of h) files) command looks pairs) later;
  world = inl (same_world refl same);
  shelf = shelf;
  sink = sink;
}

pub stays : (h : SessionState) (number : ℕ) (command : Command) (files : Option Files) (faults looks pairs places : ℕ) → IsConsistent h
    → Stays (at h files faults looks pairs places) number command (at h files faults looks pairs places) stop.NoMemory
stays h number command files faults looks pairs places is = stays_so h number command files files faults faults looks pairs places stop.NoMemory is refl (omega arith) no_shelf no_sink

pub stays_freely : (h : SessionState) (number : ℕ) (command : Command) (r : Result Answer Stop) → IsConsistent h → IsErrAnd r (λ e. e ≡ stop.NoMemory) → StaysFreely h number command h r
stays_freely h number command r is stopped = λ files faults looks pairs places. passed_on r _ stopped (stays h number command files faults looks pairs places is)

-- ---- tables, nodes and documents, with the same queries and versions
pub moved_state : (asked : Bool) (h : SessionState) (store : List Node) (docs : List Doc) (book : Book) (p q r s : ℕ) → IsConsistent h → Grows h.store store p q → GrowsTables asked h.store h.book book r s
    → state_of (record h { store = store; docs = docs; book = book }) ≡ with_documents (state_of h) (plain store docs)
moved_state asked h store docs book p q r s is grows grown =
    let versions = plain_versions-grows h.store store p q grows h.versions is.kept in
    λ i. record { most_states = grown.states i; documents = plain store docs; queries = grown.queries i; versions = versions i }

module _ (asked : Bool) (h : SessionState) (store : List Node) (docs : List Doc) (book : Book) (number : ℕ) (command : Command) (files after : Option Files) (faults more looks further p q r s : ℕ)
    (is : IsConsistent h) (grows : Grows h.store store p q) (live : AreLive store docs) (grown : GrowsTables asked h.store h.book book r s) (asks : asked ≡ true → AsksForCounts (world (state_of h) files) command) where
  changes : Changes asked 0 (at h files faults looks p r) (at (record h { store = store; docs = docs; book = book }) after more further q s)
  changes = moves asked _ _ grows live (AreKept-grows h.store store p q grows h.versions is.kept) grown

  pub moved_answers : (answer : Answer) → (Registers command → ⊥) → (Compacts command → ⊥) → PaysFor (world (state_of h) files) command (counters looks p) (counters further q) → after ≡ files → more ≡ faults
      → Carries (world (state_of h) files) number command answer.told answer.line.items (world (with_documents (state_of h) (plain store docs)) files)
      → Answers (at h files faults looks p r) number command (at (record h { store = store; docs = docs; book = book }) after more further q s) answer
  moved_answers answer other kept paid same sound carries =
      let now = same_world (moved_state asked h store docs book p q r s is grows grown) same in
      answers _ _ command changes asks number answer (never _ other answer.told) (never _ kept answer.told) paid sound (subst (Carries (world (state_of h) files) number command answer.told answer.line.items) (sym now) carries)

  pub moved_stays : (why : Stop) → plain store docs ≡ plain h.store h.docs → PaysForPart (world (state_of h) files) command (counters looks p) (counters further q) → after ≡ files → faults ≤ more
      → (why ≡ stop.ShelfFault → IsOfFile command × HasIncreased faults more) → (why ≡ stop.OutFault → ⊥)
      → Stays (at h files faults looks p r) number command (at (record h { store = store; docs = docs; book = book }) after more further q s) why
  moved_stays why texts begun same later shelf sink = record {
    goes = keeps _ _ command changes asks begun later;
    world = inl (same_world (moved_state asked h store docs book p q r s is grows grown ∙ ap (with_documents (state_of h)) texts) same);
    shelf = shelf;
    sink = sink;
  }

  pub moved_stops : plain store docs ≡ plain h.store h.docs → PaysForPart (world (state_of h) files) command (counters looks p) (counters further q) → after ≡ files → faults ≤ more
      → Stays (at h files faults looks p r) number command (at (record h { store = store; docs = docs; book = book }) after more further q s) stop.NoMemory
  moved_stops texts begun same later = moved_stays stop.NoMemory texts begun same later no_shelf no_sink

-- only tables were computed
module _ (asked : Bool) (h : SessionState) (book : Book) (number : ℕ) (command : Command) (files : Option Files) (faults looks further pairs r s : ℕ) (is : IsConsistent h) (grown : GrowsTables asked h.store h.book book r s)
    (asks : asked ≡ true → AsksForCounts (world (state_of h) files) command) where
  pub placed_answers : (answer : Answer) → (Registers command → ⊥) → (Compacts command → ⊥) → PaysFor (world (state_of h) files) command (counters looks pairs) (counters further pairs)
      → Carries (world (state_of h) files) number command answer.told answer.line.items (world (state_of h) files)
      → Answers (at h files faults looks pairs r) number command (at (record h { book = book }) files faults further pairs s) answer
  placed_answers answer other kept paid =
      moved_answers asked h h.store h.docs book number command files files faults faults looks further pairs pairs r s is (Grows-none h.store pairs pairs (omega arith)) is.live grown asks answer other kept paid refl refl

  pub placed_stops : PaysForPart (world (state_of h) files) command (counters looks pairs) (counters further pairs) → Stays (at h files faults looks pairs r) number command (at (record h { book = book }) files faults further pairs s) stop.NoMemory
  placed_stops begun =
      moved_stops asked h h.store h.docs book number command files files faults faults looks further pairs pairs r s is (Grows-none h.store pairs pairs (omega arith)) is.live grown asks refl begun refl (omega arith)

-- ---- only the queries were replaced
module _ (h : SessionState) (book : Book) (number : ℕ) (command : Command) (files : Option Files) (faults looks pairs places count : ℕ) (is : IsConsistent h) (serves : Serves h.store book)
    (placed : PlacesOfBoth false count 0 (length h.store) (tables_of h.book) (tables_of book) places places) where
  booked : Changes false count (at h files faults looks pairs places) (at (record h { book = book }) files faults looks pairs places)
  booked = record {
    session = record { live = is.live; kept = is.kept; serves = serves };
    grows = Grows-none h.store pairs pairs (omega arith);
    placed = placed;
    part = none_placed_part (length h.store) (length h.store) (tables_of h.book) places (tables-within h.store h.book is.serves);
  }

  pub booked_answers : (answer : Answer) → book.states ≡ h.book.states → IsAllowed (world (state_of h) files) command no_steps → IsOnce (Registers command) answer.told count → IsOnce (Compacts command) answer.told 0
      → Carries (world (state_of h) files) number command answer.told answer.line.items (world (with_queries (state_of h) (queries_of book)) files)
      → Answers (at h files faults looks pairs places) number command (at (record h { book = book }) files faults looks pairs places) answer
  booked_answers answer states free registered kept carries =
      answers _ _ command booked not_asked number answer registered kept (no_steps, free, none_paid looks pairs pairs refl) refl
      (subst (λ (n : ℕ). Carries (world (state_of h) files) number command answer.told answer.line.items (world (record (with_queries (state_of h) (queries_of book)) { most_states = n }) files)) (sym states) carries)

  pub booked_stops : (IsOfFile command → ⊥) × ((told : Told) × (reply : List ℕ) × Carries (world (state_of h) files) number command told reply (world (state_of (record h { book = book })) files))
      → Stays (at h files faults looks pairs places) number command (at (record h { book = book }) files faults looks pairs places) stop.NoMemory
  booked_stops done = record {
    goes = keeps _ _ command booked not_asked (not_begun (world (state_of h) files) command looks pairs) (omega arith);
    world = inr done;
    shelf = no_shelf;
    sink = no_sink;
  }
