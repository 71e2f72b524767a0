-- The effect of listing the answers of a query.
use Rattle.query_commands.proofs.Names.{Accepted, After, answer_limit, answers_steps, ap, AreAnswersOf, arith, AsksForCounts, At, Begins, Book, both_grown, counters}
use Rattle.query_commands.proofs.Names.{drop, Err, false, Files, First, first_page_text, GrowsCounts, GrowsFor, GrowsTables, HasList, IfOk, inl, inr, IsAfter}
use Rattle.query_commands.proofs.Names.{IsAnswersOf, IsAsked, IsConsistent, IsDocument, IsErrAnd, IsListReply, IsOver, IsPageFrom, IsRefused, IsRejectedFreely}
use Rattle.query_commands.proofs.Names.{IsRestFrom, IsUnasked, length, List, Listing, ListStart, looks_limit, MatchResult, more_answers, names_of, nat_lt, no_steps, Node}
use Rattle.query_commands.proofs.Names.{NodeId, NoMemory, None, not_asked, Ok, Option, queries_of, Query, refl, Refusal, refusal_text, Refused, Result, rules, Sends}
use Rattle.query_commands.proofs.Names.{SessionState, Some, some_value, Starts, state_of, Stop, subst, sym, take, Told, true, Tuple, TupleText, value_of, World, world, ℕ}
use Rattle.query_commands.proofs.Names.{◌*◌, ◌+◌, ◌-◌, ◌∙◌, ◌≡◌, ◌≤◌}
use Rattle.script_syntax.specs.declared.form.Command.TheVariants as form
use Rattle.span_language.specs.Counts.{IsNumbered}

-- ---- the iterator at the start of a listing
-- a call that propagates an error returns no value
pub no_value : {T E : Type 0} (r : Result T E) (P : T → Type 0) (Q : E → Type 0) → IsErrAnd r Q → IfOk r P
no_value (Ok x) P Q h = absurd h
no_value (Err e) P Q h = tt

module _ {q : Query} {text : List ℕ} {asked : ListStart} {result : Result (Result Listing Refusal) NoMemory} {before after : ℕ} where
  pub begins_after : (word : List ℕ) (tuple : Tuple) (names : List (List ℕ)) → asked ≡ After word → names ≡ names_of q → TupleText word names tuple → (l : HasList text (Some tuple) q) → IfOk result (λ found. MatchResult found (IsOver q text l.all l.rest) (λ _. ⊥))
      → after ≤ before + 2 * answer_limit q text → Begins q text asked result before after
  begins_after word tuple names is same named l found paid =
      let written : TupleText word (names_of q) tuple = subst (λ (ns : List (List ℕ)). TupleText word ns tuple) same named in
      rw is (inl (record { all = l.all; rest = l.rest; answers = l.answers; from = (tuple, written, l.after); found = found; cost = omega (arith, paid) }))

  pub begins_at : (m : ℕ) (all : List Tuple) → asked ≡ At m → IsAnswersOf q text all → IfOk result (λ found. MatchResult found (IsOver q text all (drop (m - 1) all)) (λ _. ⊥))
      → after ≤ before + 3 * answer_limit q text → Begins q text asked result before after
  begins_at m all is answers found paid = rw is (inl (record { all = all; rest = drop (m - 1) all; answers = answers; from = refl; found = found; cost = omega (arith, paid) }))

-- ---- the page
-- the first of the answers from a start on are the page
page_from : (q : Query) (text : List ℕ) (start : ListStart) (n : ℕ) (all rest : List Tuple) → IsAnswersOf q text all → IsRestFrom q start all rest → IsPageFrom q text start n (take n rest) (nat_lt n (length rest))
page_from q text First n all rest answers after = record { all = all; answers = answers; is = record { rest = rest; after = after; first = refl; more_left = refl } }
page_from q text (After word) n all rest answers (cursor, written, after) =
    (cursor, written, record { all = all; answers = answers; is = record { rest = rest; after = after; first = refl; more_left = refl } })
page_from q text (At m) n all rest answers is = record { all = all; answers = answers; first = ap (take n) is; more_left = ap (λ (r : List Tuple). nat_lt n (length r)) is }

module _ {w : World} {query name text : List ℕ} {q : Query} (asked : IsAsked w query name q text) (Writes : List ℕ → Type 0) (number : ℕ) (start : ListStart) (n before mid after pairs : ℕ) (r : Result Told Stop) where
  lists : (result : Result (Result Listing Refusal) NoMemory) (s : Starts q text start result before mid) → Writes (first_page_text (names_of q) n s.rest) → after ≤ before + (length (take n s.rest) + more_answers start) * answer_limit q text
      → IfOk r (λ t. t ≡ Accepted) → Sends w number (form.List query name start n) Writes r (counters before pairs) (counters after pairs)
  lists result s writes paid accepted =
      let reply = first_page_text (names_of q) n s.rest in
      let listed : IsListReply q text start n reply = record { page = take n s.rest; more = nat_lt n (length s.rest); page_is = page_from q text start n s.all s.rest s.answers s.from; reply_is = refl } in
      record {
        told = Accepted;
        reply = reply;
        told_is = accepted;
        carries = (q, text, asked, listed, refl);
        paid = (answers_steps (length (take n s.rest) + more_answers start) q text, inr (q, text, reply, asked, listed, refl), record { looks = paid; pairs = omega arith });
        writes = writes;
      }

  -- a part of the page was written
  pub sends_page : (listing : Listing) (names : List (List ℕ)) → Begins q text start (Ok (Ok listing)) before mid → names ≡ names_of q
      → ((all rest : List Tuple) → AreAnswersOf listing.automaton listing.text all → IsAfter all listing.after rest
      → Writes (first_page_text names n rest) × (after ≤ mid + (length (take n rest) + 1) * looks_limit listing.automaton.variables (length listing.text)))
      → IfOk r (λ t. t ≡ Accepted) → Sends w number (form.List query name start n) Writes r (counters before pairs) (counters after pairs)
  sends_page listing names (inr (why, refused, is, same)) names_are written accepted = let bad : ⊥ = cc is in absurd bad
  sends_page listing names (inl s) names_are written accepted =
      let over = s.found in
      let is = over.iterator in
      let here : AreAnswersOf listing.automaton text s.all =
      record { rising = s.answers.rising; members = λ t. (λ m. (is.members t).0 ((s.answers.members t).0 m), λ m. (s.answers.members t).1 ((is.members t).1 m)) } in
      let are : AreAnswersOf listing.automaton listing.text s.all = rw is.text here in
      let rest : IsAfter s.all listing.after s.rest = rw is.after over.after in
      let page = written s.all s.rest are rest in
      let wrote : Writes (first_page_text (names_of q) n s.rest) = subst (λ (ns : List (List ℕ)). Writes (first_page_text ns n s.rest)) names_are page.0 in
      let each : looks_limit listing.automaton.variables (length listing.text) ≡ answer_limit q text =
      ap (λ (k : ℕ). looks_limit k (length listing.text)) is.defines.variables ∙ ap (λ (u : List ℕ). looks_limit (length (names_of q)) (length u)) is.text in
      let paid : after ≤ mid + (length (take n s.rest) + 1) * answer_limit q text = subst (λ (b : ℕ). after ≤ mid + (length (take n s.rest) + 1) * b) each page.1 in
      lists (Ok (Ok listing)) s wrote (omega (arith, s.cost, paid)) accepted

  -- nothing of the page was written
  pub sends_none : (e : NoMemory) → mid ≡ after → Begins q text start (Err e) before mid → ((reply : List ℕ) → Writes reply) → IfOk r (λ t. t ≡ Accepted) → Sends w number (form.List query name start n) Writes r (counters before pairs) (counters after pairs)
  sends_none e same (inr (why, refused, is, kept)) writes accepted = let bad : ⊥ = cc is in absurd bad
  sends_none e same (inl s) writes accepted = lists (Err e) s (writes (first_page_text (names_of q) n s.rest)) (omega (arith, s.cost, same)) accepted

  -- the start was rejected
  pub sends_refused : (why : Refusal) → mid ≡ after → Begins q text start (Ok (Err why)) before mid → Writes (refusal_text number why) → IfOk r (λ t. t ≡ Refused) → Sends w number (form.List query name start n) Writes r (counters before pairs) (counters after pairs)
  sends_refused why same (inl s) writes refused = absurd s.found
  sends_refused why same (inr (other, not_read, is, kept)) writes refused =
      let told : why ≡ other = cc is in
      let no : IsRefused w (form.List query name start n) why = inr (q, text, asked, rw told not_read) in
      record {
        told = Refused;
        reply = refusal_text number why;
        told_is = refused;
        carries = (why, no, refl, refl);
        paid = (no_steps, inl (why, no, refl), record { looks = omega (arith, same, kept); pairs = omega arith });
        writes = writes;
      }

pub over_count : (q : Query) (text : List ℕ) (start : ListStart) (before mid : ℕ) (listing : Listing) (names : List (List ℕ)) → Begins q text start (Ok (Ok listing)) before mid → names ≡ names_of q → length names ≡ listing.automaton.variables
over_count q text start before mid listing names (inl s) same = ap length same ∙ sym s.found.iterator.defines.variables
over_count q text start before mid listing names (inr (why, refused, is, kept)) same = let bad : ⊥ = cc is in absurd bad

-- ---- the line
-- the document doesn't exist, or the query doesn't
pub list_rejected : (h : SessionState) (files : Option Files) (query name : List ℕ) (start : ListStart) (n : ℕ) (why : Refusal) → IsConsistent h → IsUnasked (world (state_of h) files) query name why → IsRejectedFreely h files (form.List query name start n) why
list_rejected h files query name start n why is refused = record { session = is; refused = inl refused; free = inl (why, inl refused, refl) }

-- it asks for counting tables
pub list_asks : (h : SessionState) {name : List ℕ} {root : Option NodeId} (d : IsDocument h.store h.docs name root) (files : Option Files) (n : ℕ) {start : ListStart} {query : List ℕ} {ns : List Node} {new : Book} {p q : ℕ} (growth : GrowsFor start query ns h.book new p q)
    → growth.asked ≡ true → AsksForCounts (world (state_of h) files) (form.List query name start n)
list_asks h d files n growth is = let q = some_value _ (growth.there is) in (growth.numbered is, (q.0, _, record { document = d.text; registered = q.1 }))

-- the tables that it needs, if it starts at the answer with a number
pub grows_numbered : (start : ListStart) (name : List ℕ) (ns : List Node) (old mid new : Book) (p q r : ℕ) → GrowsTables false ns old mid p q → GrowsCounts ns mid new q r → IsNumbered start → (value_of (queries_of mid) name ≡ None → (new ≡ mid) × (r ≡ q))
    → GrowsFor start name ns old new p r
grows_numbered start name ns old mid new p q r first next numbered missing = by (value_of (queries_of old) name) refl
  where
    by : (o : Option Query) → value_of (queries_of old) name ≡ o → GrowsFor start name ns old new p r
    by None is = record {
      asked = false;
      grown = both_grown false ns old mid new p q r first next (λ _. (missing (rw first.queries is)).1);
      numbered = not_asked;
      there = not_asked;
    }
    by (Some x) is = record {
      asked = true;
      grown = both_grown true ns old mid new p q r first next (λ no. let bad : ⊥ = cc no in absurd bad);
      numbered = λ _. numbered;
      there = λ _. rw is (search rules);
    }
