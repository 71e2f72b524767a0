-- The replies to questions about a document's text, and their costs.
use Rattle.query_commands.proofs.Names.{Accepted, Answer, answer_limit, Answers, answers_steps, ap, arith, AsksForCounts, at, Book, Carries, Command, Compacts, counters}
use Rattle.query_commands.proofs.Names.{counts_grown, false, Files, GrowsCounts, GrowsTables, IfErr, IfNamed, inl, inr, IsAsked, IsConsistent, IsDocument, IsErrAnd}
use Rattle.query_commands.proofs.Names.{IsFound, IsNamed, IsNumberOf, IsNumberResult, IsRankOf, IsRejectedFreely, IsReplied, IsReplyOf, IsReplyPaid, IsSaturated}
use Rattle.query_commands.proofs.Names.{IsUnasked, IsUnaskedOf, List, most_answers, most_looks, Named, names_of, no_steps, Node, NodeId, None, none_paid, not_asked}
use Rattle.query_commands.proofs.Names.{not_begun, number_text, Option, part_of_paid, PaysFor, placed_answers, placed_stops, queries_of, Query, question_of, Quiet, refl}
use Rattle.query_commands.proofs.Names.{Refusal, Refused, Registers, Result, SessionState, Some, state_of, Stays, Stop, subst, text_of, Told, TooManyAnswers, true, Tuple}
use Rattle.query_commands.proofs.Names.{TupleText, value_of, World, world, ℕ, ◌+◌, ◌<◌, ◌∙◌, ◌≡◌, ◌≤◌}
use Rattle.script_syntax.specs.declared.form.Command.TheVariants as form
use Rattle.span_language.specs.declared.told.Stop.TheVariants as stop
use Rattle.query_book.specs.declared.refusal.BookRefusal.{BookRefusal}
use Rattle.query_book.specs.declared.refusal.BookRefusal.TheVariants.{NoSuchQuery}
use Rattle.std.specs.Prelude.{IsErrOf, ◌↔◌}
use Rattle.span_language.specs.Allowance.{PaysForPart}
use Rattle.session_state.proofs.CommandLemmas.{passed_on}

-- a number as it is kept, in a reply
pub told_of : {P : ℕ → Type 0} (number kept : ℕ) (told : Told) (reply : List ℕ) → IsSaturated P kept → IsNumberResult number kept told reply → IsReplyOf P number told reply
told_of number kept Quiet reply h t = absurd t
told_of number kept Accepted reply h (few, is) =
    let same : kept ≡ h.number = omega (arith, few, h.value) in
    (h.number, h.holds, (subst (λ (n : ℕ). n ≤ most_answers) same few, is ∙ ap number_text same))
told_of number kept Refused reply h (many, is) =
    let more : most_answers < h.number = omega (arith, many, h.value) in
    (h.number, TooManyAnswers, h.holds, (more, refl), is)

-- what holds of the query with the name
pub named_is : {queries : Named Query} {name : List ℕ} {P : Query → Type 0} (named : IsNamed queries name P) (q : Query) → value_of queries name ≡ Some q → q ≡ named.query
named_is named q is = cc (is, named.there)

-- ---- the effect of a question
module _ {w : World} {query name text : List ℕ} {q : Query} (number : ℕ) (asked : IsAsked w query name q text) where
  pub count_carries : (told : Told) (reply : List ℕ) → IsReplyOf (IsNumberOf q text) number told reply → Carries w number (form.Count query name) told reply w
  count_carries Quiet reply h = absurd h
  count_carries Accepted reply (n, is, replied) = (q, text, n, asked, is, replied, refl)
  count_carries Refused reply (n, why, is, many, written) = (why, inr (q, text, n, asked, is, many), written, refl)

  pub rank_carries : (word : List ℕ) (tuple : Tuple) (told : Told) (reply : List ℕ) → TupleText word (names_of q) tuple → IsReplyOf (IsRankOf q text tuple) number told reply → Carries w number (form.Rank query name word) told reply w
  rank_carries word tuple Quiet reply written h = absurd h
  rank_carries word tuple Accepted reply written (n, is, replied) = (q, text, tuple, n, asked, written, is, replied, refl)
  rank_carries word tuple Refused reply written (n, why, is, many, line) = (why, inr (q, text, tuple, n, asked, written, is, many), line, refl)

  pub asked_carries : (word : Option (List ℕ)) (told : Told) (reply : List ℕ) → IsReplied number q word text told reply → Carries w number (question_of query name word) told reply w
  asked_carries None told reply (accepted, answer) = rw accepted (q, text, asked, answer, refl)
  asked_carries (Some word) Quiet reply h = absurd h
  asked_carries (Some word) Accepted reply (tuple, is, answer) = (q, text, tuple, asked, is, answer, refl)
  asked_carries (Some word) Refused reply (why, not_read, written) = (why, inr (q, text, asked, not_read), written, refl)

-- ---- and its cost
module _ {w : World} {query name text : List ℕ} {q : Query} (asked : IsAsked w query name q text) (looks more pairs : ℕ) where
  pub rank_paid : (word : List ℕ) (tuple : Tuple) → TupleText word (names_of q) tuple → more ≤ looks + answer_limit q text → PaysFor w (form.Rank query name word) (counters looks pairs) (counters more pairs)
  rank_paid word tuple written paid = (answers_steps 1 q text, inr (q, text, tuple, asked, written, refl), record { looks = omega (arith, paid); pairs = omega arith })

  pub asked_paid : (word : Option (List ℕ)) → IsReplyPaid q word text looks more → PaysFor w (question_of query name word) (counters looks pairs) (counters more pairs)
  asked_paid None paid = (answers_steps 1 q text, inr (q, text, asked, refl), record { looks = omega (arith, paid); pairs = omega arith })
  asked_paid (Some word) (inl (tuple, is, paid)) = (answers_steps 1 q text, inr (q, text, tuple, asked, is, refl), record { looks = omega (arith, paid); pairs = omega arith })
  asked_paid (Some word) (inr (why, not_read, same)) = (no_steps, inl (why, inr (q, text, asked, not_read), refl), record { looks = omega (arith, same); pairs = omega arith })

-- a question that is rejected
pub asked_rejected : (h : SessionState) (files : Option Files) (query name : List ℕ) (word : Option (List ℕ)) (why : Refusal) → IsConsistent h → IsUnasked (world (state_of h) files) query name why
    → IsRejectedFreely h files (question_of query name word) why
asked_rejected h files query name None why is refused = record { session = is; refused = refused; free = inl (why, refused, refl) }
asked_rejected h files query name (Some word) why is refused = record { session = is; refused = inl refused; free = inl (why, inl refused, refl) }

-- ---- a question about numbers, after counting tables were computed
-- counting tables that a command asked for
counts_asked : {ns : List Node} {old new : Book} {p q : ℕ} → GrowsCounts ns old new p q → GrowsTables true ns old new p q
counts_asked grown = counts_grown true _ _ _ _ _ grown (λ no. let bad : ⊥ = cc no in absurd bad)

-- `count`: an allocation failed, for the tables or for the reply
pub count_stopped : {h : SessionState} {book : Book} (query : List ℕ) {name : List ℕ} {root : Option NodeId} {p q : ℕ} (is : IsConsistent h) (d : IsDocument h.store h.docs name root) (grown : GrowsCounts h.store h.book book p q)
    → (value_of (queries_of h.book) query ≡ None → (book ≡ h.book) × (q ≡ p)) → (number : ℕ) (files : Option Files) (faults looks pairs : ℕ) (r : Result Answer Stop) → IsErrAnd r (λ e. e ≡ stop.NoMemory)
    → IfErr r (Stays (at h files faults looks pairs p) number (form.Count query name) (at (record h { book = book }) files faults looks pairs q))
count_stopped {h} {book} query {name} {root} {p} {q} is d grown missing number files faults looks pairs r stopped = passed_on r _ stopped (by (value_of (queries_of h.book) query) refl)
  where
    begun : PaysForPart (world (state_of h) files) (form.Count query name) (counters looks pairs) (counters looks pairs)
    begun = not_begun (world (state_of h) files) (form.Count query name) looks pairs

    by : (o : Option Query) → value_of (queries_of h.book) query ≡ o → Stays (at h files faults looks pairs p) number (form.Count query name) (at (record h { book = book }) files faults looks pairs q) stop.NoMemory
    by None none = placed_stops false h book number (form.Count query name) files faults looks looks pairs p q is (counts_grown false _ _ _ _ _ grown (λ _. (missing none).1)) not_asked begun
    by (Some t) there = placed_stops true h book number (form.Count query name) files faults looks looks pairs p q is (counts_asked grown) (λ _. (t, text_of h.store root, record { document = d.text; registered = there })) begun

pub count_answers : {h : SessionState} {book : Book} {query name : List ℕ} {root : Option NodeId} {p q : ℕ} (is : IsConsistent h) (d : IsDocument h.store h.docs name root) (grown : GrowsCounts h.store h.book book p q) (number : ℕ) (files : Option Files) (faults looks pairs : ℕ)
    (answer : Answer) (bytes : List ℕ) (kept : ℕ) → bytes ≡ query → IsNamed (queries_of book) bytes (λ q. IsSaturated (IsNumberOf q (text_of h.store root)) kept) → IsNumberResult number kept answer.told answer.line.items
    → Answers (at h files faults looks pairs p) number (form.Count query name) (at (record h { book = book }) files faults looks pairs q) answer
count_answers {h} {book} {query} {name} {root} {p} {q} is d grown number files faults looks pairs answer bytes kept same counted told =
    let here : IsAsked (world (state_of h) files) query name counted.query (text_of h.store root) = record { document = d.text; registered = rw (grown.queries, same) at counted.there } in
    placed_answers true h book number (form.Count query name) files faults looks looks pairs p q is (counts_asked grown) (λ _. (counted.query, text_of h.store root, here)) answer (λ no. no) (λ no. no)
    (no_steps, refl, none_paid looks pairs pairs refl) (count_carries number here answer.told answer.line.items (told_of number kept answer.told answer.line.items counted.holds told))

module _ {h : SessionState} {book : Book} {query name : List ℕ} {root : Option NodeId} {names : List (List ℕ)} {p q : ℕ} (is : IsConsistent h) (f : IsFound h query name root names) (grown : GrowsCounts h.store h.book book p q)
    (number : ℕ) (files : Option Files) (faults looks pairs : ℕ) where
  asked : IsAsked (world (state_of h) files) query name f.tree (text_of h.store root)
  asked = record { document = f.document.text; registered = f.registered }

  module _ {word : List ℕ} {tuple : Tuple} (written : TupleText word names tuple) (more : ℕ) (cost : more ≤ looks + most_looks (value_of (queries_of book) query) (text_of h.store root)) where
    named : TupleText word (names_of f.tree) tuple
    named = rw f.variables written

    paid : PaysFor (world (state_of h) files) (form.Rank query name word) (counters looks pairs) (counters more pairs)
    paid = rank_paid asked looks more pairs word tuple named (rw (grown.queries, f.registered) at cost)

    pub rank_stopped : (r : Result Answer Stop) → IsErrAnd r (λ e. e ≡ stop.NoMemory) → IfErr r (Stays (at h files faults looks pairs p) number (form.Rank query name word) (at (record h { book = book }) files faults more pairs q))
    rank_stopped r stopped =
        let asks : true ≡ true → AsksForCounts (world (state_of h) files) (form.Rank query name word) = λ _. (f.tree, text_of h.store root, tuple, asked, named) in
        passed_on r _ stopped (placed_stops true h book number (form.Rank query name word) files faults looks more pairs p q is (counts_asked grown) asks (part_of_paid (world (state_of h) files) (form.Rank query name word) _ _ paid))

    pub rank_answers : (answer : Answer) → IfNamed (queries_of book) query (λ q. IsReplyOf (IsRankOf q (text_of h.store root) tuple) number answer.told answer.line.items)
        → Answers (at h files faults looks pairs p) number (form.Rank query name word) (at (record h { book = book }) files faults more pairs q) answer
    rank_answers answer replied =
        placed_answers true h book number (form.Rank query name word) files faults looks more pairs p q is (counts_asked grown) (λ _. (f.tree, text_of h.store root, tuple, asked, named)) answer (λ no. no) (λ no. no)
        paid (rank_carries number asked word tuple answer.told answer.line.items named (replied f.tree (rw grown.queries f.registered)))

pub rank_rejected : (h : SessionState) (files : Option Files) (query name word : List ℕ) (why : Refusal) → IsConsistent h → IsUnaskedOf (world (state_of h) files) query name word why → IsRejectedFreely h files (form.Rank query name word) why
rank_rejected h files query name word why is refused = record { session = is; refused = inl refused; free = inl (why, refused, refl) }

-- ---- a command that only reads, after tables were computed
-- the allocation of some tables failed
pub tables_stopped : {h : SessionState} {book : Book} {p q : ℕ} (number : ℕ) (command : Command) (files : Option Files) (faults looks pairs : ℕ) (r : Result Answer Stop) → IsConsistent h → GrowsTables false h.store h.book book p q → IsErrAnd r (λ e. e ≡ stop.NoMemory)
    → IfErr r (Stays (at h files faults looks pairs p) number command (at (record h { book = book }) files faults looks pairs q))
tables_stopped {h} {book} {p} {q} number command files faults looks pairs r is grown stopped =
    passed_on r _ stopped (placed_stops false h book number command files faults looks looks pairs p q is grown not_asked (not_begun (world (state_of h) files) command looks pairs))

-- a question registers nothing and drops no node
pub question_kind : (query name : List ℕ) (word : Option (List ℕ)) → (Registers (question_of query name word) → ⊥) × (Compacts (question_of query name word) → ⊥)
question_kind query name None = ((λ no. no), (λ no. no))
question_kind query name (Some word) = ((λ no. no), (λ no. no))

-- the question was asked in the nodes of the query with its tables
module _ (h : SessionState) (book : Book) (query : List ℕ) {name : List ℕ} {root : Option NodeId} {ns : List Node} {tree : Query} (d : IsDocument h.store h.docs name root) (same : queries_of book ≡ queries_of h.book) (nodes : ns ≡ h.store)
    (registered : value_of (queries_of book) query ≡ Some tree) where
  pub asked_in : (files : Option Files) → IsAsked (world (state_of h) files) query name tree (text_of ns root)
  asked_in files = rw nodes (record { document = d.text; registered = rw same at registered })

  module _ {p q : ℕ} (is : IsConsistent h) (grown : GrowsTables false h.store h.book book p q) (word : Option (List ℕ)) (number : ℕ) (files : Option Files) (faults looks more pairs : ℕ) (cost : IsReplyPaid tree word (text_of ns root) looks more) where
    pub ask_stopped : (r : Result Answer Stop) → IsErrAnd r (λ e. e ≡ stop.NoMemory) → IfErr r (Stays (at h files faults looks pairs p) number (question_of query name word) (at (record h { book = book }) files faults more pairs q))
    ask_stopped r stopped =
        let paid = part_of_paid (world (state_of h) files) (question_of query name word) _ _ (asked_paid (asked_in files) looks more pairs word cost) in
        passed_on r _ stopped (placed_stops false h book number (question_of query name word) files faults looks more pairs p q is grown not_asked paid)

    pub ask_answers : (answer : Answer) → IsReplied number tree word (text_of ns root) answer.told answer.line.items → Answers (at h files faults looks pairs p) number (question_of query name word) (at (record h { book = book }) files faults more pairs q) answer
    ask_answers answer replied =
        let kind = question_kind query name word in
        placed_answers false h book number (question_of query name word) files faults looks more pairs p q is grown not_asked answer kind.0 kind.1 (asked_paid (asked_in files) looks more pairs word cost)
        (asked_carries number (asked_in files) word answer.told answer.line.items replied)

-- ---- a query that doesn't exist
-- then no table is computed
pub nothing_grown : {T : Type 0} {r : Result T BookRefusal} {old new : Book} (name : List ℕ) {p q : ℕ} (sum : Book → ℕ) → (IsErrOf r NoSuchQuery ↔ (value_of (queries_of old) name ≡ None)) → (IsErrOf r NoSuchQuery → new ≡ old) → q + sum old ≡ p + sum new
    → value_of (queries_of old) name ≡ None → (new ≡ old) × (q ≡ p)
nothing_grown name sum missing unchanged steps none = let same = unchanged (missing.1 none) in (same, omega (arith, steps, ap sum same))
