-- The effect of a replacement.
use Rattle.query_commands.proofs.Names.{Answer, Answers, ap, AreLive, AreLive-grows, AreSources, arith, at, Book, Bool, Carries, Chooses, counters, Doc, Documents, Err}
use Rattle.query_commands.proofs.Names.{false, Files, GrowsTables, IfErr, inl, inr, IsConsistent, IsErrAnd, IsRefused, IsReplacing, IsTakenOf, length, List, min}
use Rattle.query_commands.proofs.Names.{most_spans, names_of, no_steps, Node, none_paid, not_asked, Ok, only_documents, Option, part_of_paid, PaysFor, placed_answers}
use Rattle.query_commands.proofs.Names.{placed_stops, plain, plain-grows, put, queries_of, Query, refl, refusal_text, Refused, replace_steps, replaced, ReplaceRefusal}
use Rattle.query_commands.proofs.Names.{Replaces, Result, SessionState, Some, Span, State, state_of, Stays, Stop, text_of, Told, TooLong, TooManyMatches, value_of}
use Rattle.query_commands.proofs.Names.{with_documents, world, ℕ, ◌*◌, ◌+◌, ◌≡◌, ◌≤◌}
use Rattle.slp_model.specs.Nodes.{Grows}
use Rattle.script_syntax.specs.declared.form.Command.TheVariants as form
use Rattle.span_language.specs.declared.told.Stop.TheVariants as stop
use Rattle.span_replace.specs.declared.refusal.ReplaceRefusal.TheVariants as refusal
use Rattle.query_commands.specs.declared.replacement.Sources.{Sources}
use Rattle.report_text.specs.declared.refusal.Refusal.TheVariants.{NotOneVariable}
use Rattle.span_language.specs.Step.{IsUnreplaced}
use Rattle.session_state.proofs.CommandLemmas.{moved_answers, moved_stops, passed_on}

-- documents in a store that got nodes
pub live_grown : (old new : List Node) (p q : ℕ) (ds : List Doc) → Grows old new p q → AreLive old ds → AreLive new ds
live_grown old new p q ds grows live = AreLive-grows old new p q grows ds live

pub plain_grown : (old new : List Node) (p q : ℕ) (ds : List Doc) → Grows old new p q → AreLive old ds → plain new ds ≡ plain old ds
plain_grown old new p q ds grows live = plain-grows old new p q grows ds live

-- the document has the text, or it would be too long
replace_carries : (long : Bool) {st : State} {files : Option Files} (number : ℕ) (name : List ℕ) {query source by : List ℕ} {q : Query} {text other : List ℕ} (spans : List Span) (new : Documents) (told : Told) (reply : List ℕ)
    → IsReplacing (world st files) query source by q text other → IsTakenOf long q text spans → length spans ≤ most_spans → Replaces st.documents number name (replaced text spans other) told reply new
    → Carries (world st files) number (form.ReplaceDoc name query source by long) told reply (world (with_documents st new) files)
replace_carries long {st} {files} number name {query} {source} {by} {q} {text} {other} spans new told reply asked chosen few (inl (short, given, is)) =
    rw given.0 (q, text, other, spans, asked, chosen, few, short, given.1, only_documents st (put st.documents name (replaced text spans other)) new files is)
replace_carries long {st} {files} number name {query} {source} {by} {q} {text} {other} spans new told reply asked chosen few (inr (big, refused, written, is)) =
    rw refused (TooLong (length (replaced text spans other)), inr (q, text, other, spans, asked, chosen, inr (few, big, refl)), written, only_documents st st.documents new files is)

-- ---- the line, after tables were computed
module _ (query : List ℕ) {h : SessionState} {book : Book} {source by : List ℕ} {s : Sources} {p q : ℕ} (is : IsConsistent h) (sources : AreSources h source by s) (grown : GrowsTables false h.store h.book book p q)
    {ns : List Node} (nodes : ns ≡ h.store) {tree : Query} (registered : value_of (queries_of book) query ≡ Some tree) where
  -- the query hasn't exactly one variable
  pub many_answers : (long : Bool) (number : ℕ) (name : List ℕ) (files : Option Files) (faults looks pairs : ℕ) (answer : Answer) → (length (names_of tree) ≡ 1 → ⊥) → answer.told ≡ Refused
      → answer.line.items ≡ refusal_text number (NotOneVariable (length (names_of tree))) → Answers (at h files faults looks pairs p) number (form.ReplaceDoc name query source by long) (at (record h { book = book }) files faults looks pairs q) answer
  many_answers long number name files faults looks pairs answer many told written =
      let no : IsUnreplaced (world (state_of h) files) query source by (NotOneVariable (length (names_of tree))) = inr (inr (inr (_, _, tree, sources.root.text, sources.other.text, rw grown.queries at registered, many, refl))) in
      placed_answers false h book number (form.ReplaceDoc name query source by long) files faults looks looks pairs p q is grown not_asked answer (λ no. no) (λ no. no) (no_steps, inl (_, no, refl), none_paid looks pairs pairs refl) (rw told (_, inl no, written, refl))

  module _ (one : length (names_of tree) ≡ 1) where
    replacing : (files : Option Files) → IsReplacing (world (state_of h) files) query source by tree (text_of h.store s.root) (text_of h.store s.other)
    replacing files = record { document = sources.root.text; put_there = sources.other.text; registered = rw grown.queries at registered; one = one }

    module _ {long : Bool} (number : ℕ) (name : List ℕ) (files : Option Files) (faults : ℕ) {looks more : ℕ} (pairs : ℕ) where
      paid : {result : Result (List Span) ReplaceRefusal} (choice : Chooses long tree (text_of h.store s.root) result looks more) (r : ℕ) → r ≤ pairs + 1770 * (min (length choice.spans) most_spans + 1)
          → PaysFor (world (state_of h) files) (form.ReplaceDoc name query source by long) (counters looks pairs) (counters more r)
      paid choice r paired =
          (replace_steps long (min (length choice.spans) most_spans) (length (text_of h.store s.root)), inr (tree, text_of h.store s.root, text_of h.store s.other, choice.spans, replacing files, choice.chosen, refl), record { looks = choice.cost; pairs = paired })

      -- an allocation failed while the spans were chosen, or for the reply
      pub choose_stopped : {result : Result (List Span) ReplaceRefusal} → Chooses long tree (text_of ns s.root) result looks more → (r : Result Answer Stop) → IsErrAnd r (λ e. e ≡ stop.NoMemory)
          → IfErr r (Stays (at h files faults looks pairs p) number (form.ReplaceDoc name query source by long) (at (record h { book = book }) files faults more pairs q))
      choose_stopped choice r stopped =
          let begun = part_of_paid (world (state_of h) files) (form.ReplaceDoc name query source by long) _ _ (paid (rw nodes at choice) pairs (omega arith)) in
          passed_on r _ stopped (placed_stops false h book number (form.ReplaceDoc name query source by long) files faults looks more pairs p q is grown not_asked begun)

      -- there are too many spans
      pub unchosen_answers : (answer : Answer) → Chooses long tree (text_of ns s.root) (Err refusal.TooManyMatches) looks more → answer.told ≡ Refused → answer.line.items ≡ refusal_text number TooManyMatches
          → Answers (at h files faults looks pairs p) number (form.ReplaceDoc name query source by long) (at (record h { book = book }) files faults more pairs q) answer
      unchosen_answers answer chosen told written =
          let choice = rw nodes at chosen in
          let no : IsRefused (world (state_of h) files) (form.ReplaceDoc name query source by long) TooManyMatches = inr (tree, text_of h.store s.root, text_of h.store s.other, choice.spans, replacing files, choice.chosen, inl (choice.choice, refl)) in
          placed_answers false h book number (form.ReplaceDoc name query source by long) files faults looks more pairs p q is grown not_asked answer (λ no. no) (λ no. no) (paid choice pairs (omega arith)) (rw told (TooManyMatches, no, written, refl))

      -- spans were chosen and replaced
      module _ {spans : List Span} (chosen : Chooses long tree (text_of ns s.root) (Ok spans) looks more) (n : SessionState) (r : ℕ) (others : n ≡ record h { store = n.store; docs = n.docs; book = book }) (grows : Grows h.store n.store pairs r) (live : AreLive n.store n.docs)
          (cost : r ≤ pairs + 1770 * (length spans + 1)) where
        choice : Chooses long tree (text_of h.store s.root) (Ok spans) looks more
        choice = rw nodes at chosen

        all_paid : PaysFor (world (state_of h) files) (form.ReplaceDoc name query source by long) (counters looks pairs) (counters more r)
        all_paid = paid choice r (omega (arith, cost, ap length choice.choice.0, choice.choice.1))

        pub replaced_answers : (answer : Answer) → Replaces (plain h.store h.docs) number name (replaced (text_of h.store s.root) spans (text_of h.store s.other)) answer.told answer.line.items (plain n.store n.docs)
            → Answers (at h files faults looks pairs p) number (form.ReplaceDoc name query source by long) (at n files faults more r q) answer
        replaced_answers answer replaces =
            rw others (moved_answers false h n.store n.docs book number (form.ReplaceDoc name query source by long) files files faults faults looks more pairs r p q is grows live grown not_asked answer (λ no. no) (λ no. no) all_paid refl refl
            (replace_carries long number name choice.spans (plain n.store n.docs) answer.told answer.line.items (replacing files) choice.chosen choice.choice.1 (rw (choice.choice.0) at replaces)))

        pub replaced_stopped : plain n.store n.docs ≡ plain h.store h.docs → (e : Result Answer Stop) → IsErrAnd e (λ e. e ≡ stop.NoMemory)
            → IfErr e (Stays (at h files faults looks pairs p) number (form.ReplaceDoc name query source by long) (at n files faults more r q))
        replaced_stopped same e stopped =
            let begun = part_of_paid (world (state_of h) files) (form.ReplaceDoc name query source by long) _ _ all_paid in
            passed_on e _ stopped (rw others (moved_stops false h n.store n.docs book number (form.ReplaceDoc name query source by long) files files faults faults looks more pairs r p q is grows live grown not_asked same begun refl (omega arith)))
