-- A listing of the answers on every document in progress.
use Rattle.query_commands.proofs.Names.{[], Accepted, after-none, ap, append_assoc, AreAnswered, AreAnswersOf, AreListed, AreLive, arith, at, at_drop_more, Bool, Command}
use Rattle.query_commands.proofs.Names.{counters, DeterministicAutomaton, Doc, doc_line, documents_text, done_line, drop, drop_all, first_page_text, flat_map, get_or}
use Rattle.query_commands.proofs.Names.{HasAnswersIn, IfOk, IsPage, IsPageOf, IsSent, IsUpTo, IsWellFormed, length, List, map, names_of, nat_lt, no_steps, Node, None}
use Rattle.query_commands.proofs.Names.{none_paid, Outlet, Page, page_text, plain, Query, refl, rest_text, Result, Sends, slice_get, Some, Stop, subst, suc, sym, take}
use Rattle.query_commands.proofs.Names.{text_of, Told, Tuple, tuple_line, value_of, World, zero, ℕ, ◌++◌, ◌+◌, ◌<◌, ◌∙◌, ◌∷◌, ◌≡◌, ◌≤◌}
use Rattle.script_syntax.specs.declared.form.Command.TheVariants as form
use Rattle.script_syntax.specs.Syntax.{Reads}
use Rattle.list_all.proofs.PageLemmas.{page_at, page_of, page_sizes}
use Rattle.list_all.specs.Pages.{ArePages}
use Rattle.session_state.proofs.Written.{sent_all}

-- the start, the limit and the list of names of a line are ones that a line can have
pub well_formed : (line : List ℕ) (command : Command) → Reads line command → IsWellFormed command
well_formed line (form.List q n s k) (query, name, start, given, limit, text) = start
well_formed line (form.ListAll q k) (name, None, e, text) = (omega (arith, e), omega (arith, e))
well_formed line (form.ListAll q k) (name, Some n, (low, high, e), text) = (omega (arith, low, e), omega (arith, high, e))
well_formed line (form.ProjectQuery n q k) (name, source, names, text) = names
well_formed line _ h = tt

-- ---- the documents from an index on
module _ (a : DeterministicAutomaton) (ns : List Node) (names : List (List ℕ)) (n : ℕ) where
  pub rest_next : (ds : List Doc) (ls : List (List Tuple)) (index : ℕ) (d : Doc) (p : Page) → AreAnswered a ns ds ls → slice_get ds index ≡ Some d → IsPageOf a (text_of ns d.root) n p
      → rest_text names n ds ls index ≡ (doc_line d.name ++ page_text names p.tuples p.more) ++ rest_text names n ds ls (suc index)
  rest_next [] ls index d p are e is = let bad : ⊥ = cc e in absurd bad
  rest_next (x ∷ ds) [] index d p are e is = absurd are
  rest_next (x ∷ ds) (l ∷ ls) (suc index) d p are e is = rest_next ds ls index d p are.1 e is
  rest_next (x ∷ ds) (l ∷ ls) zero d p are e is =
      let same : x ≡ d = cc e in
      let here : AreAnswersOf a (text_of ns d.root) l = subst (λ (y : Doc). AreAnswersOf a (text_of ns y.root) l) same are.0 in
      let page : IsPage l None n p.tuples p.more = page_of a (text_of ns d.root) l n p here is in
      let all : l ≡ page.rest = page.after.cut ∙ ap (λ (f : List Tuple). f ++ page.rest) (page.after.start refl) in
      let text : first_page_text names n l ≡ page_text names p.tuples p.more = cc (all, page.first, page.more_left) in
      rw (same, text) (sym (append_assoc (doc_line d.name) (page_text names p.tuples p.more) (documents_text names n ds ls)))

  -- ---- the reply
  pub listed : (q : Query) → HasAnswersIn ns a q → names ≡ names_of q → (ds : List Doc) (ls : List (List Tuple)) → AreLive ns ds → AreAnswered a ns ds ls → AreListed q n (plain ns ds) (documents_text names n ds ls)
  listed q has is [] [] live are = refl
  listed q has is [] (l ∷ ls) live are = absurd are
  listed q has is (d ∷ ds) [] live are = absurd are
  listed q has is (d ∷ ds) (l ∷ ls) live are = (
    take n l,
    nat_lt n (length l),
    documents_text names n ds ls,
    record {
      all = l;
      answers = (has.same d.root l live.0).0 are.0;
      is = record { rest = l; after = after-none l; first = refl; more_left = refl };
    },
    listed q has is ds ls live.1 are.1,
    ap (λ (ms : List (List ℕ)). doc_line d.name ++ (first_page_text ms n l ++ documents_text names n ds ls)) is,
  )

-- the lists of the automaton's answers
pub lists_exist : (a : DeterministicAutomaton) (ns : List Node) (q : Query) → HasAnswersIn ns a q → (ds : List Doc) → AreLive ns ds → (ls : List (List Tuple)) × AreAnswered a ns ds ls
lists_exist a ns q has [] live = ([], tt)
lists_exist a ns q has (d ∷ ds) live =
    let l = has.list d.root live.0 in
    let ls = lists_exist a ns q has ds live.1 in
    (l.0 ∷ ls.0, ((has.same d.root l.0 live.0).1 l.1, ls.1))

pub rest_end : {x y : Outlet} {whole : List ℕ} (names : List (List ℕ)) (n : ℕ) (ds : List Doc) (ls : List (List Tuple)) (index : ℕ) → length ds ≤ index → IsUpTo x y (rest_text names n ds ls index) whole → IsUpTo x y done_line whole
rest_end {x} {y} {whole} names n ds ls index past h = subst (λ (es : List Doc). IsUpTo x y (documents_text names n es (drop index ls)) whole) (drop_all index ds past) h

-- ---- a batch: the page at one index
module _ {a : DeterministicAutomaton} {ns : List Node} {ds : List Doc} {first count n : ℕ} {pages : List Page} (are : ArePages a ns ds first count n pages)
    (index : ℕ) {d : Doc} {tuples : List Tuple} {more : Bool} (at : slice_get ds (first + index) ≡ Some d)
    (tuples_are : slice_get (map (λ (p : Page). p.tuples) pages) index ≡ Some tuples) (more_is : slice_get (map (λ (p : Page). p.more) pages) index ≡ Some more) where
  found : IsPageOf a (text_of ns d.root) n (record { tuples = tuples; more = more })
  found = are.each index d (record { tuples = tuples; more = more }) at (page_at pages index tuples more tuples_are more_is)

  pub found_sizes : (k : ℕ) → k ≡ a.variables → (i : ℕ) (t : Tuple) → slice_get tuples i ≡ Some t → k ≡ length t
  found_sizes k is i t e = is ∙ sym (page_sizes a (text_of ns d.root) n (record { tuples = tuples; more = more }) found i t e)

  pub batch_left : {x y : Outlet} {whole : List ℕ} (names : List (List ℕ)) (lists : List (List Tuple)) → AreAnswered a ns ds lists → IsUpTo x y (rest_text names n ds lists (first + index)) whole
      → IsUpTo x y ((doc_line d.name ++ page_text names tuples more) ++ rest_text names n ds lists (first + (index + 1))) whole
  batch_left {x} {y} {whole} names lists answered so_far =
      let next : suc (first + index) ≡ first + (index + 1) = omega arith in
      rw (← next) (rw (rest_next a ns names n ds lists (first + index) d (record { tuples = tuples; more = more }) answered at found) at so_far)

-- the reply with the answers of the query on each document was written
pub all_sends : {a : DeterministicAutomaton} {ns : List Node} {q : Query} (ds : List Doc) {names : List (List ℕ)} (n : ℕ) (w : World) (number looks pairs : ℕ) (name : List ℕ) (Writes : List ℕ → Type 0) (r : Result Told Stop)
    → HasAnswersIn ns a q → names ≡ names_of q → AreLive ns ds → value_of w.state.queries name ≡ Some q → w.state.documents ≡ plain ns ds → IfOk r (λ t. t ≡ Accepted)
    → ((lists : List (List Tuple)) → AreAnswered a ns ds lists → Writes (documents_text names n ds lists)) → Sends w number (form.ListAll name n) Writes r (counters looks pairs) (counters looks pairs)
all_sends {a} {ns} {q} ds {names} n w number looks pairs name Writes r has is live registered documents accepted writes =
    let ls = lists_exist a ns q has ds live in
    let replied : AreListed q n w.state.documents (documents_text names n ds ls.0) = rw documents (listed a ns names n q has is ds ls.0 live ls.1) in
    record {
      told = Accepted;
      reply = documents_text names n ds ls.0;
      told_is = accepted;
      carries = (q, registered, replied, refl);
      paid = (no_steps, refl, none_paid looks pairs pairs refl);
      writes = writes ls.0 ls.1;
    }

-- ---- the lines of tuples
pub tuples_left : {a b : Outlet} {whole : List ℕ} (names : List (List ℕ)) (ts : List Tuple) (i : ℕ) (t : Tuple) → t ≡ get_or ts i t → i < length ts → IsUpTo a b (flat_map (tuple_line names) (drop i ts)) whole
    → IsUpTo a b (tuple_line names t ++ flat_map (tuple_line names) (drop (i + 1) ts)) whole
tuples_left {a} {b} {whole} names ts i t is lt h =
    subst (λ (l : List ℕ). IsUpTo a b l whole) (at_drop_more (flat_map (tuple_line names)) ts i t lt ∙ ap (λ (u : Tuple). tuple_line names u ++ flat_map (tuple_line names) (drop (i + 1) ts)) (sym is)) h

pub tuples_end : {a b : Outlet} {whole : List ℕ} (names : List (List ℕ)) (ts : List Tuple) (i : ℕ) → length ts ≤ i → IsUpTo a b (flat_map (tuple_line names) (drop i ts)) whole → IsSent a whole b
tuples_end {a} {b} {whole} names ts i past h = sent_all (subst (λ (us : List Tuple). IsUpTo a b (flat_map (tuple_line names) us) whole) (drop_all i ts past) h)
