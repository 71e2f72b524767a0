-- The effect of registering a query.
use Rattle.query_commands.proofs.Names.{Accepted, Answer, Answers, ap, at, Book, command_of, Compacts, Does, Err, false, Files, HasPair, IfErr, IsAccepted, IsAllowed}
use Rattle.query_commands.proofs.Names.{IsConsistent, IsErr, IsErrAnd, IsMade, IsMadeIn, IsOfFile, IsOk, IsRegistered, IsSome, IsTextRefusal, IsTextRefused, Join, length}
use Rattle.query_commands.proofs.Names.{List, MatchOption, MatchResult, Named, names_of, never, no_steps, None, Ok, OnErr, only_queries, OnOk, Option, PlacesOfBoth}
use Rattle.query_commands.proofs.Names.{Project, put, queries_of, Query, query_text, refl, Refusal, Registers, Result, rules, Serves, SessionState, Some, State, state_of}
use Rattle.query_commands.proofs.Names.{Stays, tables-within, tables_of, Union, value_of, with_queries, World, world, ℕ, ◌∙◌, ◌≡◌}
use Rattle.name_map.proofs.NamedLaws.{value_of-put}
use Rattle.query_book.specs.Registering.{IsRefused as IsUnregistered}
use Rattle.query_book.specs.declared.refusal.CombineRefusal.{CombineRefusal}
use Rattle.query_book.specs.declared.refusal.QueryRefusal.{QueryRefusal}
use Rattle.query_book.specs.declared.refusal.QueryRefusal.TheVariants as query
use Rattle.formula_syntax.specs.declared.refusal.FormulaRefusal.TheVariants as formula
use Rattle.span_language.specs.Step.{IsCombineRefusal, IsUncombined}
use Rattle.span_language.specs.declared.told.Stop.TheVariants as stop
use Rattle.query_commands.specs.declared.registering.Recipe.{Recipe}
use Rattle.query_commands.specs.declared.registering.Recipe.TheVariants as recipe
use Rattle.span_language.proofs.PlacesLemmas.{put_placed}
use Rattle.session_state.proofs.CommandLemmas.{booked_answers, booked_stops, once_accepted}

-- a text that is no query
pub text_refused : (most : ℕ) (text : List ℕ) (why : QueryRefusal) (kept : Refusal) → IsUnregistered most text why → IsTextRefusal why kept → IsTextRefused most text kept
text_refused most text (query.Formula formula.NoMemory) kept h e = absurd e
text_refused most text (query.Formula _) kept h e = rw e h
text_refused most text query.TooManyStates kept h e = rw e h
text_refused most text query.NoMemory kept h e = absurd e

-- queries that are not combined
pub uncombined : (Refuses : CombineRefusal → Type 0) (why : CombineRefusal) (kept : Refusal) → Refuses why → IsCombineRefusal why kept → IsUncombined Refuses kept
uncombined Refuses why kept refused told = (why, refused, told)

-- the result of a call to the registry, as an outcome
pub outcome : {T E Z : Type 0} (made : Result T E) (out : Result (Option Refusal) Z) (M C D S N : Type 0) (R : E → Type 0) (Says : E → Refusal → Type 0) (U : Refusal → Type 0)
    → OnOk made M → OnOk made C → OnOk made D → S → IfErr made R → OnErr made N → ((e : E) (why : Refusal) → R e → Says e why → U why)
    → MatchResult out (λ refused. MatchOption refused (IsOk made) (λ why. IsErrAnd made (λ e. Says e why))) (λ _. IsErr made)
    → MatchResult out (λ refused. MatchOption refused (M × C × D × S) (λ why. U why × N)) (λ _. N)
outcome (Ok x) (Ok None) M C D S N R Says U m c d s r n u told = (m, c, d, s)
outcome (Ok x) (Ok (Some why)) M C D S N R Says U m c d s r n u told = absurd told
outcome (Ok x) (Err z) M C D S N R Says U m c d s r n u told = let bad : ⊥ = cc told in absurd bad
outcome (Err e) (Ok None) M C D S N R Says U m c d s r n u told = let bad : ⊥ = cc told in absurd bad
outcome (Err e) (Ok (Some why)) M C D S N R Says U m c d s r n u told = (u e why r told, n)
outcome (Err e) (Err z) M C D S N R Says U m c d s r n u told = n

-- the query that was made
made_query : (most : ℕ) (queries : Named Query) {P : Query → Type 0} (r : Recipe) → IsMade most queries r P → (q : Query) × P q
made_query most queries (recipe.Formula text) (q, of, is) = (q, is)
made_query most queries (recipe.Union left right) m = (Union m.query m.holds.query, m.holds.holds.1)
made_query most queries (recipe.Join left right) m = (Join m.query m.holds.query, m.holds.holds.1)
made_query most queries (recipe.Project source keep) m = (Project m.query m.holds.0, m.holds.3.1)

pub made_there : (most : ℕ) (old new : Named Query) (name : List ℕ) (r : Recipe) → IsMade most old r (λ q. new ≡ put old name q) → IsSome (value_of new name)
made_there most old new name r made = let q = made_query most old r made in rw (q.1, value_of-put old name q.0) (search rules)

-- the effect of registering it
module _ (st : State) (files : Option Files) (new : Named Query) (name line : List ℕ) (written : (q : Query) → value_of new name ≡ Some q → line ≡ query_text name (names_of q)) where
  registered : (q : Query) → new ≡ put st.queries name q → IsRegistered (world st files) (world (with_queries st new) files) name q line
  registered q is = (written q (rw is (value_of-put st.queries name q)), only_queries st (put st.queries name q) new files is)

  pair_does : (Tree : Query → Query → Query) (left right : List ℕ) → HasPair Tree st.queries left right (λ q. IsAccepted st.most_states q × (new ≡ put st.queries name q))
      → HasPair Tree st.queries left right (λ q. IsAccepted st.most_states q × IsRegistered (world st files) (world (with_queries st new) files) name q line)
  pair_does Tree left right m = record { query = m.query; there = m.there; holds = record { query = m.holds.query; there = m.holds.there; holds = (m.holds.holds.0, registered _ m.holds.holds.1) } }

  made_does : (r : Recipe) → IsMade st.most_states st.queries r (λ q. new ≡ put st.queries name q) → Does (world st files) (command_of name r) line (world (with_queries st new) files)
  made_does (recipe.Formula text) (q, of, is) = (q, of, registered q is)
  made_does (recipe.Union left right) m = pair_does Union left right m
  made_does (recipe.Join left right) m = pair_does Join left right m
  made_does (recipe.Project source keep) m = record { query = m.query; there = m.there; holds = (m.holds.0, m.holds.1, m.holds.2, (m.holds.3.0, registered _ m.holds.3.1)) }

-- the commands that register a query
kinds : (w : World) (name : List ℕ) (r : Recipe) → Registers (command_of name r) × (Compacts (command_of name r) → ⊥) × (IsOfFile (command_of name r) → ⊥) × IsAllowed w (command_of name r) no_steps
kinds w name (recipe.Formula text) = (tt, (λ no. no), (λ no. no), refl)
kinds w name (recipe.Union left right) = (tt, (λ no. no), (λ no. no), refl)
kinds w name (recipe.Join left right) = (tt, (λ no. no), (λ no. no), refl)
kinds w name (recipe.Project source keep) = (tt, (λ no. no), (λ no. no), refl)

module _ (h : SessionState) (book : Book) (number : ℕ) (name : List ℕ) (r : Recipe) (files : Option Files) (faults looks pairs places : ℕ) (is : IsConsistent h) (serves : Serves h.store book) (made : IsMadeIn h.book name r book) where
  placed : PlacesOfBoth false 1 0 (length h.store) (tables_of h.book) (tables_of book) places places
  placed = put_placed (length h.store) places (tables_of h.book) (tables_of book) name made.1 made.2 (tables-within h.store h.book is.serves)

  pub registered_stops : Stays (at h files faults looks pairs places) number (command_of name r) (at (record h { book = book }) files faults looks pairs places) stop.NoMemory
  registered_stops =
      let q = made_query h.book.states (queries_of h.book) r made.0 in
      let there : value_of (queries_of book) name ≡ Some q.0 = ap (λ (qs : Named Query). value_of qs name) q.1 ∙ value_of-put (queries_of h.book) name q.0 in
      let does = made_does (state_of h) files (queries_of book) name (query_text name (names_of q.0)) (λ p is. let same : q.0 ≡ p = cc (there, is) in ap (λ (x : Query). query_text name (names_of x)) same) r made.0 in
      booked_stops h book number (command_of name r) files faults looks pairs places 1 is serves placed ((kinds (world (state_of h) files) name r).2, (Accepted, query_text name (names_of q.0), rw (made.3) does))

  pub registered_answers : (answer : Answer) → answer.told ≡ Accepted → ((q : Query) → value_of (queries_of book) name ≡ Some q → answer.line.items ≡ query_text name (names_of q))
      → Answers (at h files faults looks pairs places) number (command_of name r) (at (record h { book = book }) files faults looks pairs places) answer
  registered_answers answer accepted written =
      let kind = kinds (world (state_of h) files) name r in
      booked_answers h book number (command_of name r) files faults looks pairs places 1 is serves placed answer made.3 kind.3 (once_accepted _ kind.0 answer.told accepted) (never _ kind.1 answer.told)
      (rw accepted (made_does (state_of h) files (queries_of book) name answer.line.items written r made.0))
