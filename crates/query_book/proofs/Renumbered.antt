-- Facts about the map's queries when their tables are renumbered.
use Rattle.std.proofs.Common.{◌≡◌, ℕ, zero, suc, ◌≤◌, Bool, List, [], ◌∷◌, length, slice_get, Option, Some, None, IfSome, Contains, refl, sym, ap, subst, ◌∙◌, arith}
use Rattle.std.specs.Prelude.{unwrap_or}
use Rattle.std.specs.Option.{option_map}
use Rattle.span_types.specs.Query.{query_of}
use Rattle.slp_model.specs.declared.Node.{Node}
use Rattle.slp_model.specs.Thin.{rank, IsCompactionOf}
use Rattle.slp_model.proofs.RankLemmas.{rank-most}
use Rattle.marker_dfa.specs.Deterministic.{DeterministicAutomaton, states_of}
use Rattle.count_tables.specs.Dictionary.{CountDictionary}
use Rattle.count_tables.specs.Dictionary as counting
use Rattle.state_tables.specs.Dictionary.{AreTables, count_of}
use Rattle.query_book.specs.declared.entry.Entry.{Entry}
use Rattle.query_book.specs.declared.entry.TabledQuery.{TabledQuery}
use Rattle.query_book.specs.Counting.{AreFirstCounts, UsesEachCount, counted}
use Rattle.query_book.specs.Named.{Named}
use Rattle.query_book.specs.Book.{book_of, entries_of, queries_in}
use Rattle.query_book.specs.Compiling.{IsCompiled}
use Rattle.query_book.specs.Serving.{AreServed, IsServed, counted_in, covered_in}
use Rattle.query_book.specs.Kept.{IsSound, AreSound}
use Rattle.query_book.specs.Growing.{ChangesFirst}
use Rattle.query_book.specs.Renumbering.{Renumbers, RenumbersCounts, AreWithin, IsWithin, UseEachTable, ranked}

-- ---- how many are kept
rank-up : (ks : List Bool) (i j : ℕ) → i ≤ j → rank ks i ≤ rank ks j
rank-up ks zero j h = omega arith
rank-up ks (suc i) zero h = absurd (omega arith)
rank-up [] (suc i) (suc j) h = omega arith
rank-up (b ∷ bs) (suc i) (suc j) h = omega (arith, rank-up bs i j (omega arith))

-- ---- counting tables, if there are some
counts-sound : (keep : List Bool) (n : ℕ) (o p : Option CountDictionary) → RenumbersCounts keep o p → IfSome o (λ d. d.states ≡ n) → IfSome p (λ d. d.states ≡ n)
counts-sound keep n None None r h = tt
counts-sound keep n None (Some e) r h = absurd r
counts-sound keep n (Some d) None r h = absurd r
counts-sound keep n (Some d) (Some e) r h = r.states ∙ h

counts-served : (keep : List Bool) (a : DeterministicAutomaton) (ns ms : List Node) (o p : Option CountDictionary) → IsCompactionOf ns keep ms → RenumbersCounts keep o p → IfSome o (AreFirstCounts a ns) → IfSome p (AreFirstCounts a ms)
counts-served keep a ns ms None None thin r h = tt
counts-served keep a ns ms None (Some e) thin r h = absurd r
counts-served keep a ns ms (Some d) None thin r h = absurd r
counts-served keep a ns ms (Some d) (Some e) thin r h = record {
  covered = omega (arith, r.count, rank-up keep (counting.count_of d) (length ns) h.covered, thin.long);
  tables = r.tables a ns ms thin h.tables;
}

pub counts-number : (keep : List Bool) (o p : Option CountDictionary) → RenumbersCounts keep o p → unwrap_or (option_map counting.count_of p) 0 ≡ rank keep (unwrap_or (option_map counting.count_of o) 0)
counts-number keep None None r = refl
counts-number keep None (Some e) r = absurd r
counts-number keep (Some d) None r = absurd r
counts-number keep (Some d) (Some e) r = r.count

pub counts-used : (keep : List Bool) (o p : Option CountDictionary) → RenumbersCounts keep o p → IfSome p UsesEachCount
counts-used keep None None r = tt
counts-used keep None (Some e) r = absurd r
counts-used keep (Some d) None r = absurd r
counts-used keep (Some d) (Some e) r = r.used

counts-within : (a : DeterministicAutomaton) (ns : List Node) (o : Option CountDictionary) → IfSome o (AreFirstCounts a ns) → unwrap_or (option_map counting.count_of o) 0 ≤ length ns
counts-within a ns None h = omega arith
counts-within a ns (Some d) h = h.covered

pub if-within : (n : ℕ) (o : Option CountDictionary) → unwrap_or (option_map counting.count_of o) 0 ≤ n → IfSome o (λ d. counting.count_of d ≤ n)
if-within n None h = tt
if-within n (Some d) h = h

-- a query with an empty cache
pub sound-forgotten : (keep : List Bool) (old new : TabledQuery) → new.query ≡ old.query → new.memory ≡ [] → new.tables.states ≡ old.tables.states → RenumbersCounts keep old.counts new.counts → IsSound old → IsSound new
sound-forgotten keep old new query memory states counts s = record {
  compiled = subst IsCompiled (sym query) s.compiled;
  states = states ∙ (s.states ∙ ap (λ q. states_of q.dfa) (sym query));
  memory = λ r there.
      let bad : Contains [] r = subst (λ rs. Contains rs r) memory there in
      absurd (omega (arith, bad.1));
  counts = subst (λ q. IfSome new.counts (λ d. d.states ≡ states_of q.dfa)) (sym query) (counts-sound keep (states_of old.query.dfa) old.counts new.counts counts s.counts);
}

pub served-thin : (ns ms : List Node) (keep : List Bool) (old new : TabledQuery) → IsCompactionOf ns keep ms → new.query ≡ old.query → count_of new.tables ≡ rank keep (count_of old.tables)
    → (AreTables old.query.dfa ns old.tables → AreTables old.query.dfa ms new.tables) → RenumbersCounts keep old.counts new.counts → IsServed ns old → IsServed ms new
served-thin ns ms keep old new thin query count tables counts s = record {
  covered = omega (arith, count, rank-up keep (count_of old.tables) (length ns) s.covered, thin.long);
  tables = subst (λ q. AreTables q.dfa ms new.tables) (sym query) (tables s.tables);
  counts = subst (λ q. IfSome new.counts (AreFirstCounts q.dfa ms)) (sym query) (counts-served keep old.query.dfa ns ms old.counts new.counts thin counts s.counts);
}

some_is : {X : Type 0} {x y : X} → Some x ≡ Some y → x ≡ y
some_is {X} {x} p = ap (λ o. unwrap_or o x) p

pub within-all : (keep : List Bool) (ns : List Node) (es : List Entry) → length keep ≡ length ns → AreServed ns es → AreWithin keep es
within-all keep ns [] long s = tt
within-all keep ns (e ∷ es) long s = (
  record { tables = omega (arith, long, s.0.covered); counts = omega (arith, long, counts-within e.tabled.query.dfa ns e.tabled.counts s.0.counts) },
  within-all keep ns es long s.1,
)

module _ (keep : List Bool) where
  pub within-at : (ps : Named TabledQuery) (i : ℕ) (v : TabledQuery) → AreWithin keep (entries_of ps) → option_map (λ p. p.1) (slice_get ps i) ≡ Some v → IsWithin keep v
  within-at [] i v h at = let bad : ⊥ = cc in absurd bad
  within-at (p ∷ ps) zero v h at = subst (IsWithin keep) (some_is at) h.0
  within-at (p ∷ ps) (suc i) v h at = within-at ps i v h.1 at

  -- the first ones were renumbered
  pub within-after : (n : ℕ) (ps qs : Named TabledQuery) → AreWithin keep (entries_of ps) → ChangesFirst (Renumbers keep) n ps qs → AreWithin keep (entries_of qs)
  within-after zero ps qs w h = subst (λ xs. AreWithin keep (entries_of xs)) (sym h) w
  within-after (suc n) [] qs w h = subst (λ xs. AreWithin keep (entries_of xs)) (sym h) tt
  within-after (suc n) (p ∷ ps) [] w h = absurd h
  within-after (suc n) (p ∷ ps) (q ∷ qs) w h = (
    record { tables = omega (arith, w.0.tables, h.1.count, rank-most keep (count_of p.1.tables)); counts = omega (arith, w.0.counts, h.1.counts, rank-most keep (counted p.1)) },
    within-after n ps qs w.1 h.2,
  )

  pub sound-after : (n : ℕ) (ps qs : Named TabledQuery) → AreSound ps → ChangesFirst (Renumbers keep) n ps qs → AreSound qs
  sound-after zero ps qs k h = subst AreSound (sym h) k
  sound-after (suc n) [] qs k h = subst AreSound (sym h) tt
  sound-after (suc n) (p ∷ ps) [] k h = absurd h
  sound-after (suc n) (p ∷ ps) (q ∷ qs) k h = (h.1.sound, sound-after n ps qs k.1 h.2)

  -- all were
  pub serves-after : (ns ms : List Node) → IsCompactionOf ns keep ms → (ps qs : Named TabledQuery) → ChangesFirst (Renumbers keep) (length ps) ps qs → AreServed ns (entries_of ps) → AreServed ms (entries_of qs)
  serves-after ns ms thin [] qs h s = subst (λ xs. AreServed ms (entries_of xs)) (sym h) tt
  serves-after ns ms thin (p ∷ ps) [] h s = absurd h
  serves-after ns ms thin (p ∷ ps) (q ∷ qs) h s = (h.1.served ns ms thin s.0, serves-after ns ms thin ps qs h.2 s.1)

  -- in each query no other table is kept
  pub used-after : (most : ℕ) (ps qs : Named TabledQuery) → ChangesFirst (Renumbers keep) (length ps) ps qs → UseEachTable (book_of most qs)
  used-after most [] qs h = subst (λ xs. UseEachTable (book_of most xs)) (sym h) tt
  used-after most (p ∷ ps) [] h = absurd h
  used-after most (p ∷ ps) (q ∷ qs) h = ((h.1.used, h.1.counts_used), used-after most ps qs h.2)

  pub queries-after : (ps qs : Named TabledQuery) → ChangesFirst (Renumbers keep) (length ps) ps qs → queries_in (entries_of qs) ≡ queries_in (entries_of ps)
  queries-after [] qs h = ap (λ xs. queries_in (entries_of xs)) h
  queries-after (p ∷ ps) [] h = absurd h
  queries-after (p ∷ ps) (q ∷ qs) h = λ j. (h.0 j, query_of (h.1.query j).tree) ∷ queries-after ps qs h.2 j

  pub covered-after : (ps qs : Named TabledQuery) → ChangesFirst (Renumbers keep) (length ps) ps qs → covered_in (entries_of qs) ≡ ranked keep (covered_in (entries_of ps))
  covered-after [] qs h = ap (λ xs. covered_in (entries_of xs)) h
  covered-after (p ∷ ps) [] h = absurd h
  covered-after (p ∷ ps) (q ∷ qs) h = λ j. (h.0 j, h.1.count j) ∷ covered-after ps qs h.2 j

  pub counted-after : (ps qs : Named TabledQuery) → ChangesFirst (Renumbers keep) (length ps) ps qs → counted_in (entries_of qs) ≡ ranked keep (counted_in (entries_of ps))
  counted-after [] qs h = ap (λ xs. counted_in (entries_of xs)) h
  counted-after (p ∷ ps) [] h = absurd h
  counted-after (p ∷ ps) (q ∷ qs) h = λ j. (h.0 j, h.1.counts j) ∷ counted-after ps qs h.2 j
