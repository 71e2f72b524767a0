-- Facts about the map's queries when the tables of one are computed.
use Rattle.std.proofs.Common.{◌≡◌, ◌↔◌, ℕ, List, length, None, Result, Ok, Err, OnOk, OnErr, ap}
use Rattle.std.specs.Prelude.{unwrap_or, IsErrOf}
use Rattle.std.specs.Option.{option_map}
use Rattle.span_types.specs.Query.{query_of}
use Rattle.slp_model.specs.declared.Node.{Node}
use Rattle.state_tables.specs.Dictionary.{count_of}
use Rattle.count_tables.specs.Dictionary as counting
use Rattle.query_book.specs.declared.entry.TabledQuery.{TabledQuery}
use Rattle.query_book.specs.declared.refusal.BookRefusal.{BookRefusal}
use Rattle.query_book.specs.declared.refusal.BookRefusal.TheVariants.{NoSuchQuery}
use Rattle.query_book.specs.Named.{Named, put, value_of}
use Rattle.query_book.specs.Book.{book_of, entries_of, queries_in}
use Rattle.query_book.specs.Counting.{counted}
use Rattle.query_book.specs.Serving.{ArePartlyAt, AreServed, CoversQuery, counted_in, covered_in}
use Rattle.query_book.specs.Kept.{AreSound}
use Rattle.query_book.specs.Growing.{Grows, Keeps, MayGrow}
use Rattle.query_book.proofs.Changed.{IsOutcome, done-after, err-after, found-after, missing-after, serves-outcome, some-after, sound-outcome, view-outcome}

-- the outcome of the computation, by its result
abbrev pub IsGrown : List Node → List ℕ → Named TabledQuery → Named TabledQuery → Result (Unit {0}) BookRefusal → Type 0
IsGrown ns = IsOutcome (Grows ns) (Keeps ns)

module _ (ns : List Node) (name : List ℕ) (ps qs : Named TabledQuery) where
  grown : (v w : TabledQuery) → Grows ns v w → MayGrow ns v w
  grown v w h = h.may

  kept : (v w : TabledQuery) → Keeps ns v w → MayGrow ns v w
  kept v w h = h.may

  abbrev number : TabledQuery → ℕ
  number t = count_of t.tables

  all : (v w : TabledQuery) → Grows ns v w → number w ≡ length ns
  all v w h = h.all

  same : (v w : TabledQuery) → Keeps ns v w → number w ≡ number v
  same v w h = h.same

  pub sound-grown : AreSound ps → (r : Result (Unit {0}) BookRefusal) → IsGrown ns name ps qs r → AreSound qs
  sound-grown = sound-outcome (Grows ns) (Keeps ns) (MayGrow ns) grown kept name ps qs (λ v w h. h.sound)

  pub serves-grown : AreServed ns (entries_of ps) → (r : Result (Unit {0}) BookRefusal) → IsGrown ns name ps qs r → AreServed ns (entries_of qs)
  serves-grown = serves-outcome (Grows ns) (Keeps ns) (MayGrow ns) grown kept name ps qs ns (λ v w h. h.served)

  pub queries-grown : (r : Result (Unit {0}) BookRefusal) → IsGrown ns name ps qs r → queries_in (entries_of qs) ≡ queries_in (entries_of ps)
  queries-grown = view-outcome (Grows ns) (Keeps ns) (MayGrow ns) grown kept name ps qs (λ t. query_of t.query.tree) (λ v w h. ap (λ q. query_of q.tree) h.query)

  pub counted-grown : (r : Result (Unit {0}) BookRefusal) → IsGrown ns name ps qs r → counted_in (entries_of qs) ≡ counted_in (entries_of ps)
  counted-grown = view-outcome (Grows ns) (Keeps ns) (MayGrow ns) grown kept name ps qs counted (λ v w h. ap (λ o. unwrap_or (option_map counting.count_of o) 0) h.counts)

  pub all-grown : (most : ℕ) → AreServed ns (entries_of ps) → (r : Result (Unit {0}) BookRefusal) → IsGrown ns name ps qs r → OnOk r (CoversQuery ns (book_of most qs) name)
  all-grown most serves (Ok x) c = record { serves = serves-grown serves (Ok x) c; tables = λ t there. (found-after (Grows ns) (Keeps ns) name ps qs (Ok x) c t there).1.all }
  all-grown most serves (Err e) c = tt

  pub done-grown : (r : Result (Unit {0}) BookRefusal) → IsGrown ns name ps qs r → OnOk r (covered_in (entries_of qs) ≡ put (covered_in (entries_of ps)) name (length ns))
  done-grown = done-after (Grows ns) (Keeps ns) name ps qs number (length ns) all same

  pub err-grown : (r : Result (Unit {0}) BookRefusal) → IsGrown ns name ps qs r → OnErr r (covered_in (entries_of qs) ≡ covered_in (entries_of ps))
  err-grown = err-after (Grows ns) (Keeps ns) name ps qs number (length ns) all same

  pub missing-grown : (r : Result (Unit {0}) BookRefusal) → IsGrown ns name ps qs r → IsErrOf r NoSuchQuery ↔ (value_of (queries_in (entries_of ps)) name ≡ None)
  missing-grown = missing-after (Grows ns) (Keeps ns) name ps qs

  pub some-grown : (r : Result (Unit {0}) BookRefusal) → IsGrown ns name ps qs r → ArePartlyAt (length ns) (covered_in (entries_of ps)) (covered_in (entries_of qs))
  some-grown = some-after (Grows ns) (Keeps ns) name ps qs number (length ns) all same
