-- Facts about the map's queries when the counting tables of one are computed.
use Rattle.std.proofs.Common.{◌≡◌, ◌↔◌, ℕ, ◌+◌, List, [], ◌∷◌, zero, suc, length, slice_get, Some, None, Result, Ok, Err, OnOk, OnErr, ap, sym, ◌∙◌, arith}
use Rattle.std.specs.Prelude.{unwrap_or, IsErrOf}
use Rattle.std.specs.Option.{option_map}
use Rattle.span_types.specs.Query.{query_of}
use Rattle.slp_model.specs.declared.Node.{Node}
use Rattle.state_tables.specs.Dictionary.{count_of}
use Rattle.query_book.specs.declared.entry.TabledQuery.{TabledQuery}
use Rattle.query_book.specs.declared.refusal.BookRefusal.{BookRefusal}
use Rattle.query_book.specs.declared.refusal.BookRefusal.TheVariants.{NoSuchQuery}
use Rattle.query_book.specs.Named.{Named, put, value_of, with_value}
use Rattle.query_book.specs.Book.{book_of, entries_of, queries_in}
use Rattle.query_book.specs.Counting.{counted}
use Rattle.query_book.specs.Serving.{ArePartlyAt, AreServed, Covers, CoversQuery, HasCounts, all_at, counted_in, covered_in, sum_of}
use Rattle.query_book.specs.Kept.{AreSound}
use Rattle.query_book.specs.Growing.{GrowsCounts, KeepsCounts, MayGrowCounts}
use Rattle.query_book.proofs.Changed.{IsOutcome, done-after, err-after, found-after, missing-after, serves-outcome, some-after, sound-outcome, view-outcome}
use Rattle.query_book.proofs.Covered.{tables-same}

some_is : {X : Type 0} {x y : X} → Some x ≡ Some y → x ≡ y
some_is {X} {x} p = ap (λ o. unwrap_or o x) p

-- a query's tables are counted once
pub counted-set : (ps : Named TabledQuery) (i : ℕ) (v w : TabledQuery) → option_map (λ p. p.1) (slice_get ps i) ≡ Some v
    → sum_of (counted_in (entries_of (with_value ps i w))) + counted v ≡ sum_of (counted_in (entries_of ps)) + counted w
counted-set [] i v w at = let bad : ⊥ = cc in absurd bad
counted-set (p ∷ ps) zero v w at =
    let e : counted p.1 ≡ counted v = ap (λ x. counted x) (some_is at) in
    omega (arith, e)
counted-set (p ∷ ps) (suc i) v w at = omega (arith, counted-set ps i v w at)

-- the outcome of the computation, by its result
abbrev pub IsCounted : List Node → List ℕ → Named TabledQuery → Named TabledQuery → Result (Unit {0}) BookRefusal → Type 0
IsCounted ns = IsOutcome (GrowsCounts ns) (KeepsCounts ns)

module _ (ns : List Node) (name : List ℕ) (ps qs : Named TabledQuery) where
  grown : (v w : TabledQuery) → GrowsCounts ns v w → MayGrowCounts ns v w
  grown v w h = h.may

  kept : (v w : TabledQuery) → KeepsCounts ns v w → MayGrowCounts ns v w
  kept v w h = h.may

  all : (v w : TabledQuery) → GrowsCounts ns v w → counted w ≡ length ns
  all v w h = ap (λ o. unwrap_or o 0) h.all

  same : (v w : TabledQuery) → KeepsCounts ns v w → counted w ≡ counted v
  same v w h = h.same

  pub sound-counted : AreSound ps → (r : Result (Unit {0}) BookRefusal) → IsCounted ns name ps qs r → AreSound qs
  sound-counted = sound-outcome (GrowsCounts ns) (KeepsCounts ns) (MayGrowCounts ns) grown kept name ps qs (λ v w h. h.sound)

  pub serves-counted : AreServed ns (entries_of ps) → (r : Result (Unit {0}) BookRefusal) → IsCounted ns name ps qs r → AreServed ns (entries_of qs)
  serves-counted = serves-outcome (GrowsCounts ns) (KeepsCounts ns) (MayGrowCounts ns) grown kept name ps qs ns (λ v w h. h.served)

  pub queries-counted : (r : Result (Unit {0}) BookRefusal) → IsCounted ns name ps qs r → queries_in (entries_of qs) ≡ queries_in (entries_of ps)
  queries-counted = view-outcome (GrowsCounts ns) (KeepsCounts ns) (MayGrowCounts ns) grown kept name ps qs (λ t. query_of t.query.tree) (λ v w h. ap (λ q. query_of q.tree) h.query)

  pub covered-counted : (r : Result (Unit {0}) BookRefusal) → IsCounted ns name ps qs r → covered_in (entries_of qs) ≡ covered_in (entries_of ps)
  covered-counted = view-outcome (GrowsCounts ns) (KeepsCounts ns) (MayGrowCounts ns) grown kept name ps qs (λ t. count_of t.tables) (λ v w h. ap (λ d. count_of d) h.tables)

  pub covers-counted : (most : ℕ) (r : Result (Unit {0}) BookRefusal) → IsCounted ns name ps qs r → Covers ns (book_of most ps) → Covers ns (book_of most qs)
  covers-counted most r h c =
      let e = covered-counted r h in
      record { serves = serves-counted c.serves r h; all = e ∙ c.all ∙ ap (all_at (length ns)) (sym e) }

  pub covers_query-counted : (most : ℕ) (r : Result (Unit {0}) BookRefusal) → IsCounted ns name ps qs r → (other : List ℕ) → CoversQuery ns (book_of most ps) other → CoversQuery ns (book_of most qs) other
  covers_query-counted most r h other c = record { serves = serves-counted c.serves r h; tables = tables-same (length ns) (book_of most ps) (book_of most qs) other (covered-counted r h) c.tables }

  pub all-counted : (most : ℕ) (r : Result (Unit {0}) BookRefusal) → IsCounted ns name ps qs r → OnOk r (HasCounts (length ns) (book_of most qs) name)
  all-counted most (Ok x) c = λ t there. (found-after (GrowsCounts ns) (KeepsCounts ns) name ps qs (Ok x) c t there).1.all
  all-counted most (Err e) c = tt

  pub done-counted : (r : Result (Unit {0}) BookRefusal) → IsCounted ns name ps qs r → OnOk r (counted_in (entries_of qs) ≡ put (counted_in (entries_of ps)) name (length ns))
  done-counted = done-after (GrowsCounts ns) (KeepsCounts ns) name ps qs counted (length ns) all same

  pub err-counted : (r : Result (Unit {0}) BookRefusal) → IsCounted ns name ps qs r → OnErr r (counted_in (entries_of qs) ≡ counted_in (entries_of ps))
  err-counted = err-after (GrowsCounts ns) (KeepsCounts ns) name ps qs counted (length ns) all same

  pub missing-counted : (r : Result (Unit {0}) BookRefusal) → IsCounted ns name ps qs r → IsErrOf r NoSuchQuery ↔ (value_of (queries_in (entries_of ps)) name ≡ None)
  missing-counted = missing-after (GrowsCounts ns) (KeepsCounts ns) name ps qs

  pub some-counted : (r : Result (Unit {0}) BookRefusal) → IsCounted ns name ps qs r → ArePartlyAt (length ns) (counted_in (entries_of ps)) (counted_in (entries_of qs))
  some-counted = some-after (GrowsCounts ns) (KeepsCounts ns) name ps qs counted (length ns) all same
