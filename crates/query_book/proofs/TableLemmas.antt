-- The numbers of nodes that have tables in each query, when a registry or its store changes.
use Rattle.std.proofs.Common.{[], ap, arith, Bool, cond, false, inl, inr, length, List, None, Option, option_map, refl, Some, subst, suc, sym, true, zero, ℕ}
use Rattle.std.proofs.Common.{◌*◌, ◌+◌, ◌-◌, ◌∙◌, ◌∷◌, ◌≡◌, ◌≤◌}
use Rattle.std.specs.List.{AllByRecursion}
use Rattle.std.specs.Prelude.{IfSome, unwrap_or}
use Rattle.count_tables.specs.Dictionary.{count_of, CountDictionary}
use Rattle.query_book.proofs.Served.{serves-more}
use Rattle.query_book.specs.Book.{Book, queries_of}
use Rattle.query_book.specs.Counting.{AreFirstCounts, counted}
use Rattle.query_book.specs.Grown.{GrowsCounts, GrowsTables}
use Rattle.query_book.specs.Named.{is_same, Named, put, taken_out}
use Rattle.query_book.specs.Renumbering.{ranked}
use Rattle.query_book.specs.Serving.{ArePartlyAt, AreServed, counted_in, counted_of, covered_in, covered_of, IsServed, Serves, sum_of, Tabled, tables_of}
use Rattle.query_book.specs.declared.entry.Entry.{Entry}
use Rattle.query_book.specs.declared.entry.TabledQuery.{TabledQuery}
use Rattle.slp_model.proofs.RankLemmas.{rank-most}
use Rattle.slp_model.specs.Nodes.{Grows}
use Rattle.slp_model.specs.Thin.{rank}
use Rattle.slp_model.specs.declared.Node.{Node}

-- the number of tables of each query is at most n
pub record AreWithin (n : ℕ) (t : Tabled) : Type 0 where
  pub covered : AllByRecursion (λ x. x.1 ≤ n) t.covered
  pub counted : AllByRecursion (λ x. x.1 ≤ n) t.counted

-- the sum of numbers that are at most n
pub sum_within : (n m : ℕ) → m ≤ n → (xs : Named ℕ) → AllByRecursion (λ x. x.1 ≤ m) xs → sum_of xs ≤ n * length xs
sum_within n m le [] h = omega arith
sum_within n m le (x ∷ xs) h = omega (arith, le, h.0, sum_within n m le xs h.1)

-- tables stay valid when the store gets nodes
pub serves-grows : (old new : List Node) (p q : ℕ) (book : Book) → Grows old new p q → Serves old book → Serves new book
serves-grows old new p q book g h = subst (λ (ns : List Node). Serves ns book) (sym g.added) (serves-more old g.more book h)

-- each query has tables and counting tables for at most the existing nodes
counted-within : (ns : List Node) (t : TabledQuery) → IsServed ns t → counted t ≤ length ns
counted-within ns t h = by t.counts h.counts
  where
    by : (o : Option CountDictionary) → IfSome o (AreFirstCounts t.query.dfa ns) → unwrap_or (option_map count_of o) 0 ≤ length ns
    by None is = omega arith
    by (Some d) is = is.covered

entries-within : (ns : List Node) (es : List Entry) → AreServed ns es → AreWithin (length ns) (record { covered = covered_in es; counted = counted_in es })
entries-within ns [] h = record { covered = tt; counted = tt }
entries-within ns (e ∷ es) h =
    let rest = entries-within ns es h.1 in record { covered = (h.0.covered, rest.covered); counted = (counted-within ns e.tabled h.0, rest.counted) }

pub tables-within : (ns : List Node) (book : Book) → Serves ns book → AreWithin (length ns) (tables_of book)
tables-within ns book h = entries-within ns book.entries h

-- a query that is registered, under an existing or a new name
pub put-places : (n : ℕ) (ps : Named ℕ) (name : List ℕ) → AllByRecursion (λ p. p.1 ≤ n) ps → sum_of ps + n * length (put ps name 0) ≤ sum_of (put ps name 0) + n * length ps + n
put-places n [] name h = omega arith
put-places n (p ∷ ps) name h =
    let rest = put-places n ps name h.1 in
    elim (is_same name p.0) as (λ b. sum_of (p ∷ ps) + n * length (cond b ((name, 0) ∷ ps) (p ∷ put ps name 0)) ≤ sum_of (cond b ((name, 0) ∷ ps) (p ∷ put ps name 0)) + n * length (p ∷ ps) + n)
    [ true ↦ omega (arith, h.0) | false ↦ omega (arith, rest) ]

-- a query that is removed
pub take-places : (n : ℕ) (ps : Named ℕ) (name : List ℕ) → AllByRecursion (λ p. p.1 ≤ n) ps → sum_of ps + n * length (taken_out ps name) ≤ sum_of (taken_out ps name) + n * length ps
take-places n [] name h = omega arith
take-places n (p ∷ ps) name h =
    let rest = take-places n ps name h.1 in
    elim (is_same name p.0) as (λ b. sum_of (p ∷ ps) + n * length (cond b ps (p ∷ taken_out ps name)) ≤ sum_of (cond b ps (p ∷ taken_out ps name)) + n * length (p ∷ ps))
    [ true ↦ omega (arith, h.0) | false ↦ omega (arith, rest) ]

pub within-more : (m n : ℕ) (ps : Named ℕ) → m ≤ n → AllByRecursion (λ p. p.1 ≤ m) ps → AllByRecursion (λ p. p.1 ≤ n) ps
within-more m n [] le h = tt
within-more m n (p ∷ ps) le h = (omega (arith, le, h.0), within-more m n ps le h.1)

pub partly-length : (n : ℕ) (ps qs : Named ℕ) → ArePartlyAt n ps qs → length qs ≡ length ps
partly-length n [] [] h = refl
partly-length n [] (q ∷ qs) h = absurd h
partly-length n (p ∷ ps) [] h = absurd h
partly-length n (p ∷ ps) (q ∷ qs) h = ap suc (partly-length n ps qs h.2)

pub partly_same : (n : ℕ) (ps : Named ℕ) → ArePartlyAt n ps ps
partly_same n [] = tt
partly_same n (p ∷ ps) = (refl, inl refl, partly_same n ps)

partly_both : (n : ℕ) (ps qs rs : Named ℕ) → ArePartlyAt n ps qs → ArePartlyAt n qs rs → ArePartlyAt n ps rs
partly_both n [] [] [] h k = tt
partly_both n [] [] (r ∷ rs) h k = absurd k
partly_both n [] (q ∷ qs) rs h k = absurd h
partly_both n (p ∷ ps) [] rs h k = absurd h
partly_both n (p ∷ ps) (q ∷ qs) [] h k = absurd k
partly_both n (p ∷ ps) (q ∷ qs) (r ∷ rs) h k = (
  k.0 ∙ h.0,
  elim k.1 [ inl same ↦ elim h.1 [ inl old ↦ inl (same ∙ old) | inr all ↦ inr (same ∙ all) ] | inr all ↦ inr all ],
  partly_both n ps qs rs h.2 k.2,
)

-- no table was computed
pub none_grown : (ns : List Node) (book : Book) (places : ℕ) → Serves ns book → GrowsTables false ns book book places places
none_grown ns book places serves = record {
  serves = serves;
  states = refl;
  queries = refl;
  between = places;
  tables = partly_same (length ns) (covered_of book);
  tables_paid = refl;
  counts = partly_same (length ns) (counted_of book);
  counts_paid = refl;
  unasked = λ _. refl;
}

-- counting tables alone
pub counts_grown : (asked : Bool) (ns : List Node) (old new : Book) (p q : ℕ) → GrowsCounts ns old new p q → (asked ≡ false → q ≡ p) → GrowsTables asked ns old new p q
counts_grown asked ns old new p q grown same = record {
  serves = grown.serves;
  states = grown.states;
  queries = grown.queries;
  between = p;
  tables = subst (λ (c : Named ℕ). ArePartlyAt (length ns) (covered_of old) c) (sym grown.tables) (partly_same (length ns) (covered_of old));
  tables_paid = ap (λ (c : Named ℕ). p + sum_of c) (sym grown.tables);
  counts = grown.counts;
  counts_paid = grown.counts_paid;
  unasked = same;
}

-- and after other tables
pub both_grown : (asked : Bool) (ns : List Node) (old mid new : Book) (p q r : ℕ) → GrowsTables false ns old mid p q → GrowsCounts ns mid new q r → (asked ≡ false → r ≡ q) → GrowsTables asked ns old new p r
both_grown asked ns old mid new p q r first next same = record {
  serves = next.serves;
  states = next.states ∙ first.states;
  queries = next.queries ∙ first.queries;
  between = first.between;
  tables = subst (λ (c : Named ℕ). ArePartlyAt (length ns) (covered_of old) c) (sym next.tables) first.tables;
  tables_paid = first.tables_paid ∙ ap (λ (c : Named ℕ). p + sum_of c) (sym next.tables);
  counts = partly_both (length ns) (counted_of old) (counted_of mid) (counted_of new) first.counts next.counts;
  counts_paid = omega (arith, first.counts_paid, next.counts_paid, first.unasked refl);
  unasked = λ none. same none ∙ first.unasked refl;
}

-- tables of all queries, and counting tables as before
pub all_grown : (ns : List Node) (old new : Book) (p q : ℕ) → Serves ns new → new.states ≡ old.states → queries_of new ≡ queries_of old → counted_of new ≡ counted_of old → ArePartlyAt (length ns) (covered_of old) (covered_of new) → q + sum_of (covered_of old) ≡ p + sum_of (covered_of new)
    → GrowsTables false ns old new p q
all_grown ns old new p q serves states queries counted partly paid = record {
  serves = serves;
  states = states;
  queries = queries;
  between = q;
  tables = partly;
  tables_paid = paid;
  counts = subst (λ (c : Named ℕ). ArePartlyAt (length ns) (counted_of old) c) (sym counted) (partly_same (length ns) (counted_of old));
  counts_paid = ap (λ (c : Named ℕ). q + sum_of c) (sym counted);
  unasked = λ _. refl;
}

-- the number of dropped nodes before an index is at most that of all dropped nodes
pub rank-gap : (keep : List Bool) (i n : ℕ) → i ≤ n → n ≤ length keep → i + rank keep n ≤ n + rank keep i
rank-gap keep zero zero le long = omega arith
rank-gap keep (suc i) zero le long = let bad : ⊥ = omega (arith, le) in absurd bad
rank-gap [] i (suc n) le long = let bad : ⊥ = omega (arith, long) in absurd bad
rank-gap (b ∷ bs) zero (suc n) le long = omega (arith, rank-most (b ∷ bs) (suc n))
rank-gap (b ∷ bs) (suc i) (suc n) le long = omega (arith, rank-gap bs i n (omega (arith, le)) (omega (arith, long)))

-- each query has the tables of its kept nodes, and lost at most as many as nodes were dropped
pub sum-moved : (keep : List Bool) (n : ℕ) (covered : Named ℕ) → n ≤ length keep → AllByRecursion (λ p. p.1 ≤ n) covered
    → sum_of covered ≤ sum_of (ranked keep covered) + (n - rank keep n) * length covered
sum-moved keep n [] long h = omega arith
sum-moved keep n (p ∷ ps) long h =
    let gap = rank-gap keep p.1 n h.0 long in
    let rest = sum-moved keep n ps long h.1 in
    omega (arith, gap, rest)

pub length-moved : (keep : List Bool) (covered : Named ℕ) → length (ranked keep covered) ≡ length covered
length-moved keep [] = refl
length-moved keep (p ∷ ps) = ap suc (length-moved keep ps)
