-- Facts about the map's queries while their tables are computed.
use Rattle.std.proofs.Common.{◌≡◌, inl, ℕ, zero, suc, ◌+◌, List, [], ◌∷◌, length, slice_get, Some, None, refl, sym, ap, subst, ◌∙◌, arith}
use Rattle.std.specs.Prelude.{unwrap_or}
use Rattle.std.specs.Option.{option_map}
use Rattle.span_types.specs.Query.{query_of}
use Rattle.slp_model.specs.declared.Node.{Node}
use Rattle.state_tables.specs.Dictionary.{count_of}
use Rattle.count_tables.specs.Dictionary as counting
use Rattle.query_book.specs.declared.entry.TabledQuery.{TabledQuery}
use Rattle.query_book.specs.Named.{Named, with_value}
use Rattle.query_book.specs.Book.{book_of, entries_of, queries_in}
use Rattle.query_book.specs.Serving.{AreServed, IsServed, Covers, counted_in, covered_in, sum_of, all_at, ArePartlyAt}
use Rattle.query_book.specs.Kept.{IsSound, AreSound}
use Rattle.query_book.specs.Growing.{MayGrow, Grows, ChangesAt, ChangesFirst}

some_is : {X : Type 0} {x y : X} → Some x ≡ Some y → x ≡ y
some_is {X} {x} p = ap (λ o. unwrap_or o x) p

-- an unchanged query is one that may have got tables
stays : (ns : List Node) (v : TabledQuery) → IsSound v → IsServed ns v → MayGrow ns v v
stays ns v s t = record { query = refl; sound = s; served = t; counts = refl; count = inl refl }

pub sound-at : (ps : Named TabledQuery) (i : ℕ) (v : TabledQuery) → AreSound ps → option_map (λ p. p.1) (slice_get ps i) ≡ Some v → IsSound v
sound-at [] i v h at = let bad : ⊥ = cc in absurd bad
sound-at (p ∷ ps) zero v h at = subst IsSound (some_is at) h.0
sound-at (p ∷ ps) (suc i) v h at = sound-at ps i v h.1 at

pub served-at : (ns : List Node) (ps : Named TabledQuery) (i : ℕ) (v : TabledQuery) → AreServed ns (entries_of ps) → option_map (λ p. p.1) (slice_get ps i) ≡ Some v → IsServed ns v
served-at ns [] i v h at = let bad : ⊥ = cc in absurd bad
served-at ns (p ∷ ps) zero v h at = subst (IsServed ns) (some_is at) h.0
served-at ns (p ∷ ps) (suc i) v h at = served-at ns ps i v h.1 at

-- the number of tables of all queries
abbrev pub total : Named TabledQuery → ℕ
total ps = sum_of (covered_in (entries_of ps))

pub total-set : (ps : Named TabledQuery) (i : ℕ) (v w : TabledQuery) → option_map (λ p. p.1) (slice_get ps i) ≡ Some v → total (with_value ps i w) + count_of v.tables ≡ total ps + count_of w.tables
total-set [] i v w at = let bad : ⊥ = cc in absurd bad
total-set (p ∷ ps) zero v w at =
    let e : count_of p.1.tables ≡ count_of v.tables = ap (λ x. count_of x.tables) (some_is at) in
    omega (arith, e)
total-set (p ∷ ps) (suc i) v w at = omega (arith, total-set ps i v w at)

pub changes-length : (R : TabledQuery → TabledQuery → Type 0) (n : ℕ) (ps qs : Named TabledQuery) → ChangesFirst R n ps qs → length qs ≡ length ps
changes-length R zero ps qs h = ap length h
changes-length R (suc n) [] qs h = ap length h
changes-length R (suc n) (p ∷ ps) [] h = absurd h
changes-length R (suc n) (p ∷ ps) (q ∷ qs) h = ap suc (changes-length R n ps qs h.2)

-- the first index is changed
first-step : (R : TabledQuery → TabledQuery → Type 0) (ps rs : Named TabledQuery) → ChangesAt R 0 ps rs → ChangesFirst R 1 ps rs
first-step R [] rs c = c.set
first-step R (p ∷ ps) rs c = subst (ChangesFirst R 1 (p ∷ ps)) (sym c.set) (refl, subst (λ v. R v c.after) (sym (some_is c.there)) c.allowed, refl)

later-index : (R : TabledQuery → TabledQuery → Type 0) (n : ℕ) (q : List ℕ × TabledQuery) (qs : Named TabledQuery) (rs : Named TabledQuery) → (c : ChangesAt R (suc n) (q ∷ qs) rs) → ChangesAt R n qs (with_value qs n c.after)
later-index R n q qs rs c = record { before = c.before; after = c.after; there = c.there; set = refl; allowed = c.allowed }

pub changes-step : (R : TabledQuery → TabledQuery → Type 0) (n : ℕ) (ps qs rs : Named TabledQuery) → ChangesFirst R n ps qs → ChangesAt R n qs rs → ChangesFirst R (suc n) ps rs
changes-step R zero ps qs rs h c = first-step R ps rs (subst (λ xs. ChangesAt R 0 xs rs) h c)
changes-step R (suc n) [] qs rs h c =
    let bad : None ≡ Some c.before = sym (ap (λ xs. option_map (λ p. p.1) (slice_get xs (suc n))) h) ∙ c.there in
    let no : ⊥ = cc in absurd no
changes-step R (suc n) (p ∷ ps) [] rs h c = absurd h
changes-step R (suc n) (p ∷ ps) (q ∷ qs) rs h c =
    subst (ChangesFirst R (suc (suc n)) (p ∷ ps)) (sym c.set) (h.0, h.1, changes-step R n ps qs (with_value qs n c.after) h.2 (later-index R n q qs rs c))

pub changes-map : (R S : TabledQuery → TabledQuery → Type 0) → ((v w : TabledQuery) → R v w → S v w) → (n : ℕ) (ps qs : Named TabledQuery) → ChangesFirst R n ps qs → ChangesFirst S n ps qs
changes-map R S f zero ps qs h = h
changes-map R S f (suc n) [] qs h = h
changes-map R S f (suc n) (p ∷ ps) [] h = h
changes-map R S f (suc n) (p ∷ ps) (q ∷ qs) h = (h.0, f p.1 q.1 h.1, changes-map R S f n ps qs h.2)

all-stay : (ns : List Node) (ps : Named TabledQuery) → AreSound ps → AreServed ns (entries_of ps) → ChangesFirst (MayGrow ns) (length ps) ps ps
all-stay ns [] k s = refl
all-stay ns (p ∷ ps) k s = (refl, stays ns p.1 k.0 s.0, all-stay ns ps k.1 s.1)

-- those that are unchanged may have got tables too
pub changes-all : (ns : List Node) (n : ℕ) (ps qs : Named TabledQuery) → AreSound ps → AreServed ns (entries_of ps) → ChangesFirst (MayGrow ns) n ps qs → ChangesFirst (MayGrow ns) (length ps) ps qs
changes-all ns zero ps qs k s h = subst (ChangesFirst (MayGrow ns) (length ps) ps) (sym h) (all-stay ns ps k s)
changes-all ns (suc n) [] qs k s h = h
changes-all ns (suc n) (p ∷ ps) [] k s h = absurd h
changes-all ns (suc n) (p ∷ ps) (q ∷ qs) k s h = (h.0, h.1, changes-all ns n ps qs k.1 s.1 h.2)

pub sound-after : (ns : List Node) (ps qs : Named TabledQuery) → AreSound ps → ChangesFirst (MayGrow ns) (length ps) ps qs → AreSound qs
sound-after ns [] qs k h = subst AreSound (sym h) tt
sound-after ns (p ∷ ps) [] k h = absurd h
sound-after ns (p ∷ ps) (q ∷ qs) k h = (h.1.sound, sound-after ns ps qs k.1 h.2)

pub served-after : (ns : List Node) (ps qs : Named TabledQuery) → ChangesFirst (MayGrow ns) (length ps) ps qs → AreServed ns (entries_of qs)
served-after ns [] qs h = subst (λ xs. AreServed ns (entries_of xs)) (sym h) tt
served-after ns (p ∷ ps) [] h = absurd h
served-after ns (p ∷ ps) (q ∷ qs) h = (h.1.served, served-after ns ps qs h.2)

pub queries-after : (ns : List Node) (ps qs : Named TabledQuery) → ChangesFirst (MayGrow ns) (length ps) ps qs → queries_in (entries_of qs) ≡ queries_in (entries_of ps)
queries-after ns [] qs h = ap (λ xs. queries_in (entries_of xs)) h
queries-after ns (p ∷ ps) [] h = absurd h
queries-after ns (p ∷ ps) (q ∷ qs) h = λ j. (h.0 j, query_of (h.1.query j).tree) ∷ queries-after ns ps qs h.2 j

pub counted-after : (ns : List Node) (ps qs : Named TabledQuery) → ChangesFirst (MayGrow ns) (length ps) ps qs → counted_in (entries_of qs) ≡ counted_in (entries_of ps)
counted-after ns [] qs h = ap (λ xs. counted_in (entries_of xs)) h
counted-after ns (p ∷ ps) [] h = absurd h
counted-after ns (p ∷ ps) (q ∷ qs) h = λ j. (h.0 j, unwrap_or (option_map counting.count_of (h.1.counts j)) 0) ∷ counted-after ns ps qs h.2 j

pub partly-after : (ns : List Node) (ps qs : Named TabledQuery) → ChangesFirst (MayGrow ns) (length ps) ps qs → ArePartlyAt (length ns) (covered_in (entries_of ps)) (covered_in (entries_of qs))
partly-after ns [] qs h = subst (λ xs. ArePartlyAt (length ns) [] (covered_in (entries_of xs))) (sym h) tt
partly-after ns (p ∷ ps) [] h = absurd h
partly-after ns (p ∷ ps) (q ∷ qs) h = (h.0, h.1.count, partly-after ns ps qs h.2)

pub covered-after : (ns : List Node) (ps qs : Named TabledQuery) → ChangesFirst (Grows ns) (length ps) ps qs → covered_in (entries_of qs) ≡ all_at (length ns) (covered_in (entries_of ps))
covered-after ns [] qs h = ap (λ xs. covered_in (entries_of xs)) h
covered-after ns (p ∷ ps) [] h = absurd h
covered-after ns (p ∷ ps) (q ∷ qs) h = λ j. (h.0 j, h.1.all j) ∷ covered-after ns ps qs h.2 j

-- names and no numbers
all-same : (n : ℕ) (ps : Named ℕ) → all_at n (all_at n ps) ≡ all_at n ps
all-same n [] = refl
all-same n (p ∷ ps) = ap (λ qs. (p.0, n) ∷ qs) (all-same n ps)

pub covers-after : (ns : List Node) (most : ℕ) (ps qs : Named TabledQuery) → ChangesFirst (MayGrow ns) (length ps) ps qs → ChangesFirst (Grows ns) (length ps) ps qs → Covers ns (book_of most qs)
covers-after ns most ps qs m h =
    let e = covered-after ns ps qs h in
    record { serves = served-after ns ps qs m; all = e ∙ (sym (all-same (length ns) (covered_in (entries_of ps))) ∙ ap (all_at (length ns)) (sym e)) }
