-- Facts about the map's queries, as facts about the registry.
use Rattle.std.proofs.Common.{◌≡◌, ℕ, Bool, true, false, cond, List, [], ◌∷◌, map, Some, refl, sym, ap, subst, ◌∙◌}
use Rattle.std.specs.Prelude.{unwrap_or}
use Rattle.std.specs.List.{IsDistinct}
use Rattle.query_book.specs.declared.entry.Entry.{Entry}
use Rattle.query_book.specs.declared.entry.TabledQuery.{TabledQuery}
use Rattle.query_book.specs.Named.{Named, is_same, value_of, put, taken_out, AreDistinctNames}
use Rattle.query_book.specs.Book.{entry, entries_of, queries_in, tabled_in, with_entry, without_entry}
use Rattle.query_book.specs.Kept.{IsSound, AreSound}

some_is : {X : Type 0} {x y : X} → Some x ≡ Some y → x ≡ y
some_is {X} {x} p = ap (λ o. unwrap_or o x) p

entries-cond : (b : Bool) (ps qs : Named TabledQuery) → entries_of (cond b ps qs) ≡ cond b (entries_of ps) (entries_of qs)
entries-cond true ps qs = refl
entries-cond false ps qs = refl

pub tabled-entries : (ps : Named TabledQuery) (name : List ℕ) → tabled_in (entries_of ps) name ≡ value_of ps name
tabled-entries [] name = refl
tabled-entries (p ∷ ps) name = ap (λ o. cond (is_same name p.0) (Some p.1) o) (tabled-entries ps name)

pub put-entries : (ps : Named TabledQuery) (x : Entry) → entries_of (put ps x.name x.tabled) ≡ with_entry (entries_of ps) x
put-entries [] x = refl
put-entries (p ∷ ps) x =
    entries-cond (is_same x.name p.0) ((x.name, x.tabled) ∷ ps) (p ∷ put ps x.name x.tabled)
    ∙ ap (λ es. cond (is_same x.name p.0) (x ∷ entries_of ps) (entry p ∷ es)) (put-entries ps x)

pub taken_out-entries : (ps : Named TabledQuery) (name : List ℕ) → entries_of (taken_out ps name) ≡ without_entry (entries_of ps) name
taken_out-entries [] name = refl
taken_out-entries (p ∷ ps) name =
    entries-cond (is_same name p.0) ps (p ∷ taken_out ps name)
    ∙ ap (λ es. cond (is_same name p.0) (entries_of ps) (entry p ∷ es)) (taken_out-entries ps name)

pub value-sound : (ps : Named TabledQuery) (name : List ℕ) (t : TabledQuery) → AreSound ps → value_of ps name ≡ Some t → IsSound t
value-sound [] name t h q = let bad : ⊥ = cc in absurd bad
value-sound (p ∷ ps) name t h q = by (is_same name p.0) q (value-sound ps name t h.1)
  where
    by : (b : Bool) → cond b (Some p.1) (value_of ps name) ≡ Some t → (value_of ps name ≡ Some t → IsSound t) → IsSound t
    by true r rest = subst IsSound (some_is r) h.0
    by false r rest = rest r

pub AreSound-put : (ps : Named TabledQuery) (name : List ℕ) (t : TabledQuery) → AreSound ps → IsSound t → AreSound (put ps name t)
AreSound-put [] name t h s = (s, tt)
AreSound-put (p ∷ ps) name t h s = by (is_same name p.0) (AreSound-put ps name t h.1 s)
  where
    by : (b : Bool) → AreSound (put ps name t) → AreSound (cond b ((name, t) ∷ ps) (p ∷ put ps name t))
    by true rest = (s, h.1)
    by false rest = (h.0, rest)

pub AreSound-taken_out : (ps : Named TabledQuery) (name : List ℕ) → AreSound ps → AreSound (taken_out ps name)
AreSound-taken_out [] name h = tt
AreSound-taken_out (p ∷ ps) name h = by (is_same name p.0) (AreSound-taken_out ps name h.1)
  where
    by : (b : Bool) → AreSound (taken_out ps name) → AreSound (cond b ps (p ∷ taken_out ps name))
    by true rest = h.1
    by false rest = (h.0, rest)

names-entries : (ps : Named TabledQuery) → map (λ q. q.0) (queries_in (entries_of ps)) ≡ map (λ p. p.0) ps
names-entries [] = refl
names-entries (p ∷ ps) = ap (λ ns. p.0 ∷ ns) (names-entries ps)

pub names-distinct : (ps : Named TabledQuery) → AreDistinctNames ps → AreDistinctNames (queries_in (entries_of ps))
names-distinct ps d = subst (IsDistinct is_same) (sym (names-entries ps)) d
