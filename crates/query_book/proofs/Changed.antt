-- Facts about the map's queries when the one of a name changes.
use Rattle.std.proofs.Common.{◌≡◌, ◌⊎◌, ◌↔◌, inl, inr, ℕ, Bool, true, false, cond, List, [], ◌∷◌, Some, None, Result, Ok, Err, OnOk, OnErr, refl, sym, ap, subst, ◌∙◌}
use Rattle.std.specs.Prelude.{unwrap_or, MatchResult, IsErrOf}
use Rattle.std.specs.Option.{option_map}
use Rattle.std.specs.Cmp.Lexicographic.{bytes_decides}
use Rattle.span_types.specs.Query.{query_of}
use Rattle.slp_model.specs.declared.Node.{Node}
use Rattle.name_map.proofs.NamedLaws.{value_of-put}
use Rattle.query_book.specs.declared.entry.TabledQuery.{TabledQuery}
use Rattle.query_book.specs.declared.refusal.BookRefusal.{BookRefusal}
use Rattle.query_book.specs.declared.refusal.BookRefusal.TheVariants.{NoSuchQuery, NoMemory}
use Rattle.query_book.specs.Named.{Named, is_same, put, value_of}
use Rattle.query_book.specs.Book.{entry, entries_of, queries_in, tabled_in}
use Rattle.query_book.specs.Serving.{ArePartlyAt, AreServed, IsServed}
use Rattle.query_book.specs.Kept.{AreSound, IsSound}
use Rattle.query_book.specs.Growing.{ChangesAt, ChangesNamed, Fails, IsIndexOf}
use Rattle.query_book.proofs.Entries.{AreSound-put, put-entries, tabled-entries}
use Rattle.query_book.proofs.Served.{serves-with_entry}
use Rattle.query_book.proofs.Views.{by_name, by_name-with_entry, value-by_name}

some_is : {X : Type 0} {x y : X} → Some x ≡ Some y → x ≡ y
some_is {X} {x} p = ap (λ o. unwrap_or o x) p

pub changed-named : (R : TabledQuery → TabledQuery → Type 0) (ps rs : Named TabledQuery) (name : List ℕ) (i : ℕ) → IsIndexOf ps name i → ChangesAt R i ps rs → ChangesNamed R name ps rs
changed-named R ps rs name i is c = record { before = c.before; after = c.after; there = sym is.value ∙ c.there; set = c.set ∙ is.set c.after; allowed = c.allowed }

-- the value that a name has, set again
put-same : {A : Type 0} (ps : Named A) (name : List ℕ) (v : A) → value_of ps name ≡ Some v → put ps name v ≡ ps
put-same [] name v there = let bad : ⊥ = cc in absurd bad
put-same (p ∷ ps) name v there = by (is_same name p.0) refl there (put-same ps name v)
  where
    by : (b : Bool) → is_same name p.0 ≡ b → cond b (Some p.1) (value_of ps name) ≡ Some v → (value_of ps name ≡ Some v → put ps name v ≡ ps) → cond b ((name, v) ∷ ps) (p ∷ put ps name v) ≡ p ∷ ps
    by true e q rest = λ j. ((bytes_decides name p.0).0 e j, some_is (sym q) j) ∷ ps
    by false e q rest = ap (λ xs. p ∷ xs) (rest q)

partly-same : (n : ℕ) (ps : Named ℕ) → ArePartlyAt n ps ps
partly-same n [] = tt
partly-same n (p ∷ ps) = (refl, inl refl, partly-same n ps)

partly-put : (n : ℕ) (ps : Named ℕ) (name : List ℕ) (k : ℕ) → value_of ps name ≡ Some k → ArePartlyAt n ps (put ps name n)
partly-put n [] name k there = let bad : ⊥ = cc in absurd bad
partly-put n (p ∷ ps) name k there = by (is_same name p.0) refl there (partly-put n ps name k)
  where
    by : (b : Bool) → is_same name p.0 ≡ b → cond b (Some p.1) (value_of ps name) ≡ Some k → (value_of ps name ≡ Some k → ArePartlyAt n ps (put ps name n)) → ArePartlyAt n (p ∷ ps) (cond b ((name, n) ∷ ps) (p ∷ put ps name n))
    by true e q rest = ((bytes_decides name p.0).0 e, inr refl, partly-same n ps)
    by false e q rest = (refl, inl refl, rest q)

missing-not : (ps : Named TabledQuery) (name : List ℕ) (v : TabledQuery) → value_of ps name ≡ Some v → value_of (queries_in (entries_of ps)) name ≡ None → ⊥
missing-not ps name v there none =
    let found = value-by_name (λ t. query_of t.query.tree) (entries_of ps) name ∙ ap (λ o. option_map (λ (t : TabledQuery). query_of t.query.tree) o) (tabled-entries ps name ∙ there) in
    let bad : ⊥ = cc (sym found ∙ none) in bad

missing-is : (ps : Named TabledQuery) (name : List ℕ) → value_of ps name ≡ None → value_of (queries_in (entries_of ps)) name ≡ None
missing-is ps name none = value-by_name (λ t. query_of t.query.tree) (entries_of ps) name ∙ ap (λ o. option_map (λ (t : TabledQuery). query_of t.query.tree) o) (tabled-entries ps name ∙ none)

-- what holds of each query and its tables holds after one was changed
module _ {A : Type 0} (g : TabledQuery → A) (R : TabledQuery → TabledQuery → Type 0) (name : List ℕ) (ps qs : Named TabledQuery) (c : ChangesNamed R name ps qs) where
  view-there : value_of (by_name g (entries_of ps)) name ≡ Some (g c.before)
  view-there = value-by_name g (entries_of ps) name ∙ ap (λ o. option_map g o) (tabled-entries ps name ∙ c.there)

  view-set : by_name g (entries_of qs) ≡ put (by_name g (entries_of ps)) name (g c.after)
  view-set =
      ap (λ xs. by_name g (entries_of xs)) c.set
      ∙ ap (by_name g) (put-entries ps (entry (name, c.after)))
      ∙ by_name-with_entry g (entries_of ps) (entry (name, c.after))

  view-same : g c.after ≡ g c.before → by_name g (entries_of qs) ≡ by_name g (entries_of ps)
  view-same e = view-set ∙ ap (λ x. put (by_name g (entries_of ps)) name x) e ∙ put-same (by_name g (entries_of ps)) name (g c.before) view-there

-- the outcome of a change that P allows or, after an allocation failure, Q
abbrev pub IsOutcome : (TabledQuery → TabledQuery → Type 0) → (TabledQuery → TabledQuery → Type 0) → List ℕ → Named TabledQuery → Named TabledQuery → Result (Unit {0}) BookRefusal → Type 0
IsOutcome P Q name ps qs r = MatchResult r (λ _. ChangesNamed P name ps qs) (Fails Q name ps qs)

module _ (P Q : TabledQuery → TabledQuery → Type 0) (name : List ℕ) (ps qs : Named TabledQuery) where
  pub missing-after : (r : Result (Unit {0}) BookRefusal) → IsOutcome P Q name ps qs r → IsErrOf r NoSuchQuery ↔ (value_of (queries_in (entries_of ps)) name ≡ None)
  missing-after (Ok _) c = (λ e. (let bad : ⊥ = cc e in absurd bad), λ none. absurd (missing-not ps name c.before c.there none))
  missing-after (Err NoSuchQuery) c = (λ e. missing-is ps name c.0, λ none. refl)
  missing-after (Err NoMemory) c = (λ e. (let bad : ⊥ = cc e in absurd bad), λ none. absurd (missing-not ps name c.before c.there none))

  -- the query after the change, if that succeeded
  pub found-after : (r : Result (Unit {0}) BookRefusal) → IsOutcome P Q name ps qs r → OnOk r ((t : TabledQuery) → tabled_in (entries_of qs) name ≡ Some t → (v : TabledQuery) × P v t)
  found-after (Err e) c = tt
  found-after (Ok _) c = λ t there.
      let found : value_of qs name ≡ Some c.after = ap (λ xs. value_of xs name) c.set ∙ value_of-put ps name c.after in
      let is : c.after ≡ t = some_is (sym found ∙ sym (tabled-entries qs name) ∙ there) in
      (c.before, subst (λ x. P c.before x) is c.allowed)

-- the number of a kind of tables, which becomes n or, after an allocation failure, is unchanged
module _ (P Q : TabledQuery → TabledQuery → Type 0) (name : List ℕ) (ps qs : Named TabledQuery) (number : TabledQuery → ℕ) (n : ℕ) (all : (v w : TabledQuery) → P v w → number w ≡ n) (same : (v w : TabledQuery) → Q v w → number w ≡ number v) where
  abbrev old-numbers : Named ℕ
  old-numbers = by_name number (entries_of ps)

  abbrev new-numbers : Named ℕ
  new-numbers = by_name number (entries_of qs)

  done : ChangesNamed P name ps qs → new-numbers ≡ put old-numbers name n
  done c = view-set number P name ps qs c ∙ ap (λ k. put old-numbers name k) (all c.before c.after c.allowed)

  pub done-after : (r : Result (Unit {0}) BookRefusal) → IsOutcome P Q name ps qs r → OnOk r (new-numbers ≡ put old-numbers name n)
  done-after (Ok _) c = done c
  done-after (Err e) c = tt

  pub err-after : (r : Result (Unit {0}) BookRefusal) → IsOutcome P Q name ps qs r → OnErr r (new-numbers ≡ old-numbers)
  err-after (Ok _) c = tt
  err-after (Err NoSuchQuery) c = ap (λ xs. by_name number (entries_of xs)) c.1
  err-after (Err NoMemory) c = view-same number Q name ps qs c (same c.before c.after c.allowed)

  pub some-after : (r : Result (Unit {0}) BookRefusal) → IsOutcome P Q name ps qs r → ArePartlyAt n old-numbers new-numbers
  some-after (Ok _) c = subst (ArePartlyAt n old-numbers) (sym (done c)) (partly-put n old-numbers name (number c.before) (view-there number P name ps qs c))
  some-after (Err e) c = subst (ArePartlyAt n old-numbers) (sym (err-after (Err e) c)) (partly-same n old-numbers)

-- what both changes do
module _ (P Q M : TabledQuery → TabledQuery → Type 0) (one : (v w : TabledQuery) → P v w → M v w) (other : (v w : TabledQuery) → Q v w → M v w) (name : List ℕ) (ps qs : Named TabledQuery) where
  -- the query of the name changes to one that M allows, or nothing changes
  abbrev May : Type 0
  May = ChangesNamed M name ps qs ⊎ (qs ≡ ps)

  may : (r : Result (Unit {0}) BookRefusal) → IsOutcome P Q name ps qs r → May
  may (Ok _) c = inl (record { before = c.before; after = c.after; there = c.there; set = c.set; allowed = one c.before c.after c.allowed })
  may (Err NoSuchQuery) c = inr c.1
  may (Err NoMemory) c = inl (record { before = c.before; after = c.after; there = c.there; set = c.set; allowed = other c.before c.after c.allowed })

  sound-may : ((v w : TabledQuery) → M v w → IsSound w) → AreSound ps → May → AreSound qs
  sound-may f sound (inl c) = subst AreSound (sym c.set) (AreSound-put ps name c.after sound (f c.before c.after c.allowed))
  sound-may f sound (inr e) = subst AreSound (sym e) sound

  pub sound-outcome : ((v w : TabledQuery) → M v w → IsSound w) → AreSound ps → (r : Result (Unit {0}) BookRefusal) → IsOutcome P Q name ps qs r → AreSound qs
  sound-outcome f sound r h = sound-may f sound (may r h)

  serves-may : (ns : List Node) → ((v w : TabledQuery) → M v w → IsServed ns w) → AreServed ns (entries_of ps) → May → AreServed ns (entries_of qs)
  serves-may ns f serves (inl c) =
      subst (AreServed ns) (sym (ap entries_of c.set ∙ put-entries ps (entry (name, c.after)))) (serves-with_entry ns (entries_of ps) (entry (name, c.after)) serves (f c.before c.after c.allowed))
  serves-may ns f serves (inr e) = subst (λ xs. AreServed ns (entries_of xs)) (sym e) serves

  pub serves-outcome : (ns : List Node) → ((v w : TabledQuery) → M v w → IsServed ns w) → AreServed ns (entries_of ps) → (r : Result (Unit {0}) BookRefusal) → IsOutcome P Q name ps qs r → AreServed ns (entries_of qs)
  serves-outcome ns f serves r h = serves-may ns f serves (may r h)

  view-may : {A : Type 0} (g : TabledQuery → A) → ((v w : TabledQuery) → M v w → g w ≡ g v) → May → by_name g (entries_of qs) ≡ by_name g (entries_of ps)
  view-may g f (inl c) = view-same g M name ps qs c (f c.before c.after c.allowed)
  view-may g f (inr e) = ap (λ xs. by_name g (entries_of xs)) e

  pub view-outcome : {A : Type 0} (g : TabledQuery → A) → ((v w : TabledQuery) → M v w → g w ≡ g v) → (r : Result (Unit {0}) BookRefusal) → IsOutcome P Q name ps qs r → by_name g (entries_of qs) ≡ by_name g (entries_of ps)
  view-outcome g f r h = view-may g f (may r h)
