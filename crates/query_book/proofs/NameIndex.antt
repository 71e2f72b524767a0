-- The index of a name, searched for from the first value on.
use Rattle.std.proofs.Common.{◌≡◌, ◌↔◌, ℕ, zero, suc, Bool, true, false, cond, List, [], ◌∷◌, length, slice_get, Some, None, IsTrue, refl, sym, ap, subst, ◌∙◌, arith}
use Rattle.std.specs.Prelude.{unwrap_or}
use Rattle.std.specs.Cmp.Lexicographic.{bytes_decides}
use Rattle.query_book.specs.declared.entry.TabledQuery.{TabledQuery}
use Rattle.query_book.specs.Named.{Named, is_same, put, value_of}
use Rattle.query_book.specs.Growing.{IsIndexOf}

some_is : {X : Type 0} {x y : X} → Some x ≡ Some y → x ≡ y
some_is {X} {x} p = ap (λ o. unwrap_or o x) p

-- a test of names, as the map's test
pub same-by : (b : Bool) (n m r : List ℕ) → IsTrue b ↔ (n ≡ r) → r ≡ m → b ≡ true → is_same n m ≡ true
same-by b n m r decides is e = (bytes_decides n m).1 (decides.0 e ∙ is)

pub other-by : (b : Bool) (n m r : List ℕ) → IsTrue b ↔ (n ≡ r) → r ≡ m → b ≡ false → is_same n m ≡ false
other-by b n m r decides is e = by (is_same n m) refl
  where
    by : (x : Bool) → is_same n m ≡ x → is_same n m ≡ false
    by false q = q
    by true q = let bad : true ≡ false = sym (decides.1 ((bytes_decides n m).0 q ∙ sym is)) ∙ e in absurd (cc)

-- none of the first n values has the name
abbrev pub AreOthers : ℕ → Named TabledQuery → List ℕ → Type 0
AreOthers zero ps name = Unit {0}
AreOthers (suc n) [] name = Unit {0}
AreOthers (suc n) (p ∷ ps) name = (is_same name p.0 ≡ false) × AreOthers n ps name

pub others-step : (n : ℕ) (ps : Named TabledQuery) (name : List ℕ) (p : List ℕ × TabledQuery) → AreOthers n ps name → slice_get ps n ≡ Some p → is_same name p.0 ≡ false → AreOthers (suc n) ps name
others-step n [] name p h at other = tt
others-step zero (q ∷ ps) name p h at other = (subst (λ (x : List ℕ × TabledQuery). is_same name x.0 ≡ false) (sym (some_is at)) other, tt)
others-step (suc n) (q ∷ ps) name p h at other = (h.0, others-step n ps name p h.1 at other)

pub index-found : (n : ℕ) (ps : Named TabledQuery) (name : List ℕ) (p : List ℕ × TabledQuery) → AreOthers n ps name → slice_get ps n ≡ Some p → is_same name p.0 ≡ true → IsIndexOf ps name n
index-found n [] name p h at same = let bad : ⊥ = cc in absurd bad
index-found zero (q ∷ ps) name p h at same =
    let t : is_same name q.0 ≡ true = subst (λ (x : List ℕ × TabledQuery). is_same name x.0 ≡ true) (sym (some_is at)) same in
    record {
      within = omega arith;
      value = ap (λ b. cond b (Some q.1) (value_of ps name)) (sym t);
      set = λ v. ap (λ (x : List ℕ). (x, v) ∷ ps) (sym ((bytes_decides name q.0).0 t)) ∙ ap (λ b. cond b ((name, v) ∷ ps) (q ∷ put ps name v)) (sym t);
    }
index-found (suc n) (q ∷ ps) name p h at same =
    let r = index-found n ps name p h.1 at same in
    record {
      within = omega (arith, r.within);
      value = r.value ∙ ap (λ b. cond b (Some q.1) (value_of ps name)) (sym h.0);
      set = λ v. ap (λ (xs : Named TabledQuery). q ∷ xs) (r.set v) ∙ ap (λ b. cond b ((name, v) ∷ ps) (q ∷ put ps name v)) (sym h.0);
    }

pub index-none : (ps : Named TabledQuery) (name : List ℕ) → AreOthers (length ps) ps name → value_of ps name ≡ None
index-none [] name h = refl
index-none (q ∷ ps) name h = ap (λ b. cond b (Some q.1) (value_of ps name)) h.0 ∙ index-none ps name h.1
