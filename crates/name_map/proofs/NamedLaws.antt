-- Laws of values by name.
use Rattle.std.proofs.Common.{◌≡◌, ℕ, suc, Bool, true, false, cond, zero, List, [], ◌∷◌, length, map, Option, Some, None, is_some, refl, sym, ap, subst, ◌∙◌}
use Rattle.std.specs.Cmp.Lexicographic.{same_text, bytes_decides}
use Rattle.std.specs.Prelude.{IfNone}
use Rattle.std.specs.List.{AllByRecursion}
use Rattle.std.proofs.lemmas.Map.Keys.{IsDistinct-head, IsDistinct-tail}
use Rattle.name_map.specs.Named.{Named, is_same, value_of, put, taken_out, with_value, AreDistinctNames}

pub same-self : (n : List ℕ) → is_same n n ≡ true
same-self n = (bytes_decides n n).1 refl

module _ {A : Type 0} where
  -- a name has the value that it was given last
  pub value_of-put : (ps : Named A) (n : List ℕ) (v : A) → value_of (put ps n v) n ≡ Some v
  value_of-put [] n v = ap (λ b. cond b (Some v) None) (same-self n)
  value_of-put (p ∷ ps) n v = by (is_same n p.0) refl (value_of-put ps n v)
    where
      by : (b : Bool) → b ≡ is_same n p.0 → value_of (put ps n v) n ≡ Some v → value_of (cond b ((n, v) ∷ ps) (p ∷ put ps n v)) n ≡ Some v
      by true q rest = ap (λ b. cond b (Some v) (value_of ps n)) (same-self n)
      by false q rest = ap (λ b. cond b (Some p.1) (value_of (put ps n v) n)) (sym q) ∙ rest

  -- and the others keep theirs
  pub value_of-put-other : (ps : Named A) (n m : List ℕ) (v : A) → is_same m n ≡ false → value_of (put ps n v) m ≡ value_of ps m
  value_of-put-other [] n m v o = ap (λ b. cond b (Some v) None) o
  value_of-put-other (p ∷ ps) n m v o = by (is_same n p.0) refl (value_of-put-other ps n m v o)
    where
      by : (b : Bool) → b ≡ is_same n p.0 → value_of (put ps n v) m ≡ value_of ps m → value_of (cond b ((n, v) ∷ ps) (p ∷ put ps n v)) m ≡ value_of (p ∷ ps) m
      by true q rest =
          let other : is_same m p.0 ≡ false = subst (λ k. is_same m k ≡ false) (same_text n p.0 q) o in
          ap (λ b. cond b (Some v) (value_of ps m)) o ∙ sym (ap (λ b. cond b (Some p.1) (value_of ps m)) other)
      by false q rest = ap (λ r. cond (is_same m p.0) (Some p.1) r) rest

  -- the other names keep theirs where a name is taken out
  pub value_of-taken_out-other : (ps : Named A) (n m : List ℕ) → is_same m n ≡ false → value_of (taken_out ps n) m ≡ value_of ps m
  value_of-taken_out-other [] n m o = refl
  value_of-taken_out-other (p ∷ ps) n m o = by (is_same n p.0) refl (value_of-taken_out-other ps n m o)
    where
      by : (b : Bool) → b ≡ is_same n p.0 → value_of (taken_out ps n) m ≡ value_of ps m → value_of (cond b ps (p ∷ taken_out ps n)) m ≡ value_of (p ∷ ps) m
      by true q rest =
          let other : is_same m p.0 ≡ false = subst (λ k. is_same m k ≡ false) (same_text n p.0 q) o in
          sym (ap (λ b. cond b (Some p.1) (value_of ps m)) other)
      by false q rest = ap (λ r. cond (is_same m p.0) (Some p.1) r) rest

  -- where there is no such name, nothing is taken out
  pub taken_out-missing : (ps : Named A) (n : List ℕ) → value_of ps n ≡ None → taken_out ps n ≡ ps
  taken_out-missing [] n q = refl
  taken_out-missing (p ∷ ps) n q = by (is_same n p.0) q (taken_out-missing ps n)
    where
      by : (b : Bool) → cond b (Some p.1) (value_of ps n) ≡ None → (value_of ps n ≡ None → taken_out ps n ≡ ps) → cond b ps (p ∷ taken_out ps n) ≡ p ∷ ps
      by true r rest = absurd (cc r)
      by false r rest = ap (λ qs. p ∷ qs) (rest r)

  -- and where there is one, one is
  pub length-taken_out : (ps : Named A) (n : List ℕ) (v : A) → value_of ps n ≡ Some v → suc (length (taken_out ps n)) ≡ length ps
  length-taken_out [] n v q = absurd (cc q)
  length-taken_out (p ∷ ps) n v q = by (is_same n p.0) q (length-taken_out ps n v)
    where
      by : (b : Bool) → cond b (Some p.1) (value_of ps n) ≡ Some v → (value_of ps n ≡ Some v → suc (length (taken_out ps n)) ≡ length ps) → suc (length (cond b ps (p ∷ taken_out ps n))) ≡ suc (length ps)
      by true r rest = refl
      by false r rest = ap suc (rest r)

  -- a name that is apart from all isn't there
  apart-missing : (ps : Named A) (n : List ℕ) → AllByRecursion (λ m. is_same n m ≡ false) (map (λ p. p.0) ps) → value_of ps n ≡ None
  apart-missing [] n a = refl
  apart-missing (p ∷ ps) n a = ap (λ b. cond b (Some p.1) (value_of ps n)) a.0 ∙ apart-missing ps n a.1

  -- the name that is taken out is gone
  pub value_of-taken_out : (ps : Named A) (n : List ℕ) → AreDistinctNames ps → value_of (taken_out ps n) n ≡ None
  value_of-taken_out [] n d = refl
  value_of-taken_out (p ∷ ps) n d = by (is_same n p.0) refl (value_of-taken_out ps n (IsDistinct-tail is_same p.0 (map (λ q. q.0) ps) d)) (apart-missing ps p.0 (IsDistinct-head is_same p.0 (map (λ q. q.0) ps) d))
    where
      by : (b : Bool) → b ≡ is_same n p.0 → value_of (taken_out ps n) n ≡ None → value_of ps p.0 ≡ None → value_of (cond b ps (p ∷ taken_out ps n)) n ≡ None
      by true q rest apart = subst (λ m. value_of ps m ≡ None) (sym (same_text n p.0 q)) apart
      by false q rest apart = ap (λ b. cond b (Some p.1) (value_of (taken_out ps n) n)) (sym q) ∙ rest

  -- a name without a value changes nothing where it is taken out
  pub taken_out-none : (ps : Named A) (n : List ℕ) (o : Option A) → o ≡ value_of ps n → IfNone o (taken_out ps n ≡ ps)
  taken_out-none ps n None q = taken_out-missing ps n (sym q)
  taken_out-none ps n (Some v) q = tt

  -- a value that is written at a place adds no name and takes none away
  pub is_some-with_value : (ps : Named A) (i : ℕ) (w : A) (n : List ℕ) → is_some (value_of (with_value ps i w) n) ≡ is_some (value_of ps n)
  is_some-with_value [] i w n = refl
  is_some-with_value (p ∷ ps) zero w n = by (is_same n p.0)
    where
      by : (b : Bool) → is_some (cond b (Some w) (value_of ps n)) ≡ is_some (cond b (Some p.1) (value_of ps n))
      by true = refl
      by false = refl
  is_some-with_value (p ∷ ps) (suc i) w n = by (is_same n p.0) (is_some-with_value ps i w n)
    where
      by : (b : Bool) → is_some (value_of (with_value ps i w) n) ≡ is_some (value_of ps n) → is_some (cond b (Some p.1) (value_of (with_value ps i w) n)) ≡ is_some (cond b (Some p.1) (value_of ps n))
      by true rest = refl
      by false rest = rest
