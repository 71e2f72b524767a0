-- The numbers of names, from the contract of `Vars::number_of`.
use Rattle.std.proofs.Common.{◌≡◌, ◌≢◌, ℕ, zero, suc, ◌<◌, ◌≤◌, ◌⊎◌, inl, inr, Bool, true, false, refl, sym, ap, subst, ◌∙◌, arith, List, [], ◌∷◌, ◌++◌, length, Some, if◌then◌else◌, slice_get}
use Rattle.std.specs.Prelude.{Contains, AllPairs}
use Rattle.std.specs.Str.{bytes_eq}
use Rattle.std.proofs.lemmas.Slice.Eq.{bytes_eq-Decides}
use Rattle.std.proofs.lemmas.Option.{slice_get_within, get_or_from_slice_get}
use Rattle.span_types.specs.VarList.{Adds, AreVars}
use Rattle.formula_syntax.specs.Numbering.{Names, number_in, seen}

other : (y x : List ℕ) → bytes_eq y x ≡ false → y ≡ x → ⊥
other y x q e = let bad : true ≡ false = sym ((bytes_eq-Decides y x).1 e) ∙ q in cc

split : (y : List ℕ) (ys : Names) (x : List ℕ) → Contains (y ∷ ys) x → (y ≡ x) ⊎ Contains ys x
split y ys x (zero, lt, e) = inl e
split y ys x (suc k, lt, e) = inr (k, omega (arith, lt), e)

first : (y : List ℕ) (ys : Names) (x : List ℕ) → y ≡ x → Contains (y ∷ ys) x
first y ys x e = (0, omega arith, e)

later : (y : List ℕ) (ys : Names) (x : List ℕ) → Contains ys x → Contains (y ∷ ys) x
later y ys x (k, lt, e) = (suc k, omega (arith, lt), e)

none : (x : List ℕ) → Contains [] x → ⊥
none x (k, lt, e) = absurd (omega (arith, lt))

seen-there : (ys : Names) (x : List ℕ) → Contains ys x → seen ys x ≡ ys
seen-there [] x h = absurd (none x h)
seen-there (y ∷ ys) x h = go (bytes_eq y x) refl (split y ys x h) (seen-there ys x)
  where
    go : (t : Bool) → bytes_eq y x ≡ t → (y ≡ x) ⊎ Contains ys x → (Contains ys x → seen ys x ≡ ys) → (if t then y ∷ ys else y ∷ seen ys x) ≡ y ∷ ys
    go true q m rest = refl
    go false q (inl e) rest = absurd (other y x q e)
    go false q (inr m) rest = ap (λ z. y ∷ z) (rest m)

seen-new : (ys : Names) (x : List ℕ) → (Contains ys x → ⊥) → seen ys x ≡ ys ++ x ∷ []
seen-new [] x h = refl
seen-new (y ∷ ys) x h = go (bytes_eq y x) refl (seen-new ys x (λ m. h (later y ys x m)))
  where
    go : (t : Bool) → bytes_eq y x ≡ t → seen ys x ≡ ys ++ x ∷ [] → (if t then y ∷ ys else y ∷ seen ys x) ≡ y ∷ (ys ++ x ∷ [])
    go true q rest = absurd (h (first y ys x ((bytes_eq-Decides y x).0 q)))
    go false q rest = ap (λ z. y ∷ z) rest

known : (ys : Names) (x : List ℕ) → Contains ys x ⊎ (Contains ys x → ⊥)
known [] x = inr (none x)
known (y ∷ ys) x = go (bytes_eq y x) refl (known ys x)
  where
    go : (t : Bool) → bytes_eq y x ≡ t → Contains ys x ⊎ (Contains ys x → ⊥) → Contains (y ∷ ys) x ⊎ (Contains (y ∷ ys) x → ⊥)
    go true q m = inl (first y ys x ((bytes_eq-Decides y x).0 q))
    go false q (inl m) = inl (later y ys x m)
    go false q (inr m) = inr (λ h. elim (split y ys x h) [ inl e ↦ other y x q e | inr k ↦ m k ])

pub adds-seen : (old new : Names) (x : List ℕ) → Adds old new x → new ≡ seen old x
adds-seen old new x a = elim (known old x) [
  | inl h ↦ a.there h ∙ sym (seen-there old x h)
  | inr h ↦ a.missing h ∙ sym (seen-new old x h)
]

-- a new name has the next number
pub number-new : (ys : Names) (x : List ℕ) → (Contains ys x → ⊥) → number_in ys x ≡ length ys
number-new [] x h = refl
number-new (y ∷ ys) x h = go (bytes_eq y x) refl (number-new ys x (λ m. h (later y ys x m)))
  where
    go : (t : Bool) → bytes_eq y x ≡ t → number_in ys x ≡ length ys → (if t then 0 else suc (number_in ys x)) ≡ suc (length ys)
    go true q rest = absurd (h (first y ys x ((bytes_eq-Decides y x).0 q)))
    go false q rest = ap suc rest

some-is : (y x : List ℕ) → Some y ≡ Some x → y ≡ x
some-is y x e = cc

rest-apart : (y : List ℕ) (ys : Names) → AllPairs (λ a b. a ≢ b) (y ∷ ys) → AllPairs (λ a b. a ≢ b) ys
rest-apart y ys h i j d lt in_list = h (suc i) (suc j) d (omega (arith, lt)) (omega (arith, in_list))

-- in a list of different names a name has one index
index-is : (ys : Names) (x : List ℕ) (v : ℕ) → AllPairs (λ a b. a ≢ b) (seen ys x) → slice_get (seen ys x) v ≡ Some x → v ≡ number_in ys x
index-is [] x zero h e = refl
index-is [] x (suc v) h e = absurd (cc)
index-is (y ∷ ys) x v h e = go (bytes_eq y x) refl v h e (index-is ys x)
  where
    go : (t : Bool) → bytes_eq y x ≡ t → (v : ℕ) → AllPairs (λ a b. a ≢ b) (if t then y ∷ ys else y ∷ seen ys x) → slice_get (if t then y ∷ ys else y ∷ seen ys x) v ≡ Some x
        → ((w : ℕ) → AllPairs (λ a b. a ≢ b) (seen ys x) → slice_get (seen ys x) w ≡ Some x → w ≡ number_in ys x) → v ≡ (if t then 0 else suc (number_in ys x))
    go true q zero h e rest = refl
    go true q (suc w) h e rest = absurd (h 0 (suc w) x (omega arith) (omega (arith, slice_get_within ys w x e)) ((bytes_eq-Decides y x).0 q ∙ sym (get_or_from_slice_get ys w x x e)))
    go false q zero h e rest = absurd (other y x q (some-is y x e))
    go false q (suc w) h e rest = ap suc (rest w (rest-apart y (seen ys x) h) e)

pub number-is : (old new : Names) (x : List ℕ) (v : ℕ) → Adds old new x → AreVars new → slice_get new v ≡ Some x → v ≡ number_in old x
number-is old new x v a vars e =
    let s = adds-seen old new x a in
    let A : Names → Type 0 = λ z. AllPairs (λ p q. p ≢ q) z in
    let G : Names → Type 0 = λ z. slice_get z v ≡ Some x in
    index-is old x v (subst A s vars.distinct) (subst G s e)

pub number-small : (new : Names) (x : List ℕ) (v : ℕ) → slice_get new v ≡ Some x → length new ≤ 8 → v < 8
number-small new x v e le = omega (arith, slice_get_within new v x e, le)
