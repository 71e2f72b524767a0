-- Laws of lists: their members, and pairs in order.
use Rattle.std.proofs.Common.{◌≡◌, zero, suc, ◌⊎◌, inl, inr, List, [], ◌∷◌, ◌++◌, refl, sym, subst, ◌∙◌, arith, map, All, AllPairs, Contains}
use Rattle.std.specs.List.{flat_map}
use Rattle.std.proofs.lemmas.List.Elements.{Contains-append_cases, Contains-append_left, Contains-append_right, Contains-get_or}
use Rattle.std.proofs.lemmas.List.Kept.{AllPairs-cons}

-- ---- members
pub contains-none : {X : Type 0} (x : X) → Contains [] x → ⊥
contains-none x (k, lt, e) = omega (arith, lt)

pub contains-cases : {X : Type 0} (x : X) (xs : List X) (y : X) → Contains (x ∷ xs) y → (x ≡ y) ⊎ Contains xs y
contains-cases x xs y (zero, lt, e) = inl e
contains-cases x xs y (suc k, lt, e) = inr (k, omega (arith, lt), e)

pub contains-here : {X : Type 0} (x : X) (xs : List X) → Contains (x ∷ xs) x
contains-here x xs = (zero, omega arith, refl)

pub contains-there : {X : Type 0} (x : X) (xs : List X) (y : X) → Contains xs y → Contains (x ∷ xs) y
contains-there x xs y (k, lt, e) = (suc k, omega (arith, lt), e)

pub all-members : {X : Type 0} (P : X → Type 0) (xs : List X) → ((x : X) → Contains xs x → P x) → All P xs
all-members P xs h = λ k d lt. h _ (Contains-get_or xs k d lt)

-- a member of the mapped list, and where it comes from
pub contains-map : {X Y : Type 0} (f : X → Y) (xs : List X) (y : Y) → Contains (map f xs) y → (x : X) × (Contains xs x × (f x ≡ y))
contains-map f [] y h = absurd (contains-none y h)
contains-map f (x ∷ xs) y h = elim (contains-cases (f x) (map f xs) y h) [
  | inl e ↦ (x, (contains-here x xs, e))
  | inr in_rest ↦ let r = contains-map f xs y in_rest in (r.0, (contains-there x xs r.0 r.1.0, r.1.1))
]

pub map-contains : {X Y : Type 0} (f : X → Y) (xs : List X) (x : X) → Contains xs x → Contains (map f xs) (f x)
map-contains f [] x h = absurd (contains-none x h)
map-contains f (z ∷ xs) x h = elim (contains-cases z xs x h) [
  | inl e ↦ subst (λ y. Contains (f z ∷ map f xs) (f y)) e (contains-here (f z) (map f xs))
  | inr in_rest ↦ contains-there (f z) (map f xs) (f x) (map-contains f xs x in_rest)
]

pub contains-flat_map : {X Y : Type 0} (f : X → List Y) (xs : List X) (y : Y) → Contains (flat_map f xs) y → (x : X) × (Contains xs x × Contains (f x) y)
contains-flat_map f [] y h = absurd (contains-none y h)
contains-flat_map f (x ∷ xs) y h = elim (Contains-append_cases (f x) (flat_map f xs) y h) [
  | inl in_first ↦ (x, (contains-here x xs, in_first))
  | inr in_rest ↦ let r = contains-flat_map f xs y in_rest in (r.0, (contains-there x xs r.0 r.1.0, r.1.1))
]

pub flat_map-contains : {X Y : Type 0} (f : X → List Y) (xs : List X) (x : X) (y : Y) → Contains xs x → Contains (f x) y → Contains (flat_map f xs) y
flat_map-contains f [] x y h k = absurd (contains-none x h)
flat_map-contains f (z ∷ xs) x y h k = elim (contains-cases z xs x h) [
  | inl e ↦ Contains-append_left (f z) (flat_map f xs) y (subst (λ u. Contains (f u) y) (sym e) k)
  | inr in_rest ↦ Contains-append_right (f z) (flat_map f xs) y (flat_map-contains f xs x y in_rest k)
]

-- ---- pairs in order
pub pairs-nil : {X : Type 0} (R : X → X → Type 0) → AllPairs R []
pairs-nil R i j d lt l = absurd (omega (arith, l))

pub pairs-tail : {X : Type 0} (R : X → X → Type 0) (x : X) (xs : List X) → AllPairs R (x ∷ xs) → AllPairs R xs
pairs-tail R x xs h i j d lt l = h (suc i) (suc j) d (omega (arith, lt)) (omega (arith, l))

pub pairs-head : {X : Type 0} (R : X → X → Type 0) (x : X) (xs : List X) (y : X) → AllPairs R (x ∷ xs) → Contains xs y → R x y
pairs-head R x xs y h (k, lt, e) = subst (R x) e (h 0 (suc k) y (omega arith) (omega (arith, lt)))

pub pairs-append : {X : Type 0} (R : X → X → Type 0) (xs ys : List X) → AllPairs R xs → AllPairs R ys → ((x y : X) → Contains xs x → Contains ys y → R x y) → AllPairs R (xs ++ ys)
pairs-append R [] ys h k between = k
pairs-append R (x ∷ xs) ys h k between =
    AllPairs-cons R x (xs ++ ys) (all-members (R x) (xs ++ ys) first)
    (pairs-append R xs ys (pairs-tail R x xs h) k (λ z y in_xs in_ys. between z y (contains-there x xs z in_xs) in_ys))
  where
    first : (y : _) → Contains (xs ++ ys) y → R x y
    first y c = elim (Contains-append_cases xs ys y c) [
      | inl in_xs ↦ pairs-head R x xs y h in_xs
      | inr in_ys ↦ between x y (contains-here x xs) in_ys
    ]

pub pairs-prefix : {X : Type 0} (R : X → X → Type 0) (xs ys : List X) → AllPairs R (xs ++ ys) → AllPairs R xs
pairs-prefix R [] ys h = pairs-nil R
pairs-prefix R (x ∷ xs) ys h =
    AllPairs-cons R x xs (all-members (R x) xs (λ y c. pairs-head R x (xs ++ ys) y h (Contains-append_left xs ys y c))) (pairs-prefix R xs ys (pairs-tail R x (xs ++ ys) h))

pub pairs-map : {X Y : Type 0} (R : Y → Y → Type 0) (f : X → Y) (xs : List X) → AllPairs (λ x y. R (f x) (f y)) xs → AllPairs R (map f xs)
pairs-map R f [] h = pairs-nil R
pairs-map R f (x ∷ xs) h =
    AllPairs-cons R (f x) (map f xs) (all-members (R (f x)) (map f xs) first) (pairs-map R f xs (pairs-tail (λ u v. R (f u) (f v)) x xs h))
  where
    first : (y : _) → Contains (map f xs) y → R (f x) y
    first y c = let r = contains-map f xs y c in subst (R (f x)) r.1.1 (pairs-head (λ u v. R (f u) (f v)) x xs r.0 h r.1.0)

-- pieces in order, each of them in order
pub pairs-flat_map : {X Y : Type 0} (S : X → X → Type 0) (R : Y → Y → Type 0) (f : X → List Y) (xs : List X) → AllPairs S xs → ((x : X) → AllPairs R (f x))
    → ((x z : X) (y u : Y) → S x z → Contains (f x) y → Contains (f z) u → R y u) → AllPairs R (flat_map f xs)
pairs-flat_map S R f [] h each between = pairs-nil R
pairs-flat_map S R f (x ∷ xs) h each between =
    pairs-append R (f x) (flat_map f xs) (each x) (pairs-flat_map S R f xs (pairs-tail S x xs h) each between) across
  where
    across : (y u : _) → Contains (f x) y → Contains (flat_map f xs) u → R y u
    across y u in_x in_rest = let r = contains-flat_map f xs u in_rest in between x r.0 y u (pairs-head S x xs r.0 h r.1.0) in_x r.1.1

-- two lists in the same strict order that have the same members are equal
module _ {X : Type 0} (R : X → X → Type 0) (apart : (x : X) → R x x → ⊥) (on : (x y z : X) → R x y → R y z → R x z) where
  pub one-list : (xs ys : List X) → AllPairs R xs → AllPairs R ys → ((x : X) → Contains xs x → Contains ys x) → ((x : X) → Contains ys x → Contains xs x) → xs ≡ ys
  one-list [] [] h k to from = refl
  one-list [] (y ∷ ys) h k to from = absurd (contains-none y (from y (contains-here y ys)))
  one-list (x ∷ xs) [] h k to from = absurd (contains-none x (to x (contains-here x xs)))
  one-list (x ∷ xs) (y ∷ ys) h k to from =
      let same = heads (contains-cases y ys x (to x (contains-here x xs))) (contains-cases x xs y (from y (contains-here y ys))) in
      let rest = one-list xs ys (pairs-tail R x xs h) (pairs-tail R y ys k) (λ z c. onward z c same (contains-cases y ys z (to z (contains-there x xs z c))))
      (λ z c. back z c same (contains-cases x xs z (from z (contains-there y ys z c)))) in
      λ i. same i ∷ rest i
    where
      heads : (y ≡ x) ⊎ Contains ys x → (x ≡ y) ⊎ Contains xs y → x ≡ y
      heads (inl e) o = sym e
      heads (inr a) (inl e) = e
      heads (inr a) (inr b) = absurd (apart x (on x y x (pairs-head R x xs y h b) (pairs-head R y ys x k a)))

      onward : (z : X) → Contains xs z → x ≡ y → (y ≡ z) ⊎ Contains ys z → Contains ys z
      onward z c e (inr a) = a
      onward z c e (inl f) = absurd (apart z (subst (λ w. R w z) (e ∙ f) (pairs-head R x xs z h c)))

      back : (z : X) → Contains ys z → x ≡ y → (x ≡ z) ⊎ Contains xs z → Contains xs z
      back z c e (inr a) = a
      back z c e (inl f) = absurd (apart z (subst (λ w. R w z) (sym e ∙ f) (pairs-head R y ys z k c)))
