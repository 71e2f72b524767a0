-- Elements of lists that grow or change at one index.
use Rattle.std.proofs.Common.{◌≡◌, ℕ, zero, suc, ◌<◌, ◌↔◌, ◌⊎◌, inl, inr, refl, sym, ap, subst, ◌∙◌, arith, List, [], ◌∷◌, ◌++◌, length, map, Some, slice_get, slice_index_or, get_or, set, Contains, length-set, nat_eq, true, false}
use Rattle.std.proofs.lemmas.Bool.Decides.{eqb_tells}
use Rattle.std.proofs.lemmas.List.{get_or-set_same, get_or-set_other}
use Rattle.std.proofs.lemmas.List.Elements.{Contains-append_left, Contains-append_right, Contains-append_cases}
use Rattle.std.proofs.lemmas.Option.{slice_get_within, slice_get-get_or, get_or_from_slice_get}

pub get_push : {X : Type 0} (xs : List X) (x y : X) (q : ℕ) → slice_get (xs ++ x ∷ []) q ≡ Some y → (slice_get xs q ≡ Some y) ⊎ ((q ≡ length xs) × (x ≡ y))
get_push [] x y zero h = inr (refl, cc)
get_push [] x y (suc q) h = inl h
get_push (z ∷ xs) x y zero h = inl h
get_push (z ∷ xs) x y (suc q) h = up (get_push xs x y q h)
  where
    up : (slice_get xs q ≡ Some y) ⊎ ((q ≡ length xs) × (x ≡ y)) → (slice_get xs q ≡ Some y) ⊎ ((suc q ≡ suc (length xs)) × (x ≡ y))
    up (inl k) = inl k
    up (inr k) = inr (ap suc k.0, k.1)

pub push_get : {X : Type 0} (xs : List X) (x y : X) (q : ℕ) → slice_get xs q ≡ Some y → slice_get (xs ++ x ∷ []) q ≡ Some y
push_get [] x y q h = absurd (cc)
push_get (z ∷ xs) x y zero h = h
push_get (z ∷ xs) x y (suc q) h = push_get xs x y q h

pub push_last : {X : Type 0} (xs : List X) (x : X) → slice_get (xs ++ x ∷ []) (length xs) ≡ Some x
push_last [] x = refl
push_last (z ∷ xs) x = push_last xs x

pub get_within : {X : Type 0} (xs : List X) (q : ℕ) (y : X) → slice_get xs q ≡ Some y → q < length xs
get_within xs q y h = slice_get_within xs q y h

pub one_value : {X : Type 0} (xs : List X) (q : ℕ) (x y : X) → slice_get xs q ≡ Some x → slice_get xs q ≡ Some y → x ≡ y
one_value xs q x y h k = let e : Some x ≡ Some y = sym h ∙ k in cc

pub contains_at : {X : Type 0} (xs : List X) (q : ℕ) (x : X) → slice_get xs q ≡ Some x → Contains xs x
contains_at xs q x h = let lt = get_within xs q x h in (q, lt, get_or_from_slice_get xs q x x h)

pub at_contains : {X : Type 0} (xs : List X) (x : X) → Contains xs x → (q : ℕ) × (slice_get xs q ≡ Some x)
at_contains xs x c = (c.0, slice_get-get_or xs c.0 x c.1 ∙ ap Some c.2)

pub one_only : {X : Type 0} (x y : X) → Contains (x ∷ []) y → y ≡ x
one_only x y c = go c.0 c.1 c.2
  where
    go : (k : ℕ) → k < 1 → slice_index_or (x ∷ []) k y ≡ y → y ≡ x
    go zero lt e = sym e
    go (suc k) lt e = absurd (omega (arith, lt))

one_there : {X : Type 0} (x : X) → Contains (x ∷ []) x
one_there x = (0, omega arith, refl)

pub contains_push : {X : Type 0} (xs : List X) (x y : X) → Contains (xs ++ x ∷ []) y ↔ Contains xs y ⊎ (y ≡ x)
contains_push {X} xs x y = ((λ c. to (Contains-append_cases xs (x ∷ []) y c)), λ c. from c)
  where
    to : Contains xs y ⊎ Contains (x ∷ []) y → Contains xs y ⊎ (y ≡ x)
    to (inl c) = inl c
    to (inr c) = inr (one_only x y c)

    from : Contains xs y ⊎ (y ≡ x) → Contains (xs ++ x ∷ []) y
    from (inl c) = Contains-append_left xs (x ∷ []) y c
    from (inr e) = Contains-append_right xs (x ∷ []) y (subst (λ (z : X). Contains (x ∷ []) z) (sym e) (one_there x))

pub map_set : {X Y : Type 0} (f : X → Y) (xs : List X) (k : ℕ) (x : X) → map f (set xs k x) ≡ set (map f xs) k (f x)
map_set f [] k x = refl
map_set f (y ∷ xs) zero x = refl
map_set f (y ∷ xs) (suc k) x = ap (λ l. f y ∷ l) (map_set f xs k x)

pub length_map : {X Y : Type 0} (f : X → Y) (xs : List X) → length (map f xs) ≡ length xs
length_map f [] = refl
length_map f (x ∷ xs) = ap suc (length_map f xs)

pub get_map : {X Y : Type 0} (f : X → Y) (xs : List X) (k : ℕ) (d : X) (e : Y) → k < length xs → slice_index_or (map f xs) k e ≡ f (slice_index_or xs k d)
get_map f [] k d e lt = absurd (omega (arith, lt))
get_map f (x ∷ xs) zero d e lt = refl
get_map f (x ∷ xs) (suc k) d e lt = get_map f xs k d e (omega (arith, lt))

-- an element of a list in which one was set
pub set_cases : {X : Type 0} (xs : List X) (k : ℕ) (x : X) (i : ℕ) (y : X) → k < length xs → slice_get (set xs k x) i ≡ Some y → ((i ≡ k) × (x ≡ y)) ⊎ ((i ≡ k → ⊥) × (slice_get xs i ≡ Some y))
set_cases {X} xs k x i y lt h = go (eqb_tells i k)
  where
    within : i < length xs
    within = omega (arith, get_within (set xs k x) i y h, length-set xs k x)

    value : get_or (set xs k x) i y ≡ y
    value = get_or_from_slice_get (set xs k x) i y y h

    go : ((nat_eq i k ≡ true) × (i ≡ k)) ⊎ ((nat_eq i k ≡ false) × (i ≡ k → ⊥)) → ((i ≡ k) × (x ≡ y)) ⊎ ((i ≡ k → ⊥) × (slice_get xs i ≡ Some y))
    go (inl e) = inl (e.1, sym (get_or-set_same xs k x y lt) ∙ ap (λ j. get_or (set xs k x) j y) (sym e.1) ∙ value)
    go (inr e) = inr (e.1, slice_get-get_or xs i y within ∙ ap Some (sym (get_or-set_other xs k i x y e.1) ∙ value))

pub set_here : {X : Type 0} (xs : List X) (k : ℕ) (x : X) → k < length xs → slice_get (set xs k x) k ≡ Some x
set_here xs k x lt = slice_get-get_or (set xs k x) k x (omega (arith, lt, length-set xs k x)) ∙ ap Some (get_or-set_same xs k x x lt)

pub set_there : {X : Type 0} (xs : List X) (k : ℕ) (x : X) (i : ℕ) (y : X) → (i ≡ k → ⊥) → slice_get xs i ≡ Some y → slice_get (set xs k x) i ≡ Some y
set_there xs k x i y ne h =
    let lt = get_within xs i y h in
    slice_get-get_or (set xs k x) i y (omega (arith, lt, length-set xs k x)) ∙ ap Some (get_or-set_other xs k i x y ne ∙ get_or_from_slice_get xs i y y h)
