-- Lists that gain elements.
use Rattle.std.proofs.Common.{◌≡◌, ℕ, ◌+◌, ◌<◌, ◌↔◌, ◌⊎◌, inl, inr, sym, ap, subst, ◌∙◌, arith, List, [], length, Contains, slice_index_or, get_or}
use Rattle.std.proofs.lemmas.List.{get_or_default}
use Rattle.marker_nfa.specs.Parts.{Adds}

pub adds_more : {X : Type 0} (old mid new : List X) (P Q R : X → Type 0) → Adds old mid P → Adds mid new Q → ((m : X) → P m ⊎ Q m → R m) → ((m : X) → R m → P m ⊎ Q m) → Adds old new R
adds_more old mid new P Q R h k f g m = (λ c. there ((k m).0 c), λ c. back c)
  where
    in_mid : Contains old m ⊎ P m → Contains old m ⊎ R m
    in_mid (inl c) = inl c
    in_mid (inr p) = inr (f m (inl p))

    there : Contains mid m ⊎ Q m → Contains old m ⊎ R m
    there (inl c) = in_mid ((h m).0 c)
    there (inr q) = inr (f m (inr q))

    either : P m ⊎ Q m → Contains new m
    either (inl p) = (k m).1 (inl ((h m).1 (inr p)))
    either (inr q) = (k m).1 (inr q)

    back : Contains old m ⊎ R m → Contains new m
    back (inl c) = (k m).1 (inl ((h m).1 (inl c)))
    back (inr r) = either (g m r)

pub adds_same : {X : Type 0} (old new : List X) (P Q : X → Type 0) → ((m : X) → P m → Q m) → ((m : X) → Q m → P m) → Adds old new P → Adds old new Q
adds_same old new P Q f g h m = (λ c. there ((h m).0 c), λ c. (h m).1 (back c))
  where
    there : Contains old m ⊎ P m → Contains old m ⊎ Q m
    there (inl c) = inl c
    there (inr p) = inr (f m p)

    back : Contains old m ⊎ Q m → Contains old m ⊎ P m
    back (inl c) = inl c
    back (inr q) = inr (g m q)

-- what Q says of one of the first k
abbrev pub EachBefore : {A X : Type 0} → (A → X → Type 0) → List A → ℕ → X → Type 0
EachBefore {A} Q list k x = (y : A) × (j : ℕ) × (j < k) × (j < length list) × (slice_index_or list j y ≡ y) × Q y x

pub each_none : {A X : Type 0} (old : List X) (Q : A → X → Type 0) (list : List A) → Adds old old (EachBefore Q list 0)
each_none old Q list x = (λ c. inl c, λ c. back c)
  where
    back : Contains old x ⊎ EachBefore Q list 0 x → Contains old x
    back (inl c) = c
    back (inr e) = let l : e.1 < 0 = e.2 in absurd (omega (arith, l))

pub each_step : {A X : Type 0} (old mid new : List X) (Q : A → X → Type 0) (list : List A) (k : ℕ) (y : A) → k < length list → slice_index_or list k y ≡ y → Adds old mid (EachBefore Q list k) → Adds mid new (Q y) → Adds old new (EachBefore Q list (k + 1))
each_step {A} {X} old mid new Q list k y lt at h g = adds_more old mid new (EachBefore Q list k) (Q y) (EachBefore Q list (k + 1)) h g up down
  where
    up : (x : X) → EachBefore Q list k x ⊎ Q y x → EachBefore Q list (k + 1) x
    up x (inl e) = (e.0, e.1, omega (arith, e.2), e.3, e.4, e.5)
    up x (inr q) = (y, k, omega arith, lt, at, q)

    last : (j : ℕ) → j < k + 1 → (j < k) ⊎ (j ≡ k)
    last j l = grind arith

    split : (x : X) (z : A) (j : ℕ) → j < length list → slice_index_or list j z ≡ z → Q z x → (j < k) ⊎ (j ≡ k) → EachBefore Q list k x ⊎ Q y x
    split x z j l a q (inl less) = inl (z, j, less, l, a, q)
    split x z j l a q (inr e) =
        let same : z ≡ y = sym a ∙ get_or_default list j z y l ∙ ap (λ n. slice_index_or list n y) e ∙ at in
        inr (subst (λ (w : A). Q w x) same q)

    down : (x : X) → EachBefore Q list (k + 1) x → EachBefore Q list k x ⊎ Q y x
    down x e = split x e.0 e.1 e.3 e.4 e.5 (last e.1 e.2)

pub each_end : {A X : Type 0} (old new : List X) (Q : A → X → Type 0) (list : List A) (k : ℕ) → k ≡ length list → Adds old new (EachBefore Q list k) → Adds old new (λ x. (y : A) × Contains list y × Q y x)
each_end {A} {X} old new Q list k e h = adds_same old new (EachBefore Q list k) (λ x. (y : A) × Contains list y × Q y x) to from h
  where
    to : (x : X) → EachBefore Q list k x → (y : A) × Contains list y × Q y x
    to x s = (s.0, (s.1, s.3, s.4), s.5)

    from : (x : X) → (y : A) × Contains list y × Q y x → EachBefore Q list k x
    from x s = (s.0, s.1.0, omega (arith, s.1.1, e), s.1.1, s.1.2, s.2)

pub from_none : {X : Type 0} (old new : List X) (P : X → Type 0) → old ≡ [] → Adds old new P → (m : X) → Contains new m ↔ P m
from_none old new P e h m = (λ c. only ((h m).0 c), λ p. (h m).1 (inr p))
  where
    none : Contains old m → ⊥
    none c = let l : c.0 < length old = c.1 in let z : length old ≡ 0 = ap length e in omega (arith, l, z)

    only : Contains old m ⊎ P m → P m
    only (inl c) = absurd (none c)
    only (inr p) = p

pub both_added : {X : Type 0} (old mid new : List X) (P Q : X → Type 0) → Adds old mid P → Adds mid new Q → Adds old new (λ m. P m ⊎ Q m)
both_added old mid new P Q h k = adds_more old mid new P Q (λ m. P m ⊎ Q m) h k (λ m x. x) (λ m x. x)

pub each_at : {A X : Type 0} (old mid new : List X) (Q : A → X → Type 0) (list : List A) (k : ℕ) (d : A) → k < length list → Adds old mid (EachBefore Q list k) → Adds mid new (Q (slice_index_or list k d)) → Adds old new (EachBefore Q list (k + 1))
each_at old mid new Q list k d lt h g = each_step old mid new Q list k (get_or list k d) lt (get_or_default list k (get_or list k d) d lt) h g
