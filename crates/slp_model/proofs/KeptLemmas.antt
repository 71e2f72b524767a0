-- What is kept, one node at a time.
use Rattle.std.proofs.Common.{◌≡◌, ℕ, zero, suc, ◌<◌, ◌⊎◌, inl, inr, Bool, true, false, List, [], ◌∷◌, ◌++◌, length, slice_get, slice_set, Option, Some, None, refl, ap, sym, subst, ◌∙◌, arith, length-set, get_or-set_same, get_or-set_other}
use Rattle.std.proofs.lemmas.Bool.{cases_lt}
use Rattle.std.proofs.lemmas.List.{length-replicate}
use Rattle.std.proofs.Math.ListN.{replicate}
use Rattle.slp_model.specs.declared.NodeId.{NodeId}
use Rattle.slp_model.specs.declared.Node.{Node}
use Rattle.slp_model.specs.declared.Node.TheVariants.{Byte, Pair}
use Rattle.slp_model.specs.Kept.{Reaches, Here, Left, Right, RootReaches, Keeps, IsPlanOf, AddsExactly}
use Rattle.slp_model.specs.Thin.{AnyReaches, KeepsExactly}

pub cases_eq : (m n : ℕ) → (m ≡ n) ⊎ (m ≡ n → ⊥)
cases_eq m n = elim (cases_lt m n) [
  | inl lt ↦ inr (λ e. omega (arith, e, lt))
  | inr ge ↦ elim (cases_lt n m) [
    | inl gt ↦ inr (λ e. omega (arith, e, gt))
    | inr le ↦ inl (omega (arith, ge, le))
  ]
]

-- one more node
set-kept : (ks : List Bool) (p i : ℕ) → Keeps (slice_set ks p true) i → (i ≡ p) ⊎ Keeps ks i
set-kept ks p i h = elim (cases_eq i p) [
  | inl e ↦ inl e
  | inr ne ↦ inr (sym (get_or-set_other ks p i true false ne) ∙ h)
]

set-here : (ks : List Bool) (p : ℕ) → p < length ks → Keeps (slice_set ks p true) p
set-here ks p lt = get_or-set_same ks p true false lt

set-keeps : (ks : List Bool) (p i : ℕ) → p < length ks → Keeps ks i → Keeps (slice_set ks p true) i
set-keeps ks p i lt h = elim (cases_eq i p) [
  | inl e ↦ subst (λ k. Keeps (slice_set ks p true) k) (sym e) (set-here ks p lt)
  | inr ne ↦ get_or-set_other ks p i true false ne ∙ h
]

-- no node is kept
none-kept : (i n : ℕ) → Keeps (replicate n false) i → ⊥
none-kept i zero h = cc
none-kept zero (suc n) h = cc
none-kept (suc i) (suc n) h = none-kept i n h

pub plan-none : (ns : List Node) (ks : List Bool) → ks ≡ replicate (length ns) false → IsPlanOf ns ks
plan-none ns ks e = record {
  long = ap length e ∙ length-replicate (length ns) false;
  closed = λ i l r at h. absurd (none-kept i (length ns) (subst (λ (xs : List Bool). Keeps xs i) e h));
}

-- what is below a kept node is kept
pub below-kept : (ns : List Node) (ks : List Bool) → IsPlanOf ns ks → (i j : ℕ) → Keeps ks i → Reaches ns i j → Keeps ks j
below-kept ns ks p i j h (Here _ _) = h
below-kept ns ks p i j h (Left _ _ _ l r at x) = below-kept ns ks p l.index j ((p.closed i l r at h).0) x
below-kept ns ks p i j h (Right _ _ _ l r at x) = below-kept ns ks p r.index j ((p.closed i l r at h).1) x

-- a node that is kept already
pub adds-again : (ns : List Node) (ks : List Bool) (i : ℕ) → IsPlanOf ns ks → Keeps ks i → AddsExactly ks ks (Reaches ns i)
adds-again ns ks i p h = λ j. (
  λ k. inl k,
  λ s. elim s [
    | inl k ↦ k
    | inr x ↦ below-kept ns ks p i j h x
  ],
)

-- no root
pub adds-none : (ns : List Node) (ks : List Bool) → AddsExactly ks ks (RootReaches ns None)
adds-none ns ks = λ j. (
  λ k. inl k,
  λ s. elim s [
    | inl k ↦ k
    | inr x ↦ absurd x
  ],
)

-- a node whose children are kept
pub plan-on : (ns : List Node) (ks : List Bool) (i : ℕ) → IsPlanOf ns ks → i < length ks → ((l r : NodeId) → slice_get ns i ≡ Some (Pair l r) → Keeps ks l.index × Keeps ks r.index) → IsPlanOf ns (slice_set ks i true)
plan-on ns ks i p lt children = record {
  long = length-set ks i true ∙ p.long;
  closed = λ m l r at h.
      let both : Keeps ks l.index × Keeps ks r.index = elim (set-kept ks i m h) [
        | inl e ↦ children l r (ap (λ n. slice_get ns n) (sym e) ∙ at)
        | inr k ↦ p.closed m l r at k
      ] in
      (set-keeps ks i l.index lt both.0, set-keeps ks i r.index lt both.1);
}

-- a byte
byte-reaches : (ns : List Node) (i j b : ℕ) → slice_get ns i ≡ Some (Byte b) → Reaches ns i j → j ≡ i
byte-reaches ns i j b at (Here _ _) = refl
byte-reaches ns i j b at (Left _ _ _ l r h x) = let e : Some (Byte b) ≡ Some (Pair l r) = sym at ∙ h in cc
byte-reaches ns i j b at (Right _ _ _ l r h x) = let e : Some (Byte b) ≡ Some (Pair l r) = sym at ∙ h in cc

pub adds-byte : (ns : List Node) (ks : List Bool) (i b : ℕ) → slice_get ns i ≡ Some (Byte b) → i < length ks → AddsExactly ks (slice_set ks i true) (Reaches ns i)
adds-byte ns ks i b at lt = λ j. (
  λ h. elim (set-kept ks i j h) [
    | inl e ↦ inr (subst (λ n. Reaches ns i n) (sym e) (Here ns i))
    | inr k ↦ inl k
  ],
  λ s. elim s [
    | inl k ↦ set-keeps ks i j lt k
    | inr x ↦ subst (λ n. Keeps (slice_set ks i true) n) (sym (byte-reaches ns i j b at x)) (set-here ks i lt)
  ],
)

pub plan-byte : (ns : List Node) (ks : List Bool) (i b : ℕ) → IsPlanOf ns ks → slice_get ns i ≡ Some (Byte b) → i < length ks → IsPlanOf ns (slice_set ks i true)
plan-byte ns ks i b p at lt = plan-on ns ks i p lt (λ l r h. let e : Some (Byte b) ≡ Some (Pair l r) = sym at ∙ h in cc)

-- a pair, after its children
pair-reaches : (ns : List Node) (i j : ℕ) (l r : NodeId) → slice_get ns i ≡ Some (Pair l r) → Reaches ns i j → (j ≡ i) ⊎ (Reaches ns l.index j ⊎ Reaches ns r.index j)
pair-reaches ns i j l r at (Here _ _) = inl refl
pair-reaches ns i j l r at (Left _ _ _ m n h x) =
    let same : Some (Pair m n) ≡ Some (Pair l r) = sym h ∙ at in
    let one : m ≡ l = cc in
    inr (inl (subst (λ (y : NodeId). Reaches ns y.index j) one x))
pair-reaches ns i j l r at (Right _ _ _ m n h x) =
    let same : Some (Pair m n) ≡ Some (Pair l r) = sym h ∙ at in
    let two : n ≡ r = cc in
    inr (inr (subst (λ (y : NodeId). Reaches ns y.index j) two x))

pub adds-pair : (ns : List Node) (old mid new : List Bool) (i : ℕ) (l r : NodeId) → slice_get ns i ≡ Some (Pair l r) → AddsExactly old mid (Reaches ns l.index) → AddsExactly mid new (Reaches ns r.index) → i < length new
    → AddsExactly old (slice_set new i true) (Reaches ns i)
adds-pair ns old mid new i l r at one two lt = λ j. (
  λ h. elim (set-kept new i j h) [
    | inl e ↦ inr (subst (λ n. Reaches ns i n) (sym e) (Here ns i))
    | inr k ↦ elim ((two j).0 k) [
      | inl m ↦ elim ((one j).0 m) [
        | inl o ↦ inl o
        | inr x ↦ inr (Left ns i j l r at x)
      ]
      | inr x ↦ inr (Right ns i j l r at x)
    ]
  ],
  λ s. elim s [
    | inl o ↦ set-keeps new i j lt ((two j).1 (inl ((one j).1 (inl o))))
    | inr x ↦ elim (pair-reaches ns i j l r at x) [
      | inl e ↦ subst (λ n. Keeps (slice_set new i true) n) (sym e) (set-here new i lt)
      | inr below ↦ elim below [
        | inl y ↦ set-keeps new i j lt ((two j).1 (inl ((one j).1 (inr y))))
        | inr y ↦ set-keeps new i j lt ((two j).1 (inr y))
      ]
    ]
  ],
)

pub plan-pair : (ns : List Node) (old mid new : List Bool) (i : ℕ) (l r : NodeId) → slice_get ns i ≡ Some (Pair l r) → AddsExactly old mid (Reaches ns l.index) → AddsExactly mid new (Reaches ns r.index) → i < length new → IsPlanOf ns new
    → IsPlanOf ns (slice_set new i true)
plan-pair ns old mid new i l r at one two lt p = plan-on ns new i p lt (λ m n h.
    let same : Some (Pair m n) ≡ Some (Pair l r) = sym h ∙ at in
    let first : m ≡ l = cc in
    let second : n ≡ r = cc in (
      subst (λ (y : NodeId). Keeps new y.index) (sym first) ((two l.index).1 (inl ((one l.index).1 (inr (Here ns l.index))))),
      subst (λ (y : NodeId). Keeps new y.index) (sym second) ((two r.index).1 (inr (Here ns r.index))),
    ))

-- what the roots reach, one root at a time
pub keeps-none : (ns : List Node) (ks : List Bool) (n : ℕ) → ks ≡ replicate n false → KeepsExactly ns ks []
keeps-none ns ks n e = λ j. (λ h. absurd (none-kept j n (subst (λ (xs : List Bool). Keeps xs j) e h)), λ x. absurd x)

any-before : (ns : List Node) (roots : List (Option NodeId)) (r : Option NodeId) (j : ℕ) → AnyReaches ns roots j → AnyReaches ns (roots ++ r ∷ []) j
any-before ns [] r j x = absurd x
any-before ns (q ∷ roots) r j x = elim x [ inl y ↦ inl y | inr y ↦ inr (any-before ns roots r j y) ]

any-last : (ns : List Node) (roots : List (Option NodeId)) (r : Option NodeId) (j : ℕ) → RootReaches ns r j → AnyReaches ns (roots ++ r ∷ []) j
any-last ns [] r j x = inl x
any-last ns (q ∷ roots) r j x = inr (any-last ns roots r j x)

any-of : (ns : List Node) (roots : List (Option NodeId)) (r : Option NodeId) (j : ℕ) → AnyReaches ns (roots ++ r ∷ []) j → AnyReaches ns roots j ⊎ RootReaches ns r j
any-of ns [] r j x = elim x [ inl y ↦ inr y | inr y ↦ absurd y ]
any-of ns (q ∷ roots) r j x = elim x [
  | inl y ↦ inl (inl y)
  | inr y ↦ elim (any-of ns roots r j y) [ inl z ↦ inl (inr z) | inr z ↦ inr z ]
]

pub keeps-next : (ns : List Node) (old new : List Bool) (roots : List (Option NodeId)) (r : Option NodeId) → KeepsExactly ns old roots → AddsExactly old new (RootReaches ns r) → KeepsExactly ns new (roots ++ r ∷ [])
keeps-next ns old new roots r a b = λ j. (
  λ h. elim ((b j).0 h) [
    | inl k ↦ any-before ns roots r j ((a j).0 k)
    | inr x ↦ any-last ns roots r j x
  ],
  λ x. elim (any-of ns roots r j x) [
    | inl y ↦ (b j).1 (inl ((a j).1 y))
    | inr y ↦ (b j).1 (inr y)
  ],
)
