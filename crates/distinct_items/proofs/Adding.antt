-- An item that is added last to distinct items.
use Rattle.std.proofs.Common.{◌≡◌, ℕ, ◌<◌, ◌⊎◌, List, [], ◌∷◌, ◌++◌, length, length-append, get_or, slice_get, ap, sym, subst, ◌∙◌, arith, inl, inr, Some}
use Rattle.std.proofs.lemmas.Bool.{cases_lt}
use Rattle.std.proofs.lemmas.List.{get_or_push}
use Rattle.std.proofs.lemmas.Option.{get_or_from_slice_get, slice_get_within, slice_get-get_or}
use Rattle.std.proofs.Math.ListN.{get_or-append}
use Rattle.distinct_items.specs.Search.{IsAbsent}
use Rattle.distinct_items.proofs.Dropping.{AreDistinctItems}

-- what holds of each item and of the added one holds of each now
pub all-added : {X : Type 0} (P : X → Type 0) (blank : X) (items : List X) (x : X) → ((i : ℕ) → i < length items → P (get_or items i blank)) → P x
    → (i : ℕ) → i < length (items ++ x ∷ []) → P (get_or (items ++ x ∷ []) i blank)
all-added P blank items x each added i lt = elim (cases_lt i (length items)) [
  | inl less ↦ subst P (sym (get_or-append items (x ∷ []) blank i less)) (each i less)
  | inr ge ↦
      let same : length items ≡ i = omega (arith, ge, lt, length-append items (x ∷ [])) in
      subst P (sym (get_or_push items x blank i same)) added
]

-- the index of an item
old-or-new : {X : Type 0} (items : List X) (x : X) (i : ℕ) (y : X) → slice_get (items ++ x ∷ []) i ≡ Some y → (slice_get items i ≡ Some y) ⊎ ((i ≡ length items) × (x ≡ y))
old-or-new items x i y h =
    let low = slice_get_within (items ++ x ∷ []) i y h in
    let read = get_or_from_slice_get (items ++ x ∷ []) i y x h in
    elim (cases_lt i (length items)) [
      | inl less ↦ inl (slice_get-get_or items i x less ∙ ap Some (sym (get_or-append items (x ∷ []) x i less) ∙ read))
      | inr ge ↦
          let same : length items ≡ i = omega (arith, ge, low, length-append items (x ∷ [])) in
          inr (sym same, sym (get_or_push items x x i same) ∙ read)
    ]

pub AreDistinctItems-added : {X : Type 0} (items : List X) (x : X) → AreDistinctItems items → IsAbsent items x → AreDistinctItems (items ++ x ∷ [])
AreDistinctItems-added items x distinct absent i j y at_i at_j = elim (old-or-new items x i y at_i) [
  | inl a ↦ elim (old-or-new items x j y at_j) [
    | inl b ↦ distinct i j y a b
    | inr b ↦ absurd (absent i (a ∙ ap Some (sym b.1)))
  ]
  | inr a ↦ elim (old-or-new items x j y at_j) [
    | inl b ↦ absurd (absent j (b ∙ ap Some (sym a.1)))
    | inr b ↦ a.0 ∙ sym b.0
  ]
]
