-- Numbered items of which the unused ones are dropped, and the numbers that follow.
use Rattle.std.proofs.Common.{◌≡◌, ℕ, ◌<◌, Bool, List, length, map, get_or, slice_get, ap, sym, subst, ◌∙◌, arith, Some}
use Rattle.std.specs.Prelude.{All}
use Rattle.std.proofs.lemmas.List.{length-map, get_or-map}
use Rattle.std.proofs.lemmas.List.Elements.{All-from_get_or}
use Rattle.std.proofs.lemmas.Option.{slice_get_within, get_or_from_slice_get, slice_get-get_or}
use Rattle.slp_model.proofs.RankLemmas.{rank-below}
use Rattle.slp_model.specs.Kept.{Keeps}
use Rattle.slp_model.specs.Thin.{rank}
use Rattle.distinct_items.specs.Renumbering.{kept_items, used_of}
use Rattle.distinct_items.proofs.Marks.{used-at, used-of-at}
use Rattle.distinct_items.proofs.Moving.{kept-long, kept-back, kept-at}

-- no two items are equal
abbrev pub AreDistinctItems : {X : Type 0} → List X → Type 0
AreDistinctItems {X} items = (i j : ℕ) (x : X) → slice_get items i ≡ Some x → slice_get items j ≡ Some x → i ≡ j

-- each number is that of an item
abbrev pub AreNumbersOf : {X : Type 0} → List X → List ℕ → Type 0
AreNumbersOf items numbers = (i : ℕ) → i < length numbers → get_or numbers i 0 < length items

-- which of `count` items a kept number uses
abbrev pub used_by_kept : ℕ → List ℕ → List Bool → List Bool
used_by_kept count numbers keep = used_of (kept_items numbers keep) count

-- the numbers that are kept, and the items that these use, are left
pub record AreLeft {X : Type 0} (items : List X) (numbers : List ℕ) (keep : List Bool) (left : List X) (renumbered : List ℕ) : Type 0 where
  pub items_are : left ≡ kept_items items (used_by_kept (length items) numbers keep)
  pub numbers_are : renumbered ≡ map (rank (used_by_kept (length items) numbers keep)) (kept_items numbers keep)

-- the kept numbers are numbers of items
pub kept-numbers : {X : Type 0} (items : List X) (numbers : List ℕ) (keep : List Bool) → AreNumbersOf items numbers → All (λ n. n < length items) (kept_items numbers keep)
kept-numbers items numbers keep are =
    All-from_get_or (λ n. n < length items) (kept_items numbers keep) 0 (λ j lt.
    let o = kept-back numbers keep 0 j lt in
    subst (λ n. n < length items) (sym o.item) (are o.index o.within))

module _ {X : Type 0} (blank : X) (items : List X) (numbers : List ℕ) (keep : List Bool) (left : List X) (renumbered : List ℕ)
    (within : AreNumbersOf items numbers) (are : AreLeft items numbers keep left renumbered) where
  abbrev used : List Bool
  used = used_by_kept (length items) numbers keep

  abbrev old-number : ℕ → ℕ
  old-number j = get_or (kept_items numbers keep) j 0

  new-count : length renumbered ≡ length (kept_items numbers keep)
  new-count = ap length are.numbers_are ∙ length-map (kept_items numbers keep) (rank used)

  pub numbers-left : length renumbered ≡ rank keep (length numbers)
  numbers-left = new-count ∙ kept-long numbers keep

  pub items-left : length left ≡ rank used (length items)
  items-left = ap length are.items_are ∙ kept-long items used

  number-is : (j : ℕ) → j < length renumbered → get_or renumbered j 0 ≡ rank used (old-number j)
  number-is j lt = ap (λ (xs : List ℕ). get_or xs j 0) are.numbers_are ∙ get_or-map (rank used) (kept_items numbers keep) j 0 0 (omega (arith, lt, new-count))

  old-within : (j : ℕ) → j < length renumbered → old-number j < length items
  old-within j lt =
      let o = kept-back numbers keep 0 j (omega (arith, lt, new-count)) in
      subst (λ n. n < length items) (sym o.item) (within o.index o.within)

  old-used : (j : ℕ) → j < length renumbered → Keeps used (old-number j)
  old-used j lt = used-of-at (kept_items numbers keep) (length items) (old-number j) (old-within j lt) ∙ used-at (kept_items numbers keep) j (omega (arith, lt, new-count))

  pub AreNumbersOf-left : AreNumbersOf left renumbered
  AreNumbersOf-left j lt =
      subst (λ n. n < length left) (sym (number-is j lt))
      (omega (arith, items-left, rank-below used (old-number j) (length items) (old-used j lt) (old-within j lt)))

  -- the item of the j-th kept number
  item-at : (j : ℕ) → j < length renumbered → get_or left (get_or renumbered j 0) blank ≡ get_or items (old-number j) blank
  item-at j lt =
      ap (λ n. get_or left n blank) (number-is j lt)
      ∙ (ap (λ (xs : List X). get_or xs (rank used (old-number j)) blank) are.items_are
      ∙ kept-at items used blank (old-number j) (old-within j lt) (old-used j lt))

  -- a kept number has its item at its new index
  pub item-stays : (i : ℕ) → i < length numbers → Keeps keep i → get_or left (get_or renumbered (rank keep i) 0) blank ≡ get_or items (get_or numbers i 0) blank
  item-stays i lt keeps =
      let low : rank keep i < length renumbered = omega (arith, numbers-left, rank-below keep i (length numbers) keeps lt) in
      item-at (rank keep i) low ∙ ap (λ n. get_or items n blank) (kept-at numbers keep 0 i lt keeps)

  -- what each item is of its number's owner, it is of the owner at the new index
  pub owners-left : {T : Type 0} (P : T → X → Type 0) (old new : ℕ → T) → ((i : ℕ) → Keeps keep i → new (rank keep i) ≡ old i)
      → ((i : ℕ) → i < length numbers → P (old i) (get_or items (get_or numbers i 0) blank))
      → (j : ℕ) → j < length renumbered → P (new j) (get_or left (get_or renumbered j 0) blank)
  owners-left {T} P old new moved each = λ j lt.
      let o = kept-back numbers keep 0 j (omega (arith, lt, new-count)) in
      let item : get_or left (get_or renumbered j 0) blank ≡ get_or items (get_or numbers o.index 0) blank =
      ap (λ i. get_or left (get_or renumbered i 0) blank) (sym o.rank_is) ∙ item-stays o.index o.within o.kept in
      let same : new j ≡ old o.index = ap new (sym o.rank_is) ∙ moved o.index o.kept in
      subst (λ x. P (new j) x) (sym item) (subst (λ t. P t (get_or items (get_or numbers o.index 0) blank)) (sym same) (each o.index o.within))

  -- where an item that is left comes from
  pub item-from : (n : ℕ) → n < length left → (m : ℕ) × (m < length items) × (rank used m ≡ n) × (get_or left n blank ≡ get_or items m blank)
  item-from n lt =
      let o = kept-back items used blank n (subst (λ (xs : List X). n < length xs) are.items_are lt) in
      (o.index, o.within, o.rank_is, ap (λ (xs : List X). get_or xs n blank) are.items_are ∙ o.item)

  -- what holds of each item holds of those that are left
  pub all-left : (P : X → Type 0) → ((m : ℕ) → m < length items → P (get_or items m blank)) → (n : ℕ) → n < length left → P (get_or left n blank)
  all-left P each n lt = let from = item-from n lt in subst P (sym from.3) (each from.0 from.1)

  pub AreDistinctItems-left : AreDistinctItems items → AreDistinctItems left
  AreDistinctItems-left distinct i j t at_i at_j =
      let x = item-from i (slice_get_within left i t at_i) in
      let y = item-from j (slice_get_within left j t at_j) in
      let one : get_or items x.0 blank ≡ t = sym x.3 ∙ get_or_from_slice_get left i t blank at_i in
      let two : get_or items y.0 blank ≡ t = sym y.3 ∙ get_or_from_slice_get left j t blank at_j in
      let same : x.0 ≡ y.0 = distinct x.0 y.0 t (slice_get-get_or items x.0 blank x.1 ∙ ap Some one) (slice_get-get_or items y.0 blank y.1 ∙ ap Some two) in
      sym x.2 ∙ (ap (rank used) same ∙ y.2)
