-- The tables that have one of some numbers, and their new numbers.
use Rattle.std.proofs.Common.{◌≡◌, ℕ, ◌+◌, ◌-◌, ◌<◌, List, [], ◌∷◌, ◌++◌, length, map, get_or, take, drop, ext_get_or, refl, ap, sym, subst, ◌∙◌, arith}
use Rattle.std.specs.Prelude.{All}
use Rattle.std.proofs.lemmas.List.{length-map, get_or-map}
use Rattle.std.proofs.lemmas.List.Elements.{All-get_or}
use Rattle.slp_model.specs.Kept.{Keeps}
use Rattle.slp_model.specs.Thin.{rank}
use Rattle.distinct_items.specs.Renumbering.{flags_of, kept_items, used_of}
use Rattle.distinct_items.proofs.Marks.{AreMarked, flags-used, used-at, used-of-at}
use Rattle.distinct_items.proofs.Moving.{kept-same, rank-agree}

-- a list that was lent whole and came back
pub come-back : (xs ys : List ℕ) (n : ℕ) → length xs ≡ n → take n (xs ++ drop (length xs) ys) ≡ xs
come-back xs ys n e = subst (λ k. take k (xs ++ drop (length xs) ys) ≡ xs) e (prefix xs (drop (length xs) ys))
  where
    prefix : (us vs : List ℕ) → take (length us) (us ++ vs) ≡ us
    prefix [] vs = refl
    prefix (u ∷ us) vs = ap (λ t. u ∷ t) (prefix us vs)

pub kept-used : {A : Type 0} (items : List A) (numbers marks : List ℕ) → AreMarked numbers marks → kept_items items (flags_of marks) ≡ kept_items items (used_of numbers (length items))
kept-used items numbers marks are = kept-same items (flags_of marks) (used_of numbers (length items)) (λ i lt. flags-used numbers marks (length items) i are lt)

-- what is written at the marks of the kept ones
abbrev pub ArePlaced : ℕ → List ℕ → List ℕ → Type 0
ArePlaced count marks places = (k : ℕ) → k < count → Keeps (flags_of marks) k → get_or places k 0 ≡ rank (flags_of marks) k + 1

module _ (count : ℕ) (numbers marks places : List ℕ) (are : AreMarked numbers marks) (at : ArePlaced count marks places) (within : All (λ n. n < count) numbers) where
  pub index-of : (i : ℕ) → i < length numbers → get_or places (get_or numbers i 0) 0 ≡ rank (used_of numbers count) (get_or numbers i 0) + 1
  index-of i lt =
      let n = get_or numbers i 0 in
      let low : n < count = All-get_or (λ n. n < count) numbers i 0 lt within in
      let keeps : Keeps (flags_of marks) n = flags-used numbers marks count n are low ∙ (used-of-at numbers count n low ∙ used-at numbers i lt) in
      at n low keeps ∙ ap (λ r. r + 1) (rank-agree (flags_of marks) (used_of numbers count) n (λ j less. flags-used numbers marks count j are (omega (arith, less, low))))

  pub new-numbers : map (λ n. get_or places n 0 - 1) numbers ≡ map (rank (used_of numbers count)) numbers
  new-numbers =
      let f : ℕ → ℕ = λ n. get_or places n 0 - 1 in
      let g : ℕ → ℕ = rank (used_of numbers count) in
      ext_get_or 0 (map f numbers) (map g numbers) (length-map numbers f ∙ sym (length-map numbers g)) (λ i lt.
      let low : i < length numbers = omega (arith, lt, length-map numbers f) in
      let is : f (get_or numbers i 0) ≡ g (get_or numbers i 0) = omega (arith, index-of i low) in
      get_or-map f numbers i 0 0 low ∙ (is ∙ sym (get_or-map g numbers i 0 0 low)))
