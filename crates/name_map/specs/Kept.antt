-- The slots of the map, and the index that finds a name's slot.
use Rattle.std.specs.Prelude.{◌≡◌, ℕ, suc, cond, ◌+◌, List, [], ◌∷◌, length, take, slice_get, Option, Some, None, Vec}
use Rattle.std.specs.Option.{is_some, option_map}
use Rattle.std.specs.Ordering.{nat_cmp}
use Rattle.std.specs.Cmp.Lexicographic.{slice_cmp}
use Rattle.std.specs.Map.{lookup}
use Rattle.std.specs.BTreeMap.{is_at}
use Rattle.name_map.specs.Named.{is_same, value_of}

-- x before the others, if there is one
abbrev pub before : {X : Type 0} → Option X → List X → List X
before None xs = xs
before (Some x) xs = x ∷ xs

-- the pairs in the slots that are not empty
abbrev pub live : {X : Type 0} → List (Option X) → List X
live [] = []
live (o ∷ os) = before o (live os)

-- the number of a name's slot in the index
abbrev pub indexed : {Z : Type 0} → List (Vec ℕ Z × ℕ) → List ℕ → Option ℕ
indexed es name = lookup (is_at (λ k. slice_cmp nat_cmp name k.items)) es

-- the slots are numbered from i on, and the index has the number of each name's slot
abbrev pub AreIndexed : {A : Type 0} → (List ℕ → Option ℕ) → ℕ → List (Option (List ℕ × A)) → Type 0
AreIndexed index i [] = Unit {0}
AreIndexed index i (None ∷ os) = AreIndexed index (suc i) os
AreIndexed index i (Some p ∷ os) = (index p.0 ≡ Some i) × AreIndexed index (suc i) os

-- the index has the names of the slots and no others
abbrev pub HasNames : {A : Type 0} → (List ℕ → Option ℕ) → List (Option (List ℕ × A)) → Type 0
HasNames index os = (name : List ℕ) → is_some (index name) ≡ is_some (value_of (live os) name)

-- the index has the number of each name's slot and no other names, and `empty` is the number of empty slots
pub record AreSlots {A : Type 0} (index : List ℕ → Option ℕ) (os : List (Option (List ℕ × A))) (empty : ℕ) : Type 0 where
  pub indexed : AreIndexed index 0 os
  pub names : HasNames index os
  pub count : length (live os) + empty ≡ length os

-- the slot with this number has the pair at index `index`
pub record IsSlotOf {A : Type 0} (os : List (Option (List ℕ × A))) (index slot : ℕ) : Type 0 where
  pub pair : List ℕ × A
  pub there : slice_get os slot ≡ Some (Some pair)
  pub before_it : length (live (take slot os)) ≡ index

-- if the slot with this number has a name that the index has, the index has this number for it; other names keep theirs
abbrev pub IsNumbered : {A : Type 0} → (List ℕ → Option ℕ) → (List ℕ → Option ℕ) → List (Option (List ℕ × A)) → ℕ → Type 0
IsNumbered {A} old new os slot = (p : List ℕ × A) → slice_get os slot ≡ Some (Some p) → (other : List ℕ) → new other ≡ cond (is_same p.0 other) (option_map (λ _. slot) (old p.0)) (old other)
