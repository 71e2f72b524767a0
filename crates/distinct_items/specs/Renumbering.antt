-- The used items alone.
use Rattle.std.specs.Prelude.{ℕ, ◌==◌, ◌||◌, Bool, true, false, cond, List, [], ◌∷◌, map}
use Rattle.std.specs.List.{range_with_len}

-- the items of a list that are kept, in their order
abbrev pub kept_items : {A : Type 0} → List A → List Bool → List A
kept_items [] bs = []
kept_items (x ∷ xs) [] = []
kept_items (x ∷ xs) (b ∷ bs) = cond b (x ∷ kept_items xs bs) (kept_items xs bs)

-- whether k is one of the numbers
abbrev pub is_used : List ℕ → ℕ → Bool
is_used [] k = false
is_used (n ∷ ns) k = n == k || is_used ns k

-- which of the `count` items have one of these numbers
abbrev pub used_of : List ℕ → ℕ → List Bool
used_of numbers count = map (is_used numbers) (range_with_len 0 count)

-- the items whose marks are not 0 are kept
abbrev pub flags_of : List ℕ → List Bool
flags_of marks = map (λ m. cond (m == 0) false true) marks
