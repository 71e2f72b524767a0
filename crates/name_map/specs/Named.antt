-- Values by name, in order.
use Rattle.std.specs.Prelude.{ℕ, zero, suc, Bool, cond, nat_eq, List, [], ◌∷◌, map, Option, Some, None}
use Rattle.std.specs.Cmp.Lexicographic.{pointwise}
use Rattle.std.specs.List.{IsDistinct}

-- values by name, in the order in which the names were added
abbrev pub Named : Type 0 → Type 0
Named A = List (List ℕ × A)

-- whether two names have the same bytes
abbrev pub is_same : List ℕ → List ℕ → Bool
is_same name other = pointwise nat_eq name other

module _ {A : Type 0} where
  -- the value of this name
  abbrev pub value_of : Named A → List ℕ → Option A
  value_of [] name = None
  value_of (p ∷ ps) name = cond (is_same name p.0) (Some p.1) (value_of ps name)

  -- an existing name keeps its index and has the new value, and a new name goes last
  abbrev pub put : Named A → List ℕ → A → Named A
  put [] name value = (name, value) ∷ []
  put (p ∷ ps) name value = cond (is_same name p.0) ((name, value) ∷ ps) (p ∷ put ps name value)

  -- the list without the pair of this name
  abbrev pub taken_out : Named A → List ℕ → Named A
  taken_out [] name = []
  taken_out (p ∷ ps) name = cond (is_same name p.0) ps (p ∷ taken_out ps name)

  -- the name at this index has the value
  abbrev pub with_value : Named A → ℕ → A → Named A
  with_value [] index value = []
  with_value (p ∷ ps) zero value = (p.0, value) ∷ ps
  with_value (p ∷ ps) (suc index) value = p ∷ with_value ps index value

  -- no name occurs twice
  abbrev pub AreDistinctNames : Named A → Type 0
  AreDistinctNames ps = IsDistinct is_same (map (λ p. p.0) ps)
