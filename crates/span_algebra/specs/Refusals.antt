-- Why an operation has no automaton.
use Rattle.std.specs.Prelude.{◌≡◌, ℕ, ◌<◌, ◌≤◌, List, length, Contains}
use Rattle.span_algebra.specs.declared.refusal.AlgebraRefusal.{AlgebraRefusal}
use Rattle.span_algebra.specs.declared.refusal.AlgebraRefusal.TheVariants.{TooManyVariables, TooManyStates, NoMemory}

-- the error of an operation with this many variables; P says that its count is above the limit
abbrev pub IsRefused : ℕ → Type 0 → AlgebraRefusal → Type 0
IsRefused variables P TooManyVariables = 8 < variables
IsRefused variables P TooManyStates = (variables ≤ 8) × P
IsRefused variables P NoMemory = Unit {0}

-- why a name isn't added: it is new, and there are eight
abbrev pub IsNew : List (List ℕ) → List ℕ → AlgebraRefusal → Type 0
IsNew names name TooManyVariables = (length names ≡ 8) × (Contains names name → ⊥)
IsNew names name TooManyStates = ⊥
IsNew names name NoMemory = Unit {0}
