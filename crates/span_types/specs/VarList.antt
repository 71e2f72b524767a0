-- Lists of distinct names.
use Rattle.std.specs.Prelude.{◌≡◌, ◌≢◌, ℕ, ◌≤◌, List, [], ◌∷◌, ◌++◌, length, AllPairs, Contains}

-- the list, with the name added last unless it is there
pub record Adds (old new : List (List ℕ)) (name : List ℕ) : Type 0 where
  pub there : Contains old name → new ≡ old
  pub missing : (Contains old name → ⊥) → new ≡ old ++ name ∷ []

-- at most eight different names
pub record AreVars (names : List (List ℕ)) : Type 0 where
  pub few : length names ≤ 8
  pub distinct : AllPairs (λ a b. a ≢ b) names
