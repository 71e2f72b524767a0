-- The marked texts over a text from a state, in mark order.
use Rattle.std.specs.Prelude.{ℕ, ◌==◌, ◌&&◌, Bool, true, false, List, [], ◌∷◌, map, Option, Some, None}
use Rattle.std.specs.List.{flat_map}
use Rattle.span_types.specs.Words.{Marked}

-- the list of k for the state, or nothing if there is no state
abbrev pub at_state : {X : Type 0} → (ℕ → List X) → Option ℕ → List X
at_state k None = []
at_state k (Some q) = k q

-- by these steps, and these marks that lead on, in falling order: each marked text over s from p, followed by the list of k for its state.
-- Where a mark is needed, only those texts count that have one
abbrev pub runs : (ℕ → ℕ → ℕ → Option ℕ) → (ℕ → ℕ → List ℕ) → Bool → (ℕ → List Marked) → List ℕ → ℕ → List Marked
runs go marks true k [] p = []
runs go marks false k [] p = k p
runs go marks need k (b ∷ s) p = flat_map (λ m. map (λ w. (m, b) ∷ w) (at_state (runs go marks (need && m == 0) k s) (go p m b))) (marks p b)
