-- How the model of a session is encoded.
use Rattle.std.specs.Prelude.{◌≡◌, ◌⊎◌, ℕ, List, Option, refl}
use Rattle.std.proofs.Common.{inl, inr}
use Rattle.std.specs.Coded.{Coded, code_by, coded_ℕ, coded_list, coded_option, coded×, coded⊎}
use Rattle.slp_model.specs.declared.NodeId.{NodeId}
use Rattle.slp_model.specs.declared.Node.{Node}
use Rattle.slp_model.specs.declared.Node.TheVariants.{Byte, Pair}
use Rattle.span_language.specs.State.{Named, State, state_code}
use Rattle.session_state.specs.SessionState.{SessionModel}

abbrev id_code : Coded NodeId
id_code = code_by ℕ coded_ℕ (λ n. n.index) (λ i. record { index = i }) (λ _. refl)

abbrev parts_of : Node → ℕ ⊎ (NodeId × NodeId)
parts_of (Byte b) = inl b
parts_of (Pair l r) = inr (l, r)

abbrev node_of : ℕ ⊎ (NodeId × NodeId) → Node
node_of (inl b) = Byte b
node_of (inr p) = Pair p.0 p.1

pub node_of-parts : (n : Node) → node_of (parts_of n) ≡ n
node_of-parts (Byte b) = refl
node_of-parts (Pair l r) = refl

abbrev node_code : Coded Node
node_code = code_by (ℕ ⊎ (NodeId × NodeId)) (coded⊎ coded_ℕ (coded× id_code id_code)) parts_of node_of node_of-parts

abbrev numbers_code : Coded (Named ℕ)
numbers_code = coded_list (coded× (coded_list coded_ℕ) coded_ℕ)

-- it is encoded as its five parts
abbrev pub model_code : Coded SessionModel
model_code = code_by (State × (List Node × (List (Option NodeId) × (Named ℕ × Named ℕ))))
    (coded× state_code (coded× (coded_list node_code) (coded× (coded_list (coded_option id_code)) (coded× numbers_code numbers_code))))
    (λ s. (s.state, (s.store, (s.roots, (s.covered, s.counted))))) (λ p. record { state = p.0; store = p.1.0; roots = p.1.1.0; covered = p.1.1.1.0; counted = p.1.1.1.1 }) (λ _. refl)
