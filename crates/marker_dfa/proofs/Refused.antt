-- An error that is passed on.
use Rattle.std.proofs.Common.{◌≡◌, Result, Ok, Err, IsErrAnd}
use Rattle.marker_dfa.specs.declared.refusal.DfaRefusal.{DfaRefusal}
use Rattle.marker_dfa.specs.declared.refusal.DfaRefusal.TheVariants.{TooManyStates, NoMemory}
use Rattle.marker_dfa.specs.Refusals.{IfTooMany}

pub carried : (A : Type 0) {B : Type 0} (r : Result B DfaRefusal) (e : DfaRefusal) (P Q : Type 0) → IsErrAnd r (λ x. x ≡ e) → (P → Q) → IfTooMany {A = A} (Err e) P → IfTooMany r Q
carried A (Ok x) e P Q h f g = tt
carried A (Err TooManyStates) TooManyStates P Q h f g = f g
carried A (Err TooManyStates) NoMemory P Q h f g = absurd (cc)
carried A (Err NoMemory) e P Q h f g = tt
