-- An image has exactly one list of documents, or exactly one first fault.
use Rattle.std.proofs.Common.{◌≡◌, ℕ, List, Some, sym, ap, subst}
use Rattle.span_language.proofs.Names.{Documents, Err, image, ImageRefusal, IsFaulty, kind_of, Meaning, Ok}
use Rattle.span_language.proofs.Values.{not_both, one_err, one_ok, one_value}

-- the bytes have these documents, with this number of nodes
abbrev pub Has : List ℕ → Documents → ℕ → Type 0
Has bytes documents nodes = (image bytes).answer ≡ Ok (record { documents = documents; nodes = nodes })

pub one_image : (b c : List ℕ) (d e : Documents) (m n : ℕ) → b ≡ c → Has b d m → Has c e n → d ≡ e
one_image b c d e m n same h k =
    ap (λ (z : Meaning). z.documents) (one_ok (image b).answer (record { documents = d; nodes = m }) (record { documents = e; nodes = n }) h (subst (λ z. Has z e n) (sym same) k))

pub image_once : (b c : List ℕ) (d : Documents) (m kind : ℕ) → b ≡ c → Has b d m → IsFaulty c kind → ⊥
image_once b c d m kind same h k = not_both (image c).answer (record { documents = d; nodes = m }) k.refusal (subst (λ z. Has z d m) same h) k.means

pub one_fault : (b c : List ℕ) (kind other : ℕ) → b ≡ c → IsFaulty b kind → IsFaulty c other → kind ≡ other
one_fault b c kind other same h k =
    let why = one_err (image b).answer h.refusal k.refusal h.means (subst (λ (z : List ℕ). (image z).answer ≡ Err k.refusal) (sym same) k.means) in
    one_value (kind_of k.refusal) kind other (subst (λ (z : ImageRefusal). kind_of z ≡ Some kind) why h.kind_is) k.kind_is
