-- A line has exactly one reply, unless it is a `save`; a `write` changes the files in one way.
use Rattle.std.proofs.Common.{◌≡◌, ◌⊎◌, ℕ, List, Option, Some, None, refl, sym, ◌∙◌, ap, subst, inl, inr}
use Rattle.span_language.proofs.Names.{Accepted, Carried, Carries, Command, Does, HasOneReply, IsRefused, IsSettled, IsSettledLine, LineText, Means, one_command_of}
use Rattle.span_language.proofs.Names.{Files, Quiet, refusal_text, Refused, SaveFile, Saves, Step, Told, World, WriteFile, WritesOnce}
use Rattle.span_language.proofs.Accepted.{one_done}
use Rattle.span_language.proofs.Written.{one_write}
use Rattle.span_language.proofs.Refused.{one_refusal, refused_once}

-- equal outcomes, equal replies and equal worlds
abbrev pub IsOne : Told → Told → List ℕ → List ℕ → World → World → Type 0
IsOne told told2 r s n m = (told ≡ told2) × (r ≡ s) × (n ≡ m)

one_carry : (old : World) (number : ℕ) (command : Command) (told told2 : Told) (r s : List ℕ) (n m : World) → IsSettled old.files command
    → Carries old number command told r n → Carries old number command told2 s m → IsOne told told2 r s n m
one_carry old number command Quiet Quiet r s n m settled h k = (refl, h.1 ∙ sym k.1, h.2 ∙ sym k.2)
one_carry old number command Quiet Accepted r s n m settled h k = absurd (subst (λ (c : Command). Does old c s m) h.0 k)
one_carry old number command Quiet Refused r s n m settled h (why, k, reply, new) = absurd (subst (λ (c : Command). IsRefused old c why) h.0 k)
one_carry old number command Accepted Quiet r s n m settled h k = absurd (subst (λ (c : Command). Does old c r n) k.0 h)
one_carry old number command Accepted Accepted r s n m settled h k = let e = one_done old command r s n m settled h k in (refl, e.0, e.1)
one_carry old number command Accepted Refused r s n m settled h (why, k, reply, new) = absurd (refused_once old command r n why settled h k)
one_carry old number command Refused Quiet r s n m settled (why, h, reply, new) k = absurd (subst (λ (c : Command). IsRefused old c why) k.0 h)
one_carry old number command Refused Accepted r s n m settled (why, h, reply, new) k = absurd (refused_once old command s m why settled k h)
one_carry old number command Refused Refused r s n m settled (why, h, reply, new) (other, k, reply2, new2) =
    (refl, reply ∙ ap (refusal_text number) (one_refusal old command why other settled h k) ∙ sym reply2, new ∙ sym new2)

one_meaning : (line : List ℕ) (a b : Option Command) → Means line a → Means line b → a ≡ b
one_meaning line (Some c) (Some d) h k = ap Some (one_command_of line c d h k)
one_meaning line (Some c) None h k = absurd (k c h)
one_meaning line None (Some d) h k = absurd (h d k)
one_meaning line None None h k = refl

pub one_line : (old : World) (number : ℕ) (line : List ℕ) (told told2 : Told) (r s : List ℕ) (n m : World) → IsSettledLine old.files line
    → Step old number line told r n → Step old number line told2 s m → IsOne told told2 r s n m
one_line old number line told told2 r s n m settled (a, means, h) (b, means2, k) =
    by a means h (subst (λ (c : Option Command). Carried old number c told2 s m) (one_meaning line b a means2 means) k)
  where
    by : (a : Option Command) → Means line a → Carried old number a told r n → Carried old number a told2 s m → IsOne told told2 r s n m
    by (Some c) means h k = one_carry old number c told told2 r s n m (settled c means) h k
    by None means h k = (h.0 ∙ sym k.0, h.1 ∙ sym k.1, h.2 ∙ sym k.2)

abbrev SavesOrNot : World → List ℕ → Told → List ℕ → World → Type 0
SavesOrNot old file told reply new = ((told ≡ Accepted) × Saves old file reply new) ⊎ ((told ≡ Refused) × (new ≡ old))

saves : (old : World) (number : ℕ) (line file : List ℕ) (told : Told) (reply : List ℕ) (new : World) → LineText line (SaveFile file) → Step old number line told reply new
    → SavesOrNot old file told reply new
saves old number line file told reply new text (a, means, h) =
    by told (subst (λ (c : Option Command). Carried old number c told reply new) (one_meaning line a (Some (SaveFile file)) means text) h)
  where
    by : (told : Told) → Carries old number (SaveFile file) told reply new → SavesOrNot old file told reply new
    by Quiet h = let bad : ⊥ = cc (h.0) in absurd bad
    by Accepted (bytes, nodes, saved, short, writable, replied, state, put) =
        inl (refl, record { state = state; bytes = bytes; nodes = nodes; image = saved; short = short; writable = writable; put = put; replied = replied })
    by Refused (why, h, replied, is) = inr (refl, is)

writes : (old : World) (files : Files) (number : ℕ) (line name file : List ℕ) (told told2 : Told) (r s : List ℕ) (n m : World) → old.files ≡ Some files
    → LineText line (WriteFile name file) → Step old number line told r n → Step old number line told2 s m → WritesOnce told told2 r s n m
writes old files number line name file told told2 r s n m are text (a, means, h) (b, means2, k) =
    one_write old files number name file are told told2 r s n m
    (subst (λ (c : Option Command). Carried old number c told r n) (one_meaning line a (Some (WriteFile name file)) means text) h)
    (subst (λ (c : Option Command). Carried old number c told2 s m) (one_meaning line b (Some (WriteFile name file)) means2 text) k)

pub has_one_reply : HasOneReply
has_one_reply = record { one = one_line; write = writes; save = saves }
