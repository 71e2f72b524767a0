-- A list of lines has exactly one output, unless a `save` or a `write` is among them.
use Rattle.std.proofs.Common.{◌≡◌, ◌||◌, ℕ, ◌+◌, List, [], ◌∷◌, ◌++◌, Option, Some, None, sym, ◌∙◌, ap, subst}
use Rattle.span_language.proofs.Names.{Accepted, Adds, AreSettled, Carries, Command, Does, Files, HasOneOutput, is_refused, IsSettled, IsSettledLine, Nothing, Quiet}
use Rattle.span_language.proofs.Names.{Refused, Runs, SaveFile, Step, Sum, Told, World, WriteFile}
use Rattle.span_language.proofs.Accepted.{no_put}
use Rattle.span_language.proofs.Lines.{one_line}

done_keeps : (old : World) (command : Command) (r : List ℕ) (n : World) → IsSettled old.files command → Does old command r n → n.files ≡ old.files
done_keeps old Nothing r n settled h = absurd h
done_keeps old (SaveFile file) r n settled h = absurd (no_put old.files (SaveFile file) tt tt settled)
done_keeps old (WriteFile name file) r n settled h = absurd (no_put old.files (WriteFile name file) tt tt settled)
done_keeps old _ r n settled h = cc

carry_keeps : (old : World) (number : ℕ) (command : Command) (told : Told) (r : List ℕ) (n : World) → IsSettled old.files command → Carries old number command told r n → n.files ≡ old.files
carry_keeps old number command Quiet r n settled h = ap (λ (w : World). w.files) h.2
carry_keeps old number command Accepted r n settled h = done_keeps old command r n settled h
carry_keeps old number command Refused r n settled h = ap (λ (w : World). w.files) h.3

step_keeps : (old : World) (number : ℕ) (line : List ℕ) (told : Told) (r : List ℕ) (n : World) → IsSettledLine old.files line → Step old number line told r n → n.files ≡ old.files
step_keeps old number line told r n settled (Some command, means, h) = carry_keeps old number command told r n (settled command means) h
step_keeps old number line told r n settled (None, means, h) = ap (λ (w : World). w.files) h.2

step_of : (old : World) (number : ℕ) (line : List ℕ) (sum : Sum) (new : World) → (h : Adds old number line sum new) → Step old number line h.told sum.output new
step_of old number line sum new h = (h.meaning, h.means, h.carried)

-- what is equal in two sums, and in the resulting worlds
abbrev IsOneSum : Sum → Sum → World → World → Type 0
IsOneSum sum sum2 n m = (sum.refused ≡ sum2.refused) × (sum.output ≡ sum2.output) × (n ≡ m)

one_added : (old : World) (number : ℕ) (line : List ℕ) (sum sum2 : Sum) (n m : World) → IsSettledLine old.files line → Adds old number line sum n → Adds old number line sum2 m → IsOneSum sum sum2 n m
one_added old number line sum sum2 n m settled h k =
    let e = one_line old number line h.told k.told sum.output sum2.output n m settled (step_of old number line sum n h) (step_of old number line sum2 m k) in
    (h.refused_is ∙ ap is_refused e.0 ∙ sym k.refused_is, e.1, e.2)

pub one_output : HasOneOutput
one_output old number [] sum sum2 n m settled (none, is) (none2, is2) =
    let e = none ∙ sym none2 in (ap (λ (z : Sum). z.refused) e, ap (λ (z : Sum). z.output) e, is ∙ sym is2)
one_output old number (line ∷ lines) sum sum2 n m settled (one, rest, mid, h, more, is) (one2, rest2, mid2, k, more2, is2) =
    let e = one_added old number line one one2 mid mid2 settled.0 h k in
    let files = step_keeps old number line h.told one.output mid settled.0 (step_of old number line one mid h) in
    let left = one_output mid (number + 1) lines rest rest2 n m (subst (λ (z : Option Files). AreSettled z lines) (sym files) settled.1) more
    (subst (λ (z : World). Runs z (number + 1) lines rest2 m) (sym e.2) more2) in (
      ap (λ (z : Sum). z.refused) is ∙ (λ i. e.0 i || left.0 i) ∙ sym (ap (λ (z : Sum). z.refused) is2),
      ap (λ (z : Sum). z.output) is ∙ (λ i. e.1 i ++ left.1 i) ∙ sym (ap (λ (z : Sum). z.output) is2),
      left.2,
    )
