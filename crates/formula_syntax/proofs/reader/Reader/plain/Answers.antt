use Rattle.std.proofs.Common.{refl, ap, ◌∙◌, ◌≡◌, ℕ, List, ◌++◌, ◌∷◌, [], true, false, Some, arith}
use Rattle.std.specs.Prelude.{◌==◌}
use Rattle.std.proofs.lemmas.Bool.Decides.{nat_tests}
use Rattle.formula_syntax.specs.Machine.{Stack, Mode, at, set_start, in_set, in_name, empty, mode_step}
use Rattle.formula_syntax.specs.View.{ShowsMode}
use Rattle.formula_syntax.specs.declared.reader.Mode as mode
use Rattle.formula_syntax.proofs.reader.Reader.plain.Goals as goal

start_mode : (d : mode.Mode) (x : List ℕ) (m : Mode) → d ≡ mode.TheVariants.SetStart → ShowsMode d x m → m ≡ set_start
start_mode d x m e h = rw e at h

name_mode : (d : mode.Mode) (x : List ℕ) (m : Mode) → d ≡ mode.TheVariants.InName → ShowsMode d x m → m ≡ in_name x
name_mode d x m e h = rw e at h

shows_name : (d : mode.Mode) (x y : List ℕ) → d ≡ mode.TheVariants.InName → y ≡ x → ShowsMode d y (in_name x)
shows_name d x y e q = rw (e, q) refl

name_more : (x : List ℕ) (k : Stack) (b : ℕ) → (b ≡ 123 → ⊥) → mode_step (in_name x) k b ≡ Some (at (in_name (x ++ b ∷ [])) k)
name_more x k b h = let test : (b == 123) ≡ false = grind (arith, nat_tests) in rw test refl

pub returns-then-byte-eq94 : goal.returns-then-byte-eq94
returns-then-byte-eq94 c = λ m k h.
    let e = start_mode _ _ m c.in-SetStart.is h.mode in
    (at (in_set true [] empty) k, ap (λ z. mode_step z k c.args.byte) e ∙ ap (mode_step set_start k) c.if-byte-eq94.true, record { slash = h.slash; mode = (true, [], empty, refl, c.new.ensures); stack = record { level = h.stack.level; groups = h.stack.groups; vars = h.stack.vars; crowded = h.stack.crowded; deepest = h.stack.deepest } })

pub returns-in_ok-push-in-InName : goal.returns-in_ok-push-in-InName
returns-in_ok-push-in-InName c = λ m k h.
    let x = c.args.self.now.name.items in
    let e = name_mode _ x m c.in-InName.is h.mode in
    (at (in_name (x ++ c.args.byte ∷ [])) k, ap (λ z. mode_step z k c.args.byte) e ∙ name_more x k c.args.byte c.if-byte-eq123.false, record { slash = h.slash; mode = shows_name _ (x ++ c.args.byte ∷ []) _ c.in-InName.is c.in_ok-push-in-InName.ensures.items; stack = record { level = h.stack.level; groups = h.stack.groups; vars = h.stack.vars; crowded = h.stack.crowded; deepest = h.stack.deepest } })
