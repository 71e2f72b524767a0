use Rattle.std.proofs.Common.{refl, ap, ◌∙◌, ◌≡◌}
use Rattle.formula_syntax.specs.Machine.{Slash, hex, hex_low, hex_step, step_in}
use Rattle.formula_syntax.specs.View.{ShowsSlash}
use Rattle.formula_syntax.specs.declared.reader.Slash as slash
use Rattle.formula_syntax.proofs.reader.Reader.step.Goals as goal

hex_slash : (d : slash.Slash) (m : Slash) → d ≡ slash.TheVariants.Hex → ShowsSlash d m → m ≡ hex
hex_slash d m e h = rw e at h

pub returns-in-Some : goal.returns-in-Some
returns-in-Some c = λ m h.
    let e = hex_slash _ m.escape c.in-Hex.is h.slash in
    (record { escape = hex_low c.in-Some.high.value; mode = m.mode; stack = m.stack }, ap (λ z. step_in z m.mode m.stack c.args.byte) e ∙ ap (hex_step m.mode m.stack) c.in-Some.ensures, record { slash = refl; mode = h.mode; stack = record { level = h.stack.level; groups = h.stack.groups; vars = h.stack.vars; crowded = h.stack.crowded; deepest = h.stack.deepest } })
