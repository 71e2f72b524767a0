use Rattle.std.proofs.Common.{refl, sym, ap, Option, subst, false}
use Rattle.formula_syntax.specs.View.{Answers}
use Rattle.formula_syntax.specs.Machine.{Machine, at, text, set_start, in_name, slash, special_step}
use Rattle.formula_syntax.proofs.Bytes.{empty_set, complemented}
use Rattle.formula_syntax.proofs.reader.Reader.special.Goals as goal

pub returns-in-46 : goal.returns-in-46
returns-in-46 c = λ k s h.
    subst (λ (z : Option Machine). Answers c.add_set.result c.add_set.new.self z) (sym (ap (special_step k) c.in-46.is))
    (c.add_set.ensures k _ (complemented _ _ (λ z. false) (empty_set _ c.empty.ensures) c.complement.ensures) h.slash h.stack)

pub returns-in-91 : goal.returns-in-91
returns-in-91 c = λ k s h. (at set_start k, ap (special_step k) c.in-91.is, record { slash = h.slash; mode = refl; stack = record { level = h.stack.level; groups = h.stack.groups; vars = h.stack.vars; crowded = h.stack.crowded; deepest = h.stack.deepest } })

pub returns-in-36 : goal.returns-in-36
returns-in-36 c = λ k s h. (at (in_name _) k, ap (special_step k) c.in-36.is, record { slash = h.slash; mode = rw c.clear.ensures.items refl; stack = record { level = h.stack.level; groups = h.stack.groups; vars = h.stack.vars; crowded = h.stack.crowded; deepest = h.stack.deepest } })

pub returns-in-92 : goal.returns-in-92
returns-in-92 c = λ k s h. (record { escape = slash; mode = text; stack = k }, ap (special_step k) c.in-92.is, record { slash = refl; mode = h.mode; stack = record { level = h.stack.level; groups = h.stack.groups; vars = h.stack.vars; crowded = h.stack.crowded; deepest = h.stack.deepest } })
