use Rattle.std.proofs.Common.{refl, sym, ap, ◌∙◌, ◌≡◌, Some, true}
use Rattle.span_types.specs.Names.{is_name}
use Rattle.formula_syntax.specs.Numbering.{number_in, seen}
use Rattle.formula_syntax.specs.View.{with_names}
use Rattle.formula_syntax.proofs.reader.Reader.open_capture.Goals as goal

pub returns : goal.returns
returns c = λ k x e s h.
    let name_is : c.in-Ok.name ≡ x = c.in-Ok.ensures.ok ∙ c.deref.ensures.value ∙ sym e in
    let named : is_name x ≡ true = ap is_name (sym name_is) ∙ c.in-Ok.ensures.named in
    let n = c.in_ok-v.ensures.number k h in
    rw (named, ← name_is)
    (c.open.ensures (with_names k (seen k.names c.in-Ok.name)) (Some (number_in k.names c.in-Ok.name)) (number_in k.names c.in-Ok.name, refl, n.0)
    (record { slash = rw n.2 s; mode = refl; stack = record { level = n.1.level; groups = n.1.groups; vars = n.1.vars; crowded = n.1.crowded; deepest = n.1.deepest } }))
