use Rattle.std.proofs.Common.{refl, sym, ap, ◌∙◌, arith, length, ◌≤◌, Err}
use Rattle.formula_syntax.specs.Numbering.{number_in, seen}
use Rattle.formula_syntax.proofs.Numbers.{adds-seen, number-is, number-new, number-small}
use Rattle.formula_syntax.proofs.Moves.{number_ok, number_full, same_test, true_test}
use Rattle.formula_syntax.proofs.reader.Reader.number.Goals as goal

pub returns-in-Ok-clause-number : goal.returns-in-Ok-clause-number
returns-in-Ok-clause-number c = λ k h.
    let number = number-is _ _ c.args.name c.in-Ok.v c.in-Ok.ensures.added c.in-Ok.ensures.vars c.in-Ok.ensures.number in
    let small = number-small _ c.args.name c.in-Ok.v c.in-Ok.ensures.number c.in-Ok.ensures.vars.few in
    let x = number_ok 8 k.names c.args.name c.in-Ok.v (number ∙ ap (λ z. number_in z c.args.name) h.vars) small in (
      omega (arith, x.number, small),
      record {
        level = h.level;
        groups = h.groups;
        vars = adds-seen _ _ c.args.name c.in-Ok.ensures.added ∙ ap (λ z. seen z c.args.name) h.vars ∙ sym x.prefix;
        crowded = h.crowded ∙ sym (same_test 8 (length (seen k.names c.args.name)) (length k.names) x.small x.more);
        deepest = h.deepest;
      },
      refl,
    )

pub returns-in-Err-Full-clause-number : goal.returns-in-Err-Full-clause-number
returns-in-Err-Full-clause-number c = λ k h.
    let full = c.in-Err-Full.ensures.full.0 (ap Err c.in-Err-Full.field-0-is) in
    let past : 8 ≤ number_in c.args.self.now.vars c.args.name = omega (arith, full.0, number-new c.args.self.now.vars c.args.name full.1) in
    let x = number_full 8 k.names c.args.name (rw (sym h.vars) past) in (
      omega (arith, x.number),
      record {
        level = h.level;
        groups = h.groups;
        vars = c.in-Err-Full.ensures.err ∙ h.vars ∙ sym x.prefix;
        crowded = sym (true_test 8 (length (seen k.names c.args.name)) x.many);
        deepest = h.deepest;
      },
      refl,
    )
