use Rattle.std.proofs.Common.{refl, sym, ◌∙◌, arith, ◌≡◌, []}
use Rattle.span_types.specs.FormulaTree.{tree_of}
use Rattle.formula_syntax.specs.View.{capped}
use Rattle.formula_syntax.specs.Machine.{text, no_slash, whole}
use Rattle.formula_syntax.proofs.Chains.{whole_shown}
use Rattle.std.proofs.lemmas.Bool.{eqb-true}
use Rattle.formula_syntax.proofs.Moves.{no_groups, nil_from_length}
use Rattle.formula_syntax.proofs.reader.Reader.finish.Goals as goal

pub returns : goal.returns
returns c = λ m h.
    let a : m.escape ≡ no_slash = rw c.in-Nothing-Text.is-0 at h.slash in
    let b : m.mode ≡ text = rw c.in-Nothing-Text.is-1 at h.mode in
    let g : m.stack.groups ≡ [] = no_groups _ _ (nil_from_length c.args.self.groups.items (omega (arith, c.args.self.groups.ok.0, eqb-true _ 0 (sym c.is_empty.ensures ∙ c.if-not-is_empty.false)))) h.stack.groups in
    let f : tree_of c.in_ok-formula.formula ≡ capped (whole m.stack.level) = c.in_ok-formula.ensures ∙ whole_shown _ _ m.stack.level h.stack.level.branches h.stack.level.parts in (
      record { formula = whole m.stack.level; names = m.stack.names; depth = m.stack.deepest },
      rw (a, b, g) refl,
      record { formula = f; vars = h.stack.vars; crowded = h.stack.crowded; deepest = h.stack.deepest },
    )
