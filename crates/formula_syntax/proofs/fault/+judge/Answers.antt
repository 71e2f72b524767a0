use Rattle.std.proofs.Common.{sym, ◌∙◌, ap, ap₂, subst, ◌≡◌}
use Rattle.span_types.specs.FormulaTree.{Cat, Alt, tree_of}
use Rattle.formula_syntax.specs.Below.{Below, IsVerdict}
use Rattle.formula_syntax.proofs.fault.+judge.Goals as goal

pub returns-in-Cat : goal.returns-in-Cat
returns-in-Cat t c =
    let f = tree_of c.deref.result.now in
    let g = tree_of c.deref-in-Cat.result.now in
    let e : tree_of c.args.formula.now ≡ Cat f g = ap tree_of c.in-Cat.is ∙ ap₂ (λ x y. Cat (tree_of x) (tree_of y)) (sym c.deref.ensures) (sym c.deref-in-Cat.ensures) in
    let below : Below 8 (Cat f g) = subst (λ z. Below 8 z) e c.requires in
    subst (λ z. IsVerdict c.both.new.left z) (sym e) (c.both.ensures f g below c.judge.ensures c.judge-in-Cat.ensures)

pub returns-in-Alt : goal.returns-in-Alt
returns-in-Alt t c =
    let f = tree_of c.deref-in-Alt.result.now in
    let g = tree_of c.deref-in-Alt-2.result.now in
    let e : tree_of c.args.formula.now ≡ Alt f g = ap tree_of c.in-Alt.is ∙ ap₂ (λ x y. Alt (tree_of x) (tree_of y)) (sym c.deref-in-Alt.ensures) (sym c.deref-in-Alt-2.ensures) in
    subst (λ z. IsVerdict c.one_of.new.left z) (sym e) (c.one_of.ensures f g c.judge-in-Alt.ensures c.judge-in-Alt-2.ensures)
