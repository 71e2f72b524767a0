-- Chains of parts and of branches, from the right.
use Rattle.std.proofs.Common.{◌≡◌, List, [], ◌∷◌, ◌++◌, map, refl, sym, ap, ◌∙◌, append_assoc}
use Rattle.span_types.specs.FormulaTree.{FormulaTree, Cat, Alt, tree_of}
use Rattle.span_types.specs.declared.formula.Formula.{Formula}
use Rattle.formula_syntax.specs.Machine.{Level, cat_of, alt_of, whole}
use Rattle.formula_syntax.specs.View.{trees, capped}

pub trees-append : (xs ys : List Formula) → trees (xs ++ ys) ≡ trees xs ++ trees ys
trees-append [] ys = refl
trees-append (x ∷ xs) ys = ap (λ z. tree_of x ∷ z) (trees-append xs ys)

pub capped-append : (xs ys : List FormulaTree) → map capped (xs ++ ys) ≡ map capped xs ++ map capped ys
capped-append [] ys = refl
capped-append (x ∷ xs) ys = ap (λ z. capped x ∷ z) (capped-append xs ys)

cat_last : (fs : List FormulaTree) (g h : FormulaTree) → cat_of (fs ++ g ∷ h ∷ []) ≡ cat_of (fs ++ Cat g h ∷ [])
cat_last [] g h = refl
cat_last (f ∷ []) g h = refl
cat_last (f ∷ e ∷ fs) g h = ap (λ z. Cat f z) (cat_last (e ∷ fs) g h)

alt_last : (gs : List FormulaTree) (g f : FormulaTree) → alt_of (gs ++ g ∷ []) f ≡ alt_of gs (Alt g f)
alt_last [] g f = refl
alt_last (h ∷ gs) g f = ap (λ z. Alt h z) (alt_last gs g f)

-- the parts that are left, with what was made of the others
pub cat_step : (old new : List Formula) (p w : Formula) (t : FormulaTree) → old ≡ new ++ p ∷ [] → cat_of (trees old ++ tree_of w ∷ []) ≡ t → cat_of (trees new ++ Cat (tree_of p) (tree_of w) ∷ []) ≡ t
cat_step old new p w t e h =
    sym (cat_last (trees new) (tree_of p) (tree_of w))
    ∙ ap cat_of (sym (append_assoc (trees new) (tree_of p ∷ []) (tree_of w ∷ [])))
    ∙ ap (λ z. cat_of (z ++ tree_of w ∷ [])) (sym (ap trees e ∙ trees-append new (p ∷ []))) ∙ h

pub cat_start : (old new : List Formula) (w : Formula) → old ≡ new ++ w ∷ [] → cat_of (trees new ++ tree_of w ∷ []) ≡ cat_of (trees old)
cat_start old new w e = ap cat_of (sym (ap trees e ∙ trees-append new (w ∷ [])))

pub alt_step : (old new : List Formula) (p : Formula) (w t : FormulaTree) → old ≡ new ++ p ∷ [] → alt_of (trees old) w ≡ t → alt_of (trees new) (Alt (tree_of p) w) ≡ t
alt_step old new p w t e h = sym (alt_last (trees new) (tree_of p) w) ∙ ap (λ z. alt_of z w) (sym (ap trees e ∙ trees-append new (p ∷ []))) ∙ h

-- made of capped parts, capped
pub capped-cat : (fs : List FormulaTree) → capped (cat_of fs) ≡ cat_of (map capped fs)
capped-cat [] = refl
capped-cat (f ∷ []) = refl
capped-cat (f ∷ g ∷ fs) = ap (λ z. Cat (capped f) z) (capped-cat (g ∷ fs))

pub capped-alt : (gs : List FormulaTree) (f : FormulaTree) → capped (alt_of gs f) ≡ alt_of (map capped gs) (capped f)
capped-alt [] f = refl
capped-alt (g ∷ gs) f = ap (λ z. Alt (capped g) z) (capped-alt gs f)

pub whole_shown : (bs ps : List Formula) (l : Level) → trees bs ≡ map capped l.branches → trees ps ≡ map capped l.parts → alt_of (trees bs) (cat_of (trees ps)) ≡ capped (whole l)
whole_shown bs ps l p q =
    ap (λ z. alt_of z (cat_of (trees ps))) p ∙ ap (λ z. alt_of (map capped l.branches) (cat_of z)) q
    ∙ ap (λ z. alt_of (map capped l.branches) z) (sym (capped-cat l.parts)) ∙ sym (capped-alt l.branches (cat_of l.parts))
