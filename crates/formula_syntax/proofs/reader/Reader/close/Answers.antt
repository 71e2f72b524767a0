use Rattle.std.proofs.Common.{refl, ap, ◌∙◌, ◌≡◌, ◌∷◌, Some, None, true, false, Option, Bool, ℕ, List}
use Rattle.std.specs.Prelude.{min}
use Rattle.span_types.specs.FormulaTree.{FormulaTree, tree_of, Capture}
use Rattle.formula_syntax.specs.View.{capped, ShowsOpener}
use Rattle.formula_syntax.specs.Machine.{Group, Stack, at, text, whole, add, close, close_in, close_onto, closed}
use Rattle.formula_syntax.specs.declared.reader.Opener as opener
use Rattle.formula_syntax.proofs.Chains.{whole_shown}
use Rattle.formula_syntax.proofs.Moves.{popped}
use Rattle.formula_syntax.proofs.reader.Reader.close.Goals as goal
use Rattle.formula_syntax.proofs.reader.Reader.close.Goals.{in_default-opener-via-in-Group+else-not-captures, in_default-opener-via-in-Capture+else-captures}

-- the stack below the group that is closed
abbrev under : Stack → Group → List Group → Stack
under k g gs = record { level = g.around; groups = gs; names = k.names; deepest = k.deepest }

-- what the machine gives
closes_with : (b : Bool) (k : Stack) (g : Group) (gs : List Group) (f : FormulaTree) → k.groups ≡ g ∷ gs → closed b g.variable (whole k.level) ≡ Some f → close b k ≡ Some (at text (add (under k g gs) f))
closes_with b k g gs f e h = ap (close_in b k) e ∙ ap (close_onto k gs g.around) h

closes_not : (b : Bool) (k : Stack) (g : Group) (gs : List Group) → k.groups ≡ g ∷ gs → closed b g.variable (whole k.level) ≡ None → close b k ≡ None
closes_not b k g gs e h = ap (close_in b k) e ∙ ap (close_onto k gs g.around) h

group_closed : (b : Bool) (o : opener.Opener) (v : Option ℕ) (f : FormulaTree) → o ≡ opener.TheVariants.Group → b ≡ false → ShowsOpener o v → closed b v f ≡ Some f
group_closed b o v f e q h = let none : v ≡ None = rw e at h in rw (q, none) refl

group_not : (b : Bool) (o : opener.Opener) (v : Option ℕ) (f : FormulaTree) → o ≡ opener.TheVariants.Group → b ≡ true → ShowsOpener o v → closed b v f ≡ None
group_not b o v f e q h = let none : v ≡ None = rw e at h in rw (q, none) refl

capture_number : (o : opener.Opener) (v : Option ℕ) (x : ℕ) → o ≡ opener.TheVariants.Capture x → ShowsOpener o v → (n : ℕ) × (v ≡ Some n) × (x ≡ min n 8)
capture_number o v x e h = rw e at h

capture_closed : (b : Bool) (v : Option ℕ) (n : ℕ) (f : FormulaTree) → b ≡ true → v ≡ Some n → closed b v f ≡ Some (Capture n f)
capture_closed b v n f q e = rw (q, e) refl

capture_not : (b : Bool) (v : Option ℕ) (n : ℕ) (f : FormulaTree) → b ≡ false → v ≡ Some n → closed b v f ≡ None
capture_not b v n f q e = rw (q, e) refl

pub returns-in-Group : goal.returns-in-Group
returns-in-Group c = λ k h.
    let x = popped _ _ c.in-Some.group k.groups c.in-Some.ensures.items h.stack.groups in
    let f : tree_of c.in_ok-formula.formula ≡ capped (whole k.level) = c.in_ok-formula.ensures ∙ rw c.replace-inner.ensures.value (whole_shown _ _ k.level h.stack.level.branches h.stack.level.parts) in
    let e = closes_with c.args.captures k x.first x.rest (whole k.level) x.cut (group_closed c.args.captures _ x.first.variable _ c.in-Group.is c.if-not-captures.true x.shows.opener) in
    rw e (c.add.ensures (under k x.first x.rest) (whole k.level) f (record {
      slash = h.slash;
      mode = h.mode;
      stack = record { level = rw c.replace-inner.ensures.after x.shows.around; groups = x.groups; vars = h.stack.vars; crowded = h.stack.crowded; deepest = h.stack.deepest };
    }))

pub returns-in_ok-new-in-Capture : goal.returns-in_ok-new-in-Capture
returns-in_ok-new-in-Capture c = λ k h.
    let x = popped _ _ c.in-Some.group k.groups c.in-Some.ensures.items h.stack.groups in
    let f : tree_of c.in_ok-formula.formula ≡ capped (whole k.level) = c.in_ok-formula.ensures ∙ rw c.replace-inner.ensures.value (whole_shown _ _ k.level h.stack.level.branches h.stack.level.parts) in
    let n = capture_number _ x.first.variable c.in-Capture.v c.in-Capture.is x.shows.opener in
    let e = closes_with c.args.captures k x.first x.rest (Capture n.0 (whole k.level)) x.cut (capture_closed c.args.captures x.first.variable n.0 _ c.if-captures.true n.1) in
    rw e (c.add-in-Capture.ensures (under k x.first x.rest) (Capture n.0 (whole k.level)) (ap (λ z. Capture c.in-Capture.v (tree_of z)) c.in_ok-new-in-Capture.ensures.ok ∙ ap (λ z. Capture c.in-Capture.v z) f ∙ ap (λ z. Capture z (capped (whole k.level))) n.2) (record {
      slash = h.slash;
      mode = h.mode;
      stack = record { level = rw c.replace-inner.ensures.after x.shows.around; groups = x.groups; vars = h.stack.vars; crowded = h.stack.crowded; deepest = h.stack.deepest };
    }))

pub returns-in_default-opener : goal.returns-in_default-opener
returns-in_default-opener c = λ k h.
    let x = popped _ _ c.in-Some.group k.groups c.in-Some.ensures.items h.stack.groups in
    elim c.in_default-opener.branch [
      | in_default-opener-via-in-Group+else-not-captures w ↦ closes_not c.args.captures k x.first x.rest x.cut (group_not c.args.captures _ x.first.variable _ w.in-Group.is w.if-not-captures.false x.shows.opener)
      | in_default-opener-via-in-Capture+else-captures w ↦
          let n = capture_number _ x.first.variable w.in-Capture.v w.in-Capture.is x.shows.opener in
          closes_not c.args.captures k x.first x.rest x.cut (capture_not c.args.captures x.first.variable n.0 _ w.if-captures.false n.1)
    ]
