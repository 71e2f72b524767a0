-- States whose rows are alike accept the same, and may be merged.
use Rattle.std.proofs.Common.{◌≡◌, ℕ, suc, ◌+◌, ◌<◌, ◌≤◌, ◌==◌, ◌↔◌, ◌⊎◌, inl, inr, Bool, eqb, true, false, refl, sym, ap, subst, ◌∙◌, arith, List, [], ◌∷◌, length, length-set, min, Option, Some, None, slice_get, get_or, set, Contains, if◌then◌else◌}
use Rattle.std.proofs.lemmas.Bool.{cases_eq, cases_lt, eqb-true}
use Rattle.std.specs.Option.{option_eq}
use Rattle.std.proofs.lemmas.Option.{slice_get-get_or, get_or_from_slice_get}
use Rattle.formula_law.specs.Accepts.{MarkedText}
use Rattle.marker_dfa.specs.declared.dfa.Cell.{Cell}
use Rattle.marker_dfa.specs.declared.dfa.Row.{Row}
use Rattle.marker_dfa.specs.Deterministic.{DeterministicAutomaton, IsDeterministic, and_then, cell_of, ends_in, ends_of, find_target, next_of, path, states_of}
use Rattle.marker_dfa.specs.Merging.{AcceptsFrom, AreCellsAlike, AreEquivalent, AreRepresentatives, AreRowsAlike, AreTargetsAlike}
use Rattle.marker_dfa.proofs.Lists.{get_within, one_value, set_cases, set_here, set_there}

-- ---- lists that are compared item by item

-- the first n items of two lists are related
abbrev pub AreRelatedUpTo : {A B : Type 0} → (A → B → Type 0) → ℕ → List A → List B → Type 0
AreRelatedUpTo {A} {B} R n xs ys = (i : ℕ) (x : A) (y : B) → i < n → slice_get xs i ≡ Some x → slice_get ys i ≡ Some y → R x y

pub related_more : {A B : Type 0} (R : A → B → Type 0) (n m : ℕ) (xs : List A) (ys : List B) (a : A) (b : B) → AreRelatedUpTo R n xs ys → m ≡ n + 1 → ((d : A) → a ≡ get_or xs n d) → ((d : B) → b ≡ get_or ys n d) → R a b → AreRelatedUpTo R m xs ys
related_more {A} {B} R n m xs ys a b h e left right related i x y lt at_x at_y = by (cases_lt i n)
  where
    by : (i < n) ⊎ (n ≤ i) → R x y
    by (inl l) = h i x y l at_x at_y
    by (inr l) =
        let here : i ≡ n = omega (arith, l, lt, e) in
        let first : a ≡ x = left x ∙ ap (λ j. get_or xs j x) (sym here) ∙ get_or_from_slice_get xs i x x at_x in
        let second : b ≡ y = right y ∙ ap (λ j. get_or ys j y) (sym here) ∙ get_or_from_slice_get ys i y y at_y in
        subst (λ (v : B). R x v) second (subst (λ (v : A). R v b) first related)

pub related_all : {A B : Type 0} (R : A → B → Type 0) (n : ℕ) (xs : List A) (ys : List B) → AreRelatedUpTo R n xs ys → n ≡ min (length xs) (length ys) → (i : ℕ) (x : A) (y : B) → slice_get xs i ≡ Some x → slice_get ys i ≡ Some y → R x y
related_all R n xs ys h e i x y at_x at_y =
    let left = get_within xs i x at_x in
    let right = get_within ys i y at_y in
    h i x y (omega (arith, left, right, e)) at_x at_y

-- ---- equivalent states

pub option_is : (o : Option ℕ) (x : ℕ) → option_eq eqb o (Some x) ≡ true → o ≡ Some x
option_is None x e = cc
option_is (Some y) x e = ap Some (eqb-true y x e)

none : {X : Type 0} (o : Option X) (x : X) → o ≡ None → o ≡ Some x → ⊥
none o x e g = cc

some_same : {X : Type 0} (x y : X) → Some x ≡ Some y → x ≡ y
some_same x y e = cc

-- the target in a cell for a mark
abbrev next_in : ℕ → Option Cell → Option ℕ
next_in m o = and_then o (λ c. find_target c.marks.items c.targets.items m)

-- there is no target, or two that are alike
abbrev AreFoundAlike : List ℕ → ℕ → ℕ → Option ℕ → Option ℕ → Type 0
AreFoundAlike into p q o v = ((o ≡ None) × (v ≡ None)) ⊎ ((t : ℕ) × (u : ℕ) × (o ≡ Some t) × (v ≡ Some u) × AreTargetsAlike into p q t u)

module _ (into : List ℕ) (p q : ℕ) where
  found_alike : (ms ts us : List ℕ) (m : ℕ) → length ts ≡ length us → ((i t u : ℕ) → slice_get ts i ≡ Some t → slice_get us i ≡ Some u → AreTargetsAlike into p q t u) → AreFoundAlike into p q (find_target ms ts m) (find_target ms us m)
  found_alike [] ts us m e h = inl (refl, refl)
  found_alike (n ∷ ms) [] [] m e h = inl (refl, refl)
  found_alike (n ∷ ms) [] (u ∷ us) m e h = absurd (omega (arith, e))
  found_alike (n ∷ ms) (t ∷ ts) [] m e h = absurd (omega (arith, e))
  found_alike (n ∷ ms) (t ∷ ts) (u ∷ us) m e h = by (n == m) (found_alike ms ts us m (omega (arith, e)) (λ i x y at_x at_y. h (suc i) x y at_x at_y))
    where
      by : (b : Bool) → AreFoundAlike into p q (find_target ms ts m) (find_target ms us m) → AreFoundAlike into p q (if b then Some t else find_target ms ts m) (if b then Some u else find_target ms us m)
      by true r = inr (t, u, refl, refl, h 0 t u refl refl)
      by false r = r

  -- neither state has a cell for a byte, or both have cells that are alike
  abbrev AreBothAlike : Option Cell → Option Cell → Type 0
  AreBothAlike o v = ((o ≡ None) × (v ≡ None)) ⊎ ((c : Cell) × (e : Cell) × (o ≡ Some c) × (v ≡ Some e) × AreCellsAlike into p q c e)

  targets_alike : (m : ℕ) (o v : Option Cell) → AreBothAlike o v → AreFoundAlike into p q (next_in m o) (next_in m v)
  targets_alike m o v (inl h) = rw (h.0, h.1) (inl (refl, refl))
  targets_alike m o v (inr h) =
      let alike = h.4 in
      rw (h.2, h.3, alike.marks) (found_alike h.1.marks.items h.0.targets.items h.1.targets.items m alike.even alike.targets)

  cells_alike : (r s : Row) → AreRowsAlike into p q r s → (k : ℕ) → AreBothAlike (slice_get r.cells.items k) (slice_get s.cells.items k)
  cells_alike r s alike k = by (slice_get r.cells.items k) refl (slice_get s.cells.items k) refl
    where
      by : (o : Option Cell) → slice_get r.cells.items k ≡ o → (v : Option Cell) → slice_get s.cells.items k ≡ v → AreBothAlike o v
      by None e None g = inl (refl, refl)
      by (Some c) e (Some f) g = inr (c, f, refl, refl, alike.cells k c f e g)
      by None e (Some f) g =
          let lt : k < length r.cells.items = omega (arith, get_within s.cells.items k f g, alike.even) in
          absurd (none (slice_get r.cells.items k) (get_or r.cells.items k f) e (slice_get-get_or r.cells.items k f lt))
      by (Some c) e None g =
          let lt : k < length s.cells.items = omega (arith, get_within r.cells.items k c e, alike.even) in
          absurd (none (slice_get s.cells.items k) (get_or s.cells.items k c) g (slice_get-get_or s.cells.items k c lt))

-- where the rows of the states p and q of an automaton are alike
module _ (d : DeterministicAutomaton) (into : List ℕ) (p q : ℕ) (r s : Row) (deterministic : IsDeterministic d) (size : length into ≡ states_of d) (same : (x y : ℕ) → slice_get into x ≡ Some y → AreEquivalent d x y) (at_p : slice_get d.rows p ≡ Some r) (at_q : slice_get d.rows q ≡ Some s) (alike : AreRowsAlike into p q r s) where
  -- the cells of the two states for a byte
  byte_cells_alike : (b : ℕ) → AreBothAlike into p q (cell_of d p b) (cell_of d q b)
  byte_cells_alike b = rw (at_p, at_q) (by (slice_get d.classes b))
    where
      by : (o : Option ℕ) → AreBothAlike into p q (and_then o (λ c. slice_get r.cells.items c)) (and_then o (λ c. slice_get s.cells.items c))
      by None = inl (refl, refl)
      by (Some c) = cells_alike into p q r s alike c

  next_alike : (m b : ℕ) → AreFoundAlike into p q (next_of d p m b) (next_of d q m b)
  next_alike m b = targets_alike into p q m (cell_of d p b) (cell_of d q b) (byte_cells_alike b)

  ends_alike : ends_of d p ≡ ends_of d q
  ends_alike = ap ends_in at_p ∙ alike.ends ∙ sym (ap ends_in at_q)

  abbrev text_of : List (ℕ × ℕ) → ℕ → MarkedText
  text_of w m = record { pairs = w; last = m }

  -- targets that are alike accept the same, if the two states do so
  after : (t u : ℕ) (w : MarkedText) → t < states_of d → AreTargetsAlike into p q t u → AcceptsFrom d p w ↔ AcceptsFrom d q w → AcceptsFrom d t w ↔ AcceptsFrom d u w
  after t u w lt (inl e) h =
      let x : ℕ = get_or into t 0 in
      let at_t : slice_get into t ≡ Some x = slice_get-get_or into t 0 (omega (arith, lt, size)) in
      let left = same t x at_t w in
      let right = same u x (sym e ∙ at_t) w in
      ((λ a. right.1 (left.0 a)), λ a. left.1 (right.0 a))
  after t u w lt (inr e) h =
      let right = same u q e.1 w in
      let left = subst (λ (y : ℕ). AcceptsFrom d y w ↔ AcceptsFrom d q w) (sym e.0) h in
      ((λ a. right.1 (left.0 a)), λ a. left.1 (right.0 a))

  step_from : (c : ℕ × ℕ) (w : List (ℕ × ℕ)) (m x t : ℕ) → next_of d x c.0 c.1 ≡ Some t → AcceptsFrom d x (text_of (c ∷ w) m) ↔ AcceptsFrom d t (text_of w m)
  step_from c w m x t e =
      let path_is : path (next_of d) (c ∷ w) x ≡ path (next_of d) w t = ap (λ o. and_then o (path (next_of d) w)) e in
      ((λ a. record { state = a.state; leads = sym path_is ∙ a.leads; may_end = a.may_end }), λ a. record { state = a.state; leads = path_is ∙ a.leads; may_end = a.may_end })

  no_step : (c : ℕ × ℕ) (w : List (ℕ × ℕ)) (m x : ℕ) → next_of d x c.0 c.1 ≡ None → AcceptsFrom d x (text_of (c ∷ w) m) → ⊥
  no_step c w m x e a = let bad : None ≡ Some a.state = sym (ap (λ o. and_then o (path (next_of d) w)) e) ∙ a.leads in cc

  stops : (m x y : ℕ) → ends_of d x ≡ ends_of d y → AcceptsFrom d x (text_of [] m) → AcceptsFrom d y (text_of [] m)
  stops m x y e a =
      let here : x ≡ a.state = some_same x a.state a.leads in
      record { state = y; leads = refl; may_end = subst (λ (l : List ℕ). Contains l m) (ap (ends_of d) (sym here) ∙ e) a.may_end }

  accepts_alike : (w : List (ℕ × ℕ)) (m : ℕ) → AcceptsFrom d p (text_of w m) ↔ AcceptsFrom d q (text_of w m)
  accepts_alike [] m = ((λ a. stops m p q ends_alike a), λ a. stops m q p (sym ends_alike) a)
  accepts_alike (c ∷ w) m = by (next_alike c.0 c.1) (accepts_alike w m)
    where
      by : AreFoundAlike into p q (next_of d p c.0 c.1) (next_of d q c.0 c.1) → AcceptsFrom d p (text_of w m) ↔ AcceptsFrom d q (text_of w m) → AcceptsFrom d p (text_of (c ∷ w) m) ↔ AcceptsFrom d q (text_of (c ∷ w) m)
      by (inl e) h = ((λ a. absurd (no_step c w m p e.0 a)), λ a. absurd (no_step c w m q e.1 a))
      by (inr e) h =
          let left = step_from c w m p e.0 e.2 in
          let right = step_from c w m q e.1 e.3 in
          let between = after e.0 e.1 (text_of w m) (deterministic.within p c.0 c.1 e.0 e.2) e.4 h in
          ((λ a. right.1 (between.0 (left.0 a))), λ a. left.1 (between.1 (right.0 a)))

  equivalent : AreEquivalent d p q
  equivalent w = accepts_alike w.pairs w.last

-- states whose rows are compared, with an index for each
pub equivalent_at : (d : DeterministicAutomaton) (into : List ℕ) (p q : ℕ) (r s : Row) → IsDeterministic d → AreRepresentatives d into → p < states_of d → slice_get into q ≡ Some q → r ≡ get_or d.rows p r → s ≡ get_or d.rows q s → AreRowsAlike into p q r s → AreEquivalent d p q
equivalent_at d into p q r s deterministic h lt at left right alike =
    let at_p : slice_get d.rows p ≡ Some r = slice_get-get_or d.rows p r lt ∙ ap Some (sym left) in
    let at_q : slice_get d.rows q ≡ Some s = slice_get-get_or d.rows q s (omega (arith, get_within into q q at, h.size)) ∙ ap Some (sym right) in
    equivalent d into p q r s deterministic h.size h.same at_p at_q alike

-- ---- representatives

-- the numbers 0 to n - 1
pub record AreNumbers (n : ℕ) (xs : List ℕ) : Type 0 where
  pub size : length xs ≡ n
  pub each : (i x : ℕ) → slice_get xs i ≡ Some x → i ≡ x

-- the representatives while the states below `left` are not processed, and represent themselves
pub record AreFoundFrom (d : DeterministicAutomaton) (left : ℕ) (into : List ℕ) : Type 0 where
  pub bound : left ≤ states_of d
  pub are : AreRepresentatives d into
  pub own : (x : ℕ) → x < left → slice_get into x ≡ Some x

-- the last state that is not processed gets a representative
pub found_more : (d : DeterministicAutomaton) (left k r : ℕ) (into : List ℕ) → AreFoundFrom d left into → left ≡ k + 1 → k ≤ r → slice_get into r ≡ Some r → AreEquivalent d k r → AreFoundFrom d k (set into k r)
found_more d left k r into h e le at_r same = record {
  bound = omega (arith, e, h.bound);
  are = record {
    size = length-set into k r ∙ h.are.size;
    within = λ x y at. within x y (set_cases into k r x y there at);
    own = λ x y at. own x y (set_cases into k r x y there at);
    same = λ x y at. equal x y (set_cases into k r x y there at);
  };
  own = λ x lt. set_there into k r x x (λ g. omega (arith, g, lt)) (h.own x (omega (arith, lt, e)));
}
  where
    there : k < length into
    there = omega (arith, e, h.bound, h.are.size)

    within : (x y : ℕ) → ((x ≡ k) × (r ≡ y)) ⊎ ((x ≡ k → ⊥) × (slice_get into x ≡ Some y)) → (x ≤ y) × (y < states_of d)
    within x y (inl g) = (omega (arith, g.0, g.1, le), omega (arith, g.1, get_within into r r at_r, h.are.size))
    within x y (inr g) = h.are.within x y g.1

    -- a representative keeps itself
    kept : (y : ℕ) → slice_get into y ≡ Some y → (y ≡ k) ⊎ (y ≡ k → ⊥) → (y ≡ k → r ≡ y) → slice_get (set into k r) y ≡ Some y
    kept y at (inl g) f = ap (slice_get (set into k r)) g ∙ set_here into k r there ∙ ap Some (f g)
    kept y at (inr g) f = set_there into k r y y g at

    own : (x y : ℕ) → ((x ≡ k) × (r ≡ y)) ⊎ ((x ≡ k → ⊥) × (slice_get into x ≡ Some y)) → slice_get (set into k r) y ≡ Some y
    own x y (inl g) = subst (λ (z : ℕ). slice_get (set into k r) z ≡ Some z) g.1 (kept r at_r (cases_eq r k) (λ _. refl))
    own x y (inr g) = kept y (h.are.own x y g.1) (cases_eq y k) (λ f. absurd (other f))
      where
        other : y ≡ k → ⊥
        other f =
            let lt : x < left = omega (arith, (h.are.within x y g.1).0, f, e) in
            let itself : x ≡ y = one_value into x x y (h.own x lt) g.1 in
            g.0 (itself ∙ f)

    equal : (x y : ℕ) → ((x ≡ k) × (r ≡ y)) ⊎ ((x ≡ k → ⊥) × (slice_get into x ≡ Some y)) → AreEquivalent d x y
    equal x y (inl g) = subst (λ (z : ℕ). AreEquivalent d z y) (sym g.0) (subst (λ (z : ℕ). AreEquivalent d k z) g.1 same)
    equal x y (inr g) = h.are.same x y g.1
