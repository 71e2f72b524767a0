-- The automata of small trees.
use Rattle.std.proofs.Common.{◌≡◌, ℕ, zero, suc, ◌+◌, ◌/◌, ◌%◌, ◌<◌, ◌⊎◌, inl, inr, Bool, true, false, List, [], ◌∷◌, length, Some, None, slice_get, slice_index_or, Contains, refl, sym, ap, subst, ◌∙◌, arith}
use Rattle.span_types.specs.FormulaTree.{FormulaTree, Set, Capture, sets}
use Rattle.formula_law.specs.Accepts.{Steps}
use Rattle.formula_law.specs.Positions.{IsEdge, IsEnd}
use Rattle.marker_dfa.specs.Reached.{IsIn, IsMove, IsReached, Subset, next, single, start, start_set}
use Rattle.marker_dfa.specs.Deterministic.{DeterministicAutomaton, IsAutomatonOf, states_of, next_of, ends_of}
use Rattle.marker_dfa.proofs.Tracks.{same_move, single_in, single_only, single_size}
use Rattle.span_algebra.specs.Renaming.{mark_for}
use Rattle.span_algebra.specs.TreeAutomaton.{CopiedEnd, CopiedStep, IsAt, JoinEnd, JoinStep, ProjectEnd, ProjectStep, UnionEnd, UnionStep, join_size, union_size}
use Rattle.span_algebra.specs.Trees.{IsTreeAutomaton}
use Rattle.span_algebra.specs.TreeLaws.{HasOneStep, TreeRows, one_byte}

-- occurrences of which those of y are reached by one step from the start
pub record LeadsTo (n : ℕ) (S : ℕ → ℕ → ℕ → ℕ → Type 0) (E : ℕ → ℕ → Type 0) (by last : ℕ) (y : Subset) : Type 0 where
  pub size : length y ≡ n
  pub positive : 0 < n
  pub only : (m b p : ℕ) → S 0 m b p → (m ≡ by) × (b ≡ 0) × IsIn y p
  pub all : (p : ℕ) → IsIn y p → S 0 by 0 p
  pub no_start : IsIn y 0 → ⊥
  pub stops : (o m b p : ℕ) → IsIn y o → S o m b p → ⊥
  pub start_end : (m : ℕ) → E 0 m → ⊥
  pub one_end : (o m : ℕ) → IsIn y o → E o m → m ≡ last
  pub end : (o : ℕ) × IsIn y o × E o last

module _ (n : ℕ) (S : ℕ → ℕ → ℕ → ℕ → Type 0) (E : ℕ → ℕ → Type 0) (variables by last : ℕ) (y : Subset) (h : LeadsTo n S E by last y) (d : DeterministicAutomaton) (is : HasOneStep variables by last d) where
  abbrev both : List Subset
  both = start_set n ∷ y ∷ []

  which : (q : ℕ) (x : Subset) → slice_get both q ≡ Some x → ((q ≡ 0) × (x ≡ start_set n)) ⊎ ((q ≡ 1) × (x ≡ y))
  which zero x e = let same : start_set n ≡ x = cc in inl (refl, sym same)
  which (suc zero) x e = let same : y ≡ x = cc in inr (refl, sym same)
  which (suc (suc q)) x e = let bad : None ≡ Some x = e in absurd (cc)

  not-start : start_set n ≡ y → ⊥
  not-start e = h.no_start (subst (λ (z : Subset). IsIn z 0) e (single_in n 0 h.positive))

  to-y : IsMove n S (start_set n) by 0 y
  to-y = record {
    size = h.size;
    members = λ p. ((λ i. (0, single_in n 0 h.positive, h.all p i)), (λ g. (h.only by 0 p (subst (λ (o : ℕ). S o by 0 p) (single_only n 0 g.0 g.1) g.2)).2));
  }

  y-reached : IsReached n S y
  y-reached = next (start_set n) y by 0 h.end.0 start to-y h.end.1

  found : (x : Subset) → IsReached n S x → ((x ≡ start_set n) ⊎ (x ≡ y))
  found _ start = inl refl
  found z (next x _ m b p r mv i) = go (found x r)
    where
      go : (x ≡ start_set n) ⊎ (x ≡ y) → (z ≡ start_set n) ⊎ (z ≡ y)
      go (inr e) = let o = (mv.members p).0 i in absurd (h.stops o.0 m b p (subst (λ (w : Subset). IsIn w o.0) e o.1) o.2)
      go (inl e) =
          let o = (mv.members p).0 i in
          let k = h.only m b p (subst (λ (w : ℕ). S w m b p) (single_only n 0 o.0 (subst (λ (w : Subset). IsIn w o.0) e o.1)) o.2) in
          let mv1 = subst (λ (w : Subset). IsMove n S w m b z) e mv in
          let mv2 = subst (λ (w : ℕ). IsMove n S (start_set n) w b z) k.0 mv1 in
          let mv3 = subst (λ (w : ℕ). IsMove n S (start_set n) by w z) k.1 mv2 in
          inr (same_move n S (start_set n) z y by 0 mv3 to-y)

  apart : (q r : ℕ) (x : Subset) → slice_get both q ≡ Some x → slice_get both r ≡ Some x → q ≡ r
  apart q r x e f = go (which q x e) (which r x f)
    where
      go : ((q ≡ 0) × (x ≡ start_set n)) ⊎ ((q ≡ 1) × (x ≡ y)) → ((r ≡ 0) × (x ≡ start_set n)) ⊎ ((r ≡ 1) × (x ≡ y)) → q ≡ r
      go (inl g) (inl k) = g.0 ∙ sym k.0
      go (inl g) (inr k) = absurd (not-start (sym g.1 ∙ k.1))
      go (inr g) (inl k) = absurd (not-start (sym k.1 ∙ g.1))
      go (inr g) (inr k) = g.0 ∙ sym k.0

  pub one-step : IsAutomatonOf n S E d
  one-step = record {
    subsets = both;
    states = sym is.states;
    start = refl;
    sets = record { apart = apart; reached = reached };
    all = λ x r. index x (found x r);
    goes = goes;
    stays = stays;
    ends_are = λ q m x e. (ends-to q m x e, ends-from q m x e);
  }
    where
      reached : (q : ℕ) (x : Subset) → slice_get both q ≡ Some x → IsReached n S x
      reached q x e = go (which q x e)
        where
          go : ((q ≡ 0) × (x ≡ start_set n)) ⊎ ((q ≡ 1) × (x ≡ y)) → IsReached n S x
          go (inl g) = subst (λ (z : Subset). IsReached n S z) (sym g.1) start
          go (inr g) = subst (λ (z : Subset). IsReached n S z) (sym g.1) y-reached

      index : (x : Subset) → (x ≡ start_set n) ⊎ (x ≡ y) → (q : ℕ) × (slice_get both q ≡ Some x)
      index x (inl e) = (0, ap Some (sym e))
      index x (inr e) = (1, ap Some (sym e))

      goes : (q m b r : ℕ) (x : Subset) → slice_get both q ≡ Some x → next_of d q m b ≡ Some r → (z : Subset) × (p : ℕ) × (slice_get both r ≡ Some z) × IsMove n S x m b z × IsIn z p
      goes q m b r x e g = go (which q x e)
        where
          go : ((q ≡ 0) × (x ≡ start_set n)) ⊎ ((q ≡ 1) × (x ≡ y)) → (z : Subset) × (p : ℕ) × (slice_get both r ≡ Some z) × IsMove n S x m b z × IsIn z p
          go (inl f) =
              let k = (is.steps q m b r).0 g in
              let mv1 = subst (λ (w : Subset). IsMove n S w by 0 y) (sym f.1) to-y in
              let mv2 = subst (λ (w : ℕ). IsMove n S x w 0 y) (sym k.1) mv1 in
              let mv3 = subst (λ (w : ℕ). IsMove n S x m w y) (sym k.2) mv2 in
              (y, h.end.0, subst (λ (w : ℕ). slice_get both w ≡ Some y) (sym k.3) refl, mv3, h.end.1)
          go (inr f) = let k = (is.steps q m b r).0 g in absurd (omega (arith, f.0, k.0))

      stays : (q m b : ℕ) (x : Subset) → slice_get both q ≡ Some x → next_of d q m b ≡ None → (o p : ℕ) → IsIn x o → S o m b p → ⊥
      stays q m b x e g o p i s = go (which q x e)
        where
          go : ((q ≡ 0) × (x ≡ start_set n)) ⊎ ((q ≡ 1) × (x ≡ y)) → ⊥
          go (inr f) = h.stops o m b p (subst (λ (z : Subset). IsIn z o) f.1 i) s
          go (inl f) =
              let k = h.only m b p (subst (λ (w : ℕ). S w m b p) (single_only n 0 o (subst (λ (z : Subset). IsIn z o) f.1 i)) s) in
              let some : next_of d q m b ≡ Some 1 = (is.steps q m b 1).1 (f.0, k.0, k.1, refl) in
              cc

      ends-to : (q m : ℕ) (x : Subset) → slice_get both q ≡ Some x → Contains (ends_of d q) m → (o : ℕ) × IsIn x o × E o m
      ends-to q m x e c = go (which q x e)
        where
          go : ((q ≡ 0) × (x ≡ start_set n)) ⊎ ((q ≡ 1) × (x ≡ y)) → (o : ℕ) × IsIn x o × E o m
          go (inl f) = let k = (is.ends q m).0 c in absurd (omega (arith, f.0, k.0))
          go (inr f) = let k = (is.ends q m).0 c in (h.end.0, subst (λ (z : Subset). IsIn z h.end.0) (sym f.1) h.end.1, subst (λ (w : ℕ). E h.end.0 w) (sym k.1) h.end.2)

      ends-from : (q m : ℕ) (x : Subset) → slice_get both q ≡ Some x → (o : ℕ) × IsIn x o × E o m → Contains (ends_of d q) m
      ends-from q m x e c = go (which q x e)
        where
          go : ((q ≡ 0) × (x ≡ start_set n)) ⊎ ((q ≡ 1) × (x ≡ y)) → Contains (ends_of d q) m
          go (inl f) = absurd (h.start_end m (subst (λ (w : ℕ). E w m) (single_only n 0 c.0 (subst (λ (z : Subset). IsIn z c.0) f.1 c.1)) c.2))
          go (inr f) = (is.ends q m).1 (f.0, h.one_end c.0 m (subst (λ (z : Subset). IsIn z c.0) f.1 c.1) c.2)

-- the second of two
abbrev second : Subset
second = false ∷ true ∷ []

second-only : (p : ℕ) → IsIn second p → p ≡ 1
second-only zero h = let bad : false ≡ true = h in absurd (cc)
second-only (suc zero) h = refl
second-only (suc (suc p)) h = let bad : false ≡ true = h in absurd (cc)

abbrev byte : FormulaTree
byte = Capture 0 (Set (true ∷ []))

zero-only : (members : List Bool) (b : ℕ) → members ≡ true ∷ [] → slice_index_or members b false ≡ true → b ≡ 0
zero-only members b e h = go b (subst (λ (l : List Bool). slice_index_or l b false ≡ true) e h)
  where
    go : (b : ℕ) → slice_index_or (true ∷ []) b false ≡ true → b ≡ 0
    go zero h = refl
    go (suc b) h = let bad : false ≡ true = h in absurd (cc)

leaf-only : (m b p : ℕ) → Steps byte 0 m b p → (m ≡ 1) × (b ≡ 0) × IsIn second p
leaf-only m b p s = go s.edge
  where
    go : IsEdge byte 0 m p → (m ≡ 1) × (b ≡ 0) × IsIn second p
    go (inl e) = (omega (arith, e.1.1.0, e.1.2), zero-only s.members b s.has_set.1 s.is_member, subst (λ (z : ℕ). IsIn second z) (sym e.1.1.1) refl)
    go (inr e) = absurd e

leaf-all : (p : ℕ) → p ≡ 1 → Steps byte 0 1 0 p
leaf-all p e = record { edge = inl (refl, (0, (refl, e), refl)); members = true ∷ []; has_set = (e, refl); is_member = refl }

leaf-stops : (o m b p : ℕ) → o ≡ 1 → IsEdge byte o m p → ⊥
leaf-stops o m b p e (inl k) = omega (arith, e, k.0)
leaf-stops o m b p e (inr k) = k

leaf-start_end : (m : ℕ) → IsEnd byte 0 m → ⊥
leaf-start_end m (inl k) = k.1.1
leaf-start_end m (inr k) = omega (arith, k.1.0)

leaf-one_end : (o m : ℕ) → IsEnd byte o m → m ≡ 2
leaf-one_end o m (inl k) = absurd k.1.1
leaf-one_end o m (inr k) = omega (arith, k.1.1, k.2)

leaf-leads : LeadsTo (suc (sets byte)) (Steps byte) (IsEnd byte) 1 2 second
leaf-leads = record {
  size = refl;
  positive = omega arith;
  only = leaf-only;
  all = λ p i. leaf-all p (second-only p i);
  no_start = λ i. (let e = second-only 0 i in omega (arith, e));
  stops = λ o m b p i s. leaf-stops o m b p (second-only o i) s.edge;
  start_end = leaf-start_end;
  one_end = λ o m i e. leaf-one_end o m e;
  end = (1, refl, inr (0, (refl, refl), refl));
}

-- copies of the one step and the one end
module _ (to from : List (List ℕ)) (base variables by last : ℕ) (a : DeterministicAutomaton) (is : HasOneStep variables by last a) where
  copied-is : (o m b p : ℕ) → CopiedStep to from base a o m b p → IsAt base o 0 × (m ≡ mark_for to from by) × (b ≡ 0) × (p ≡ base + 1)
  copied-is o m b p s =
      let k = (is.steps s.state s.own_mark b s.next).0 s.step in
      (subst (λ (q : ℕ). IsAt base o q) k.0 s.at, s.mark ∙ ap (mark_for to from) k.1, k.2, s.leads ∙ ap (λ q. base + q) k.3)

  copied-from : (o p : ℕ) → IsAt base o 0 → p ≡ base + 1 → CopiedStep to from base a o (mark_for to from by) 0 p
  copied-from o p at e = record { state = 0; next = 1; own_mark = by; at = at; byte = omega arith; step = (is.steps 0 by 0 1).1 (refl, refl, refl, refl); mark = refl; leads = e }

  ended-is : (o m : ℕ) → CopiedEnd to from base a o m → IsAt base o 1 × (m ≡ mark_for to from last)
  ended-is o m s =
      let k = (is.ends s.state s.own_mark).0 s.may_end in
      (subst (λ (q : ℕ). IsAt base o q) k.0 s.at, s.mark ∙ ap (mark_for to from) k.1)

  ended-from : (o : ℕ) → IsAt base o 1 → CopiedEnd to from base a o (mark_for to from last)
  ended-from o at = record { state = 1; own_mark = last; at = at; may_end = (is.ends 1 last).1 (refl, refl); mark = refl }

not-at : (base o q : ℕ) → IsAt base o q → (o ≡ base + q → ⊥) → (o ≡ 0 → q ≡ 0 → ⊥) → ⊥
not-at base o q (inl e) f g = f e
not-at base o q (inr e) f g = g e.0 e.1

abbrev x_name : List (List ℕ)
x_name = (120 ∷ []) ∷ []

abbrev y_name : List (List ℕ)
y_name = (121 ∷ []) ∷ []

project-leads : (a : DeterministicAutomaton) → HasOneStep 1 1 2 a → LeadsTo (states_of a) (ProjectStep a x_name []) (ProjectEnd a x_name []) 0 0 second
project-leads a is = record {
  size = sym is.states;
  positive = omega (arith, is.states);
  only = λ m b p s. (let k = copied-is [] x_name 0 1 1 2 a is 0 m b p s in (k.1, k.2, subst (λ (z : ℕ). IsIn second z) (sym k.3) refl));
  all = λ p i. copied-from [] x_name 0 1 1 2 a is 0 p (inr (refl, refl)) (second-only p i);
  no_start = λ i. (let e = second-only 0 i in omega (arith, e));
  stops = λ o m b p i s. (let e = second-only o i in let k = copied-is [] x_name 0 1 1 2 a is o m b p s in not-at 0 o 0 k.0 (λ f. omega (arith, e, f)) (λ f g. omega (arith, e, f)));
  start_end = λ m s. (let k = ended-is [] x_name 0 1 1 2 a is 0 m s in not-at 0 0 1 k.0 (λ f. omega (arith, f)) (λ f g. omega (arith, g)));
  one_end = λ o m i s. (ended-is [] x_name 0 1 1 2 a is o m s).1;
  end = (1, refl, ended-from [] x_name 0 1 1 2 a is 1 (inl refl));
}

abbrev third_fifth : Subset
third_fifth = false ∷ false ∷ true ∷ false ∷ true ∷ []

either-only : (p : ℕ) → IsIn third_fifth p → (p ≡ 2) ⊎ (p ≡ 4)
either-only zero h = let bad : false ≡ true = h in absurd (cc)
either-only (suc zero) h = let bad : false ≡ true = h in absurd (cc)
either-only (suc (suc zero)) h = inl refl
either-only (suc (suc (suc zero))) h = let bad : false ≡ true = h in absurd (cc)
either-only (suc (suc (suc (suc zero)))) h = inr refl
either-only (suc (suc (suc (suc (suc p))))) h = let bad : false ≡ true = h in absurd (cc)

module _ (a : DeterministicAutomaton) (is : HasOneStep 1 1 2 a) where
  union-only : (m b p : ℕ) → UnionStep a x_name a x_name 0 m b p → (m ≡ 1) × (b ≡ 0) × IsIn third_fifth p
  union-only m b p (inl s) = let k = copied-is x_name x_name 1 1 1 2 a is 0 m b p s in (k.1, k.2, subst (λ (z : ℕ). IsIn third_fifth z) (sym k.3) refl)
  union-only m b p (inr s) =
      let k = copied-is x_name x_name (suc (states_of a)) 1 1 2 a is 0 m b p s in
      let e : 4 ≡ p = omega (arith, k.3, is.states) in
      (k.1, k.2, subst (λ (z : ℕ). IsIn third_fifth z) e refl)

  union-all : (p : ℕ) → (p ≡ 2) ⊎ (p ≡ 4) → UnionStep a x_name a x_name 0 1 0 p
  union-all p (inl e) = inl (copied-from x_name x_name 1 1 1 2 a is 0 p (inr (refl, refl)) e)
  union-all p (inr e) = inr (copied-from x_name x_name (suc (states_of a)) 1 1 2 a is 0 p (inr (refl, refl)) (omega (arith, e, is.states)))

  union-stops : (o m b p : ℕ) → (o ≡ 2) ⊎ (o ≡ 4) → UnionStep a x_name a x_name o m b p → ⊥
  union-stops o m b p i (inl s) = let k = copied-is x_name x_name 1 1 1 2 a is o m b p s in not-at 1 o 0 k.0 (λ f. no i f) (λ f g. none i f)
    where
      no : (o ≡ 2) ⊎ (o ≡ 4) → o ≡ 1 + 0 → ⊥
      no (inl e) f = omega (arith, e, f)
      no (inr e) f = omega (arith, e, f)

      none : (o ≡ 2) ⊎ (o ≡ 4) → o ≡ 0 → ⊥
      none (inl e) f = omega (arith, e, f)
      none (inr e) f = omega (arith, e, f)
  union-stops o m b p i (inr s) = let k = copied-is x_name x_name (suc (states_of a)) 1 1 2 a is o m b p s in not-at (suc (states_of a)) o 0 k.0 (λ f. no i f) (λ f g. none i f)
    where
      no : (o ≡ 2) ⊎ (o ≡ 4) → o ≡ suc (states_of a) + 0 → ⊥
      no (inl e) f = omega (arith, e, f, is.states)
      no (inr e) f = omega (arith, e, f, is.states)

      none : (o ≡ 2) ⊎ (o ≡ 4) → o ≡ 0 → ⊥
      none (inl e) f = omega (arith, e, f)
      none (inr e) f = omega (arith, e, f)

  union-start_end : (m : ℕ) → UnionEnd a x_name a x_name 0 m → ⊥
  union-start_end m (inl s) = let k = ended-is x_name x_name 1 1 1 2 a is 0 m s in not-at 1 0 1 k.0 (λ f. omega (arith, f)) (λ f g. omega (arith, g))
  union-start_end m (inr s) = let k = ended-is x_name x_name (suc (states_of a)) 1 1 2 a is 0 m s in not-at (suc (states_of a)) 0 1 k.0 (λ f. omega (arith, f)) (λ f g. omega (arith, g))

  union-one_end : (o m : ℕ) → UnionEnd a x_name a x_name o m → m ≡ 2
  union-one_end o m (inl s) = (ended-is x_name x_name 1 1 1 2 a is o m s).1
  union-one_end o m (inr s) = (ended-is x_name x_name (suc (states_of a)) 1 1 2 a is o m s).1

  union-leads : LeadsTo (union_size a a) (UnionStep a x_name a x_name) (UnionEnd a x_name a x_name) 1 2 third_fifth
  union-leads = record {
    size = omega (arith, is.states);
    positive = omega arith;
    only = union-only;
    all = λ p i. union-all p (either-only p i);
    no_start = λ i. (let bad : false ≡ true = i in cc);
    stops = λ o m b p i s. union-stops o m b p (either-only o i) s;
    start_end = union-start_end;
    one_end = λ o m i s. union-one_end o m s;
    end = (2, refl, inl (ended-from x_name x_name 1 1 1 2 a is 2 (inl refl)));
  }

-- a mark of two variables by its digits
five : (m : ℕ) → m % 4 ≡ 1 → (m / 4) % 4 ≡ 1 → m < 16 → m ≡ 5
five m e f lt = omega (arith, e, f, lt)

ten : (m : ℕ) → m % 4 ≡ 2 → (m / 4) % 4 ≡ 2 → m < 16 → m ≡ 10
ten m e f lt = omega (arith, e, f, lt)

abbrev x_y : List (List ℕ)
x_y = (120 ∷ []) ∷ (121 ∷ []) ∷ []

module _ (a : DeterministicAutomaton) (is : HasOneStep 1 1 2 a) where
  join-only : (m b p : ℕ) → JoinStep a x_name a y_name 0 m b p → (m ≡ 5) × (b ≡ 0) × (p ≡ 1025)
  join-only m b p s =
      let k = (is.steps s.left (mark_for x_name x_y m) b s.next_left).0 s.left_step in
      let g = (is.steps s.right (mark_for y_name x_y m) b s.next_right).0 s.right_step in
      (five m (omega (arith, k.1)) (omega (arith, g.1)) s.mark, k.2, omega (arith, s.leads, k.3, g.3))

  join-all : (p : ℕ) → p ≡ 1025 → JoinStep a x_name a y_name 0 5 0 p
  join-all p e = record {
    left = 0;
    right = 0;
    next_left = 1;
    next_right = 1;
    from = refl;
    byte = omega arith;
    mark = omega arith;
    left_step = (is.steps 0 1 0 1).1 (refl, refl, refl, refl);
    right_step = (is.steps 0 1 0 1).1 (refl, refl, refl, refl);
    leads = e;
  }

  join-stops : (o m b p : ℕ) → o ≡ 1025 → JoinStep a x_name a y_name o m b p → ⊥
  join-stops o m b p e s =
      let k = (is.steps s.left (mark_for x_name x_y m) b s.next_left).0 s.left_step in
      let g = (is.steps s.right (mark_for y_name x_y m) b s.next_right).0 s.right_step in
      omega (arith, e, s.from, k.0, g.0)

  join-start_end : (m : ℕ) → JoinEnd a x_name a y_name 0 m → ⊥
  join-start_end m s = let k = (is.ends s.left (mark_for x_name x_y m)).0 s.left_end in omega (arith, s.from, k.0)

  join-one_end : (o m : ℕ) → JoinEnd a x_name a y_name o m → m ≡ 10
  join-one_end o m s =
      let k = (is.ends s.left (mark_for x_name x_y m)).0 s.left_end in
      let g = (is.ends s.right (mark_for y_name x_y m)).0 s.right_end in
      ten m (omega (arith, k.1)) (omega (arith, g.1)) s.mark

  join-end : JoinEnd a x_name a y_name 1025 10
  join-end = record { left = 1; right = 1; from = refl; mark = omega arith; left_end = (is.ends 1 2).1 (refl, refl); right_end = (is.ends 1 2).1 (refl, refl) }

  join-leads : LeadsTo (join_size a) (JoinStep a x_name a y_name) (JoinEnd a x_name a y_name) 5 10 (single 2048 1025)
  join-leads = record {
    size = omega (arith, single_size 2048 1025, is.states);
    positive = omega (arith, is.states);
    only = λ m b p s. (let k = join-only m b p s in (k.0, k.1, subst (λ (z : ℕ). IsIn (single 2048 1025) z) (sym k.2) (single_in 2048 1025 (omega arith))));
    all = λ p i. join-all p (single_only 2048 1025 p i);
    no_start = λ i. (let e = single_only 2048 1025 0 i in omega (arith, e));
    stops = λ o m b p i s. join-stops o m b p (single_only 2048 1025 o i) s;
    start_end = join-start_end;
    one_end = λ o m i s. join-one_end o m s;
    end = (1025, single_in 2048 1025 (omega arith), join-end);
  }

leaf-row : (name : List ℕ) (d : DeterministicAutomaton) → HasOneStep 1 1 2 d → IsTreeAutomaton (one_byte name) d
leaf-row name d h = record { variables = h.count; automaton = one-step (suc (sets byte)) (Steps byte) (IsEnd byte) 1 1 2 second leaf-leads d h }

pub tree-rows : TreeRows
tree-rows = record {
  leaf = leaf-row;
  union = λ d h. record {
    left = d;
    right = d;
    left_is = leaf-row (120 ∷ []) d h;
    right_is = leaf-row (120 ∷ []) d h;
    holds = record { variables = h.count; automaton = one-step _ _ _ 1 1 2 third_fifth (union-leads d h) d h };
  };
  join = λ a d g h. record {
    left = a;
    right = a;
    left_is = leaf-row (120 ∷ []) a g;
    right_is = leaf-row (121 ∷ []) a g;
    holds = (omega (arith, g.states), record { variables = h.count; automaton = one-step _ _ _ 2 5 10 (single 2048 1025) (join-leads a g) d h });
  };
  project = λ a d g h. record {
    source = a;
    source_is = leaf-row (120 ∷ []) a g;
    holds = record { variables = h.count; automaton = one-step _ _ _ 0 0 0 second (project-leads a g) d h };
  };
}
