-- A state of the subset automaton stands for the states that the automaton may be in.
use Rattle.std.proofs.Common.{◌≡◌, ℕ, ◌<◌, ◌≤◌, Bool, true, false, ◌==◌, ◌⊎◌, inl, inr, refl, sym, ap, subst, ◌∙◌, arith, List, [], ◌∷◌, length, Option, Some, None, slice_get, replicate, get_or}
use Rattle.std.proofs.lemmas.List.{ext_get_or, get_or-set_same, get_or-set_other, get_or-replicate, get_or_past, length-replicate, length-set}
use Rattle.std.proofs.lemmas.Bool.{cases_lt}
use Rattle.std.proofs.lemmas.Bool.Decides.{eqb_tells}
use Rattle.std.proofs.lemmas.Option.{slice_get-get_or}
use Rattle.formula_law.specs.Accepts.{MarkedText, Reaches}
use Rattle.marker_nfa.specs.Automaton.{Automaton, Moves, AcceptsText}
use Rattle.marker_dfa.specs.Reached.{CountIsAbove, Subset, IsIn, start_set, IsMove, single}
use Rattle.marker_dfa.specs.Deterministic.{DeterministicAutomaton, IsAutomatonOf, PathAccepts, IsDeterminized, and_then, next_of, path, states_of}
use Rattle.marker_dfa.proofs.Lists.{get_within, one_value}
use Rattle.marker_dfa.proofs.Pigeons.{fits}

true_of : (b c : Bool) → (b ≡ true → c ≡ true) → (c ≡ true → b ≡ true) → b ≡ c
true_of true true f g = refl
true_of false false f g = refl
true_of true false f g = sym (f refl)
true_of false true f g = g refl

-- two sets of one size with the same members are one
pub same_set : (x y : Subset) → length x ≡ length y → ((p : ℕ) → IsIn x p → IsIn y p) → ((p : ℕ) → IsIn y p → IsIn x p) → x ≡ y
same_set x y e f g = ext_get_or false x y e (λ p lt. true_of (get_or x p false) (get_or y p false) (f p) (g p))

-- two moves of one set are one set
pub same_move : (n : ℕ) (Step : ℕ → ℕ → ℕ → ℕ → Type 0) (x y z : Subset) (m b : ℕ) → IsMove n Step x m b y → IsMove n Step x m b z → y ≡ z
same_move n Step x y z m b h k = same_set y z (h.size ∙ sym k.size) (λ p e. (k.members p).1 ((h.members p).0 e)) (λ p e. (h.members p).1 ((k.members p).0 e))

pub in_within : (x : Subset) (o : ℕ) → IsIn x o → o < length x
in_within x o h = by (cases_lt o (length x))
  where
    by : (o < length x) ⊎ (length x ≤ o) → o < length x
    by (inl lt) = lt
    by (inr le) = let bad : true ≡ false = sym h ∙ get_or_past x o false le in absurd (cc)

pub blank_out : (n o : ℕ) → get_or (replicate n false) o false ≡ false
blank_out n o = go (cases_lt o n)
  where
    go : (o < n) ⊎ (n ≤ o) → get_or (replicate n false) o false ≡ false
    go (inl l) = get_or-replicate n o false false l
    go (inr l) = get_or_past (replicate n false) o false (omega (arith, length-replicate n false))

pub single_only : (n o p : ℕ) → IsIn (single n o) p → p ≡ o
single_only n o p h = go (eqb_tells p o)
  where
    go : ((p == o ≡ true) × (p ≡ o)) ⊎ ((p == o ≡ false) × (p ≡ o → ⊥)) → p ≡ o
    go (inl e) = e.1
    go (inr e) = let bad : true ≡ false = sym h ∙ get_or-set_other (replicate n false) o p true false e.1 ∙ blank_out n p in absurd (cc)

pub single_in : (n o : ℕ) → o < n → IsIn (single n o) o
single_in n o lt = get_or-set_same (replicate n false) o true false (omega (arith, lt, length-replicate n false))

pub single_size : (n o : ℕ) → length (single n o) ≡ n
single_size n o = length-set (replicate n false) o true ∙ length-replicate n false

-- a set has an index in two lists
abbrev pub Placed : List Subset → List Subset → ℕ → ℕ → Type 0
Placed xs ys q r = (x : Subset) × (slice_get xs q ≡ Some x) × (slice_get ys r ≡ Some x)

-- an automaton has as many states as Count says
module _ (n : ℕ) (Step : ℕ → ℕ → ℕ → ℕ → Type 0) (End : ℕ → ℕ → Type 0) (d : DeterministicAutomaton) (h : IsAutomatonOf n Step End d) where
  pub above_states : (limit : ℕ) → limit < states_of d → CountIsAbove limit n Step
  above_states limit lt = record { subsets = h.subsets; many = omega (arith, lt, h.states); sets = h.sets }

  pub states_above : (limit : ℕ) → CountIsAbove limit n Step → limit < states_of d
  states_above limit c = omega (arith, c.many, h.states, fits (length c.subsets) (length h.subsets) (Placed c.subsets h.subsets) index (λ i q p. get_within h.subsets q p.0 p.2) same)
    where
      index : (i : ℕ) → i < length c.subsets → (q : ℕ) × Placed c.subsets h.subsets i q
      index i lt =
          let x = get_or c.subsets i [] in
          let at : slice_get c.subsets i ≡ Some x = slice_get-get_or c.subsets i [] lt in
          let q = h.all x (c.sets.reached i x at) in
          (q.0, (x, at, q.1))

      same : (i j q : ℕ) → Placed c.subsets h.subsets i q → Placed c.subsets h.subsets j q → i ≡ j
      same i j q x y = c.sets.apart i j x.0 x.1 (subst (λ (z : Subset). slice_get c.subsets j ≡ Some z) (one_value h.subsets q y.0 x.0 y.2 x.2) y.1)

module _ (a : Automaton) (d : DeterministicAutomaton) (h : IsDeterminized a d) where
  -- what may be reached from a set
  abbrev From : Subset → List (ℕ × ℕ) → ℕ → Type 0
  From x w p = (o : ℕ) × IsIn x o × Reaches (Moves a) o w p

  record Tracked (x : Subset) (w : List (ℕ × ℕ)) (r : ℕ) : Type 0 where
    pub set_of : Subset
    pub there : slice_get h.subsets r ≡ Some set_of
    pub forth : (p : ℕ) → IsIn set_of p → From x w p
    pub back : (p : ℕ) → From x w p → IsIn set_of p

  track_step : (c : ℕ × ℕ) (w : List (ℕ × ℕ)) (q r : ℕ) (x : Subset) → slice_get h.subsets q ≡ Some x → (o : Option ℕ) → next_of d q c.0 c.1 ≡ o → and_then o (path (next_of d) w) ≡ Some r → ((q' : ℕ) (y : Subset) → slice_get h.subsets q' ≡ Some y → path (next_of d) w q' ≡ Some r → Tracked y w r) → Tracked x (c ∷ w) r
  track_step c w q r x e None g k rec = absurd (cc)
  track_step c w q r x e (Some q') g k rec =
      let v = h.goes q c.0 c.1 q' x e g in
      let mv = v.3 in
      let t = rec q' v.0 v.2 k in
      record {
        set_of = t.set_of;
        there = t.there;
        forth = λ p i. (let f = t.forth p i in let m = (mv.members f.0).0 f.1 in (m.0, m.1, (f.0, m.2, f.2)));
        back = λ p f. t.back p (f.2.0, (mv.members f.2.0).1 (f.0, f.1, f.2.1), f.2.2);
      }

  tracks : (w : List (ℕ × ℕ)) (q r : ℕ) (x : Subset) → slice_get h.subsets q ≡ Some x → path (next_of d) w q ≡ Some r → Tracked x w r
  tracks [] q r x e g =
      let same : q ≡ r = cc in
      record {
        set_of = x;
        there = ap (slice_get h.subsets) (sym same) ∙ e;
        forth = λ p i. (p, i, refl);
        back = λ p f. (let I : ℕ → Type 0 = λ y. IsIn x y in subst I f.2 f.1);
      }
  tracks (c ∷ w) q r x e g = track_step c w q r x e (next_of d q c.0 c.1) refl g (λ q' y e' g'. tracks w q' r y e' g')

  miss_step : (c : ℕ × ℕ) (w : List (ℕ × ℕ)) (q p : ℕ) (x : Subset) → slice_get h.subsets q ≡ Some x → (o : Option ℕ) → next_of d q c.0 c.1 ≡ o → and_then o (path (next_of d) w) ≡ None → From x (c ∷ w) p → ((q' : ℕ) (y : Subset) → slice_get h.subsets q' ≡ Some y → path (next_of d) w q' ≡ None → From y w p → ⊥) → ⊥
  miss_step c w q p x e None g k f rec = h.stays q c.0 c.1 x e g f.0 f.2.0 f.1 f.2.1
  miss_step c w q p x e (Some q') g k f rec =
      let v = h.goes q c.0 c.1 q' x e g in
      let mv = v.3 in
      rec q' v.0 v.2 k (f.2.0, (mv.members f.2.0).1 (f.0, f.1, f.2.1), f.2.2)

  misses : (w : List (ℕ × ℕ)) (q p : ℕ) (x : Subset) → slice_get h.subsets q ≡ Some x → path (next_of d) w q ≡ None → From x w p → ⊥
  misses [] q p x e g f = cc
  misses (c ∷ w) q p x e g f = miss_step c w q p x e (next_of d q c.0 c.1) refl g f (λ q' y e' g' f'. misses w q' p y e' g' f')

  pub to_machine : (w : MarkedText) → PathAccepts d w → AcceptsText a w
  to_machine w k =
      let t = tracks w.pairs 0 k.state (start_set a.states) h.start k.leads in
      let m = (h.ends_are k.state w.last t.set_of t.there).0 k.may_end in
      let f = t.forth m.0 m.1 in
      let R : ℕ → Type 0 = λ o. Reaches (Moves a) o w.pairs m.0 in
      record { state = m.0; reaches = subst R (single_only a.states 0 f.0 f.1) f.2; ends = m.2 }

  pub to_path : (w : MarkedText) → 0 < a.states → AcceptsText a w → PathAccepts d w
  to_path w lt k = pick (path (next_of d) w.pairs 0) refl
    where
      from_start : From (start_set a.states) w.pairs k.state
      from_start = (0, single_in a.states 0 lt, k.reaches)

      pick : (o : Option ℕ) → path (next_of d) w.pairs 0 ≡ o → PathAccepts d w
      pick None g = absurd (misses w.pairs 0 k.state (start_set a.states) h.start g from_start)
      pick (Some r) g =
          let t = tracks w.pairs 0 r (start_set a.states) h.start g in
          record { state = r; leads = g; may_end = (h.ends_are r w.last t.set_of t.there).1 (k.state, t.back k.state from_start, k.ends) }
