-- The automaton of the representatives accepts the same texts.
use Rattle.std.proofs.Common.{◌≡◌, ℕ, zero, suc, ◌^◌, ◌<◌, ◌≤◌, ◌==◌, ◌↔◌, true, false, ◌⊎◌, inl, inr, refl, sym, ap, subst, ◌∙◌, arith, List, [], ◌∷◌, length, map, Option, Some, None, slice_get, slice_index_or, if◌then◌else◌, Contains, AllPairs}
use Rattle.std.specs.Option.{option_map}
use Rattle.std.proofs.lemmas.Option.{slice_get-get_or}
use Rattle.std.proofs.lemmas.Bool.Decides.{eqb_tells}
use Rattle.formula_law.specs.Accepts.{MarkedText}
use Rattle.marker_dfa.specs.declared.dfa.Cell.{Cell}
use Rattle.marker_dfa.specs.declared.dfa.Row.{Row}
use Rattle.marker_dfa.specs.Deterministic.{DeterministicAutomaton, IsDeterministic, IsWide, PathAccepts, and_then, cell_of, ends_in, ends_of, find_target, marks_in, marks_of, next_of, path, states_of}
use Rattle.marker_dfa.specs.Merging.{AcceptsAlike, AcceptsFrom, AreEquivalent, AreNumbered, AreRepresentatives, AreRowsUnder, IsCellUnder, IsRowUnder}
use Rattle.marker_dfa.proofs.Lists.{get_within, one_value}

-- a value that is there or not
both_ways : {X R : Type 0} (o : Option X) → (o ≡ None → R) → ((x : X) → o ≡ Some x → R) → R
both_ways None f g = f refl
both_ways (Some x) f g = g x refl

some_there : {X : Type 0} (xs : List X) (k : ℕ) → k < length xs → (x : X) × (slice_get xs k ≡ Some x)
some_there [] k lt = absurd (omega (arith, lt))
some_there (x ∷ xs) zero lt = (x, refl)
some_there (x ∷ xs) (suc k) lt = some_there xs k (omega (arith, lt))

none_within : {X : Type 0} (xs : List X) (k : ℕ) → slice_get xs k ≡ None → k < length xs → ⊥
none_within xs k none lt =
    let w = some_there xs k lt in
    let bad : None ≡ Some w.0 = sym none ∙ w.1 in
    cc

none_past : {X Y : Type 0} (xs : List X) (ys : List Y) (k : ℕ) → length ys ≡ length xs → slice_get xs k ≡ None → slice_get ys k ≡ None
none_past xs ys k even none = both_ways (slice_get ys k) (λ e. e) (λ y e. absurd (none_within xs k none (omega (arith, get_within ys k y e, even))))

no_pairs : AllPairs (λ x y. y < x) []
no_pairs i j d lt le = let l : j < 0 = le in absurd (omega (arith, l))

none_in : (m : ℕ) → Contains [] m → ⊥
none_in m c = let l : c.0 < 0 = c.1 in omega (arith, l)

-- a mark leads to the number of the state that it led to
target_under : (number : ℕ → ℕ) (ms ts : List ℕ) (m : ℕ) → find_target ms (map number ts) m ≡ option_map number (find_target ms ts m)
target_under number [] ts m = refl
target_under number (n ∷ ms) [] m = refl
target_under number (n ∷ ms) (t ∷ ts) m = go (eqb_tells n m) (target_under number ms ts m)
  where
    go : ((n == m ≡ true) × (n ≡ m)) ⊎ ((n == m ≡ false) × (n ≡ m → ⊥)) → find_target ms (map number ts) m ≡ option_map number (find_target ms ts m) → (if n == m then Some (number t) else find_target ms (map number ts) m) ≡ option_map number (if n == m then Some t else find_target ms ts m)
    go (inl e) rest = rw e.0
    go (inr e) rest = rw e.0 rest

-- a step and the texts after it
record Steps (d : DeterministicAutomaton) (q m b : ℕ) (w : MarkedText) : Type 0 where
  target : ℕ
  step : next_of d q m b ≡ Some target
  rest : AcceptsFrom d target w

first_step : (d : DeterministicAutomaton) (q m b : ℕ) (ps : List (ℕ × ℕ)) (last : ℕ) → AcceptsFrom d q (record { pairs = (m, b) ∷ ps; last = last }) → Steps d q m b (record { pairs = ps; last = last })
first_step d q m b ps last h = both_ways (next_of d q m b)
    (λ none. (let bad : None ≡ Some h.state = sym (ap (λ o. and_then o (path (next_of d) ps)) none) ∙ h.leads in absurd (cc)))
    (λ t step. record { target = t; step = step; rest = record { state = h.state; leads = sym (ap (λ o. and_then o (path (next_of d) ps)) step) ∙ h.leads; may_end = h.may_end } })

with_step : (d : DeterministicAutomaton) (q m b : ℕ) (ps : List (ℕ × ℕ)) (last : ℕ) → Steps d q m b (record { pairs = ps; last = last }) → AcceptsFrom d q (record { pairs = (m, b) ∷ ps; last = last })
with_step d q m b ps last s = record { state = s.rest.state; leads = ap (λ o. and_then o (path (next_of d) ps)) s.step ∙ s.rest.leads; may_end = s.rest.may_end }

-- an automaton by its parts
abbrev pub automaton_of : ℕ → List ℕ → List Row → DeterministicAutomaton
automaton_of variables classes rows = record { variables = variables; classes = classes; rows = rows }

pub same_parts : (d : DeterministicAutomaton) (variables : ℕ) (classes : List ℕ) (rows : List Row) → variables ≡ d.variables → classes ≡ d.classes → automaton_of d.variables d.classes rows ≡ automaton_of variables classes rows
same_parts d variables classes rows e f = ap (λ n. automaton_of n d.classes rows) (sym e) ∙ ap (λ l. automaton_of variables l rows) (sym f)

-- a byte that is read has a class
pub byte_small : (d : DeterministicAutomaton) (q m b r : ℕ) → length d.classes ≡ 256 → next_of d q m b ≡ Some r → b < 256
byte_small d q m b r size step = both_ways (slice_get d.rows q) (λ none. no_row none) (λ row at. with_row row at)
  where
    no_row : slice_get d.rows q ≡ None → b < 256
    no_row none =
        let bad : None ≡ Some r = sym (ap (λ o. and_then (and_then o (λ r. and_then (slice_get d.classes b) (λ c. slice_get r.cells.items c))) (λ c. find_target c.marks.items c.targets.items m)) none) ∙ step in
        absurd (cc)

    with_row : (row : Row) → slice_get d.rows q ≡ Some row → b < 256
    with_row row at =
        let known : and_then (and_then (slice_get d.classes b) (λ c. slice_get row.cells.items c)) (λ c. find_target c.marks.items c.targets.items m) ≡ Some r = sym (ap (λ o. and_then (and_then o (λ r. and_then (slice_get d.classes b) (λ c. slice_get r.cells.items c))) (λ c. find_target c.marks.items c.targets.items m)) at) ∙ step in
        both_ways (slice_get d.classes b)
        (λ none. (let bad : None ≡ Some r = sym (ap (λ o. and_then (and_then o (λ c. slice_get row.cells.items c)) (λ c. find_target c.marks.items c.targets.items m)) none) ∙ known in absurd (cc)))
        (λ c there. omega (arith, get_within d.classes b c there, size))

module _ (d : DeterministicAutomaton) (into kept numbers : List ℕ) (rows : List Row) (is : IsDeterministic d) (wide : IsWide d) (into_are : AreRepresentatives d into) (numbered : AreNumbered into kept numbers) (under : AreRowsUnder kept numbers d.rows rows) where
  abbrev smaller : DeterministicAutomaton
  smaller = record { variables = d.variables; classes = d.classes; rows = rows }

  abbrev number : ℕ → ℕ
  number t = slice_index_or numbers t 0

  -- the rows of a representative in both automata
  record RowOf (k q : ℕ) : Type 0 where
    old : Row
    at_old : slice_get d.rows q ≡ Some old
    new : Row
    at_new : slice_get rows k ≡ Some new
    are : IsRowUnder numbers old new

  row_of : (k q : ℕ) → slice_get kept k ≡ Some q → RowOf k q
  row_of k q at =
      let own = (numbered.back k q at).0 in
      let old = some_there d.rows q (omega (arith, get_within into q q own, into_are.size)) in
      let new = some_there rows k (omega (arith, get_within kept k q at, under.even)) in
      record { old = old.0; at_old = old.1; new = new.0; at_new = new.1; are = under.rows k q old.0 new.0 at old.1 new.1 }

  -- the cells of a representative for a byte, if it has a class
  record CellsOf (k q b : ℕ) : Type 0 where
    old : Cell
    at_old : cell_of d q b ≡ Some old
    new : Cell
    at_new : cell_of smaller k b ≡ Some new
    are : IsCellUnder numbers old new

  cell_at : (e : DeterministicAutomaton) (q b : ℕ) (r : Row) → slice_get e.rows q ≡ Some r → cell_of e q b ≡ and_then (slice_get e.classes b) (λ c. slice_get r.cells.items c)
  cell_at e q b r at = ap (λ o. and_then o (λ r. and_then (slice_get e.classes b) (λ c. slice_get r.cells.items c))) at

  cells_of : (k q b : ℕ) → slice_get kept k ≡ Some q → (CellsOf k q b) ⊎ ((cell_of d q b ≡ None) × (cell_of smaller k b ≡ None))
  cells_of k q b at = both_ways (slice_get d.classes b) no_class (λ c there. inl (with_class c there))
    where
      r : RowOf k q
      r = row_of k q at

      no_class : slice_get d.classes b ≡ None → (CellsOf k q b) ⊎ ((cell_of d q b ≡ None) × (cell_of smaller k b ≡ None))
      no_class none = inr (cell_at d q b r.old r.at_old ∙ ap (λ o. and_then o (λ c. slice_get r.old.cells.items c)) none, cell_at smaller k b r.new r.at_new ∙ ap (λ o. and_then o (λ c. slice_get r.new.cells.items c)) none)

      with_class : (c : ℕ) → slice_get d.classes b ≡ Some c → CellsOf k q b
      with_class c there =
          let lt = wide.cells q b c r.old r.at_old there in
          let old = some_there r.old.cells.items c lt in
          let new = some_there r.new.cells.items c (omega (arith, lt, r.are.even)) in
          record {
            old = old.0;
            at_old = cell_at d q b r.old r.at_old ∙ ap (λ o. and_then o (λ c. slice_get r.old.cells.items c)) there ∙ old.1;
            new = new.0;
            at_new = cell_at smaller k b r.new r.at_new ∙ ap (λ o. and_then o (λ c. slice_get r.new.cells.items c)) there ∙ new.1;
            are = r.are.cells c old.0 new.0 old.1 new.1;
          }

  abbrev target_in : ℕ → Option Cell → Option ℕ
  target_in m o = and_then o (λ c. find_target c.marks.items c.targets.items m)

  -- a representative keeps its marks, its ends and, by their numbers, its next states
  next_under : (k q m b : ℕ) → slice_get kept k ≡ Some q → next_of smaller k m b ≡ option_map number (next_of d q m b)
  next_under k q m b at = by (cells_of k q b at)
    where
      by : (CellsOf k q b) ⊎ ((cell_of d q b ≡ None) × (cell_of smaller k b ≡ None)) → next_of smaller k m b ≡ option_map number (next_of d q m b)
      by (inl c) =
          let same : find_target c.new.marks.items c.new.targets.items m ≡ find_target c.old.marks.items (map number c.old.targets.items) m = ap (λ l. find_target l c.new.targets.items m) c.are.marks ∙ ap (λ l. find_target c.old.marks.items l m) c.are.targets in
          ap (target_in m) c.at_new ∙ same ∙ target_under number c.old.marks.items c.old.targets.items m ∙ sym (ap (λ o. option_map number (target_in m o)) c.at_old)
      by (inr n) = ap (target_in m) n.1 ∙ sym (ap (λ o. option_map number (target_in m o)) n.0)

  marks_under : (k q b : ℕ) → slice_get kept k ≡ Some q → marks_of smaller k b ≡ marks_of d q b
  marks_under k q b at = by (cells_of k q b at)
    where
      by : (CellsOf k q b) ⊎ ((cell_of d q b ≡ None) × (cell_of smaller k b ≡ None)) → marks_of smaller k b ≡ marks_of d q b
      by (inl c) = ap marks_in c.at_new ∙ c.are.marks ∙ sym (ap marks_in c.at_old)
      by (inr n) = ap marks_in n.1 ∙ sym (ap marks_in n.0)

  ends_under : (k q : ℕ) → slice_get kept k ≡ Some q → ends_of smaller k ≡ ends_of d q
  ends_under k q at =
      let r = row_of k q at in
      ap ends_in r.at_new ∙ r.are.ends ∙ sym (ap ends_in r.at_old)

  -- there is nothing past the representatives
  past : (k : ℕ) → slice_get kept k ≡ None → slice_get rows k ≡ None
  past k none = none_past kept rows k under.even none

  no_cell : (k b : ℕ) → slice_get kept k ≡ None → cell_of smaller k b ≡ None
  no_cell k b none = ap (λ o. and_then o (λ r. and_then (slice_get d.classes b) (λ c. slice_get r.cells.items c))) (past k none)

  no_next : (k m b r : ℕ) → slice_get kept k ≡ None → next_of smaller k m b ≡ Some r → ⊥
  no_next k m b r none step =
      let bad : None ≡ Some r = sym (ap (λ o. and_then o (λ c. find_target c.marks.items c.targets.items m)) (no_cell k b none)) ∙ step in
      cc

  no_marks : (k b : ℕ) → slice_get kept k ≡ None → marks_of smaller k b ≡ []
  no_marks k b none = ap marks_in (no_cell k b none)

  no_ends : (k : ℕ) → slice_get kept k ≡ None → ends_of smaller k ≡ []
  no_ends k none = ap ends_in (past k none)

  -- where a step leads
  record Target (t : ℕ) : Type 0 where
    by : ℕ
    at : slice_get kept (number t) ≡ Some by
    same : AreEquivalent d t by

  target_of : (q m b t : ℕ) → next_of d q m b ≡ Some t → Target t
  target_of q m b t step =
      let lt : t < length into = omega (arith, is.within q m b t step, into_are.size) in
      let r = some_there into t lt in
      let n : slice_get numbers t ≡ Some (number t) = slice_get-get_or numbers t 0 (omega (arith, lt, numbered.size)) in
      record { by = r.0; at = numbered.number t (number t) r.0 n r.1; same = into_are.same t r.0 r.1 }

  -- a step of a representative in the smaller automaton
  record Stepped (k q m b n : ℕ) : Type 0 where
    target : ℕ
    step : next_of d q m b ≡ Some target
    is_number : number target ≡ n

  stepped : (k q m b n : ℕ) → slice_get kept k ≡ Some q → next_of smaller k m b ≡ Some n → Stepped k q m b n
  stepped k q m b n at step = both_ways (next_of d q m b)
      (λ none. (let bad : None ≡ Some n = sym (ap (option_map number) none) ∙ sym (next_under k q m b at) ∙ step in absurd (cc)))
      (λ t there. (let same : Some (number t) ≡ Some n = sym (ap (option_map number) there) ∙ sym (next_under k q m b at) ∙ step in record { target = t; step = there; is_number = cc }))

  step_under : (k q m b t : ℕ) → slice_get kept k ≡ Some q → next_of d q m b ≡ Some t → next_of smaller k m b ≡ Some (number t)
  step_under k q m b t at step = next_under k q m b at ∙ ap (option_map number) step

  -- what a representative accepts, it accepts with its number
  abbrev AreSame : List (ℕ × ℕ) → ℕ → Type 0
  AreSame ps last = (k q : ℕ) → slice_get kept k ≡ Some q → AcceptsFrom smaller k (record { pairs = ps; last = last }) ↔ AcceptsFrom d q (record { pairs = ps; last = last })

  same_end : (last : ℕ) → AreSame [] last
  same_end last k q at = ((λ h. to h), λ h. from h)
    where
      to : AcceptsFrom smaller k (record { pairs = []; last = last }) → AcceptsFrom d q (record { pairs = []; last = last })
      to h =
          let here : k ≡ h.state = (let e : Some k ≡ Some h.state = h.leads in cc) in
          let ends : ends_of smaller h.state ≡ ends_of d q = ap (ends_of smaller) (sym here) ∙ ends_under k q at in
          record { state = q; leads = refl; may_end = subst (λ (l : List ℕ). Contains l last) ends h.may_end }

      from : AcceptsFrom d q (record { pairs = []; last = last }) → AcceptsFrom smaller k (record { pairs = []; last = last })
      from h =
          let here : q ≡ h.state = (let e : Some q ≡ Some h.state = h.leads in cc) in
          let ends : ends_of d h.state ≡ ends_of smaller k = ap (ends_of d) (sym here) ∙ sym (ends_under k q at) in
          record { state = k; leads = refl; may_end = subst (λ (l : List ℕ). Contains l last) ends h.may_end }

  same_more : (c : ℕ × ℕ) (ps : List (ℕ × ℕ)) (last : ℕ) → AreSame ps last → AreSame (c ∷ ps) last
  same_more c ps last same k q at = ((λ h. to (first_step smaller k c.0 c.1 ps last h)), λ h. from (first_step d q c.0 c.1 ps last h))
    where
      to : Steps smaller k c.0 c.1 (record { pairs = ps; last = last }) → AcceptsFrom d q (record { pairs = c ∷ ps; last = last })
      to s =
          let t = stepped k q c.0 c.1 s.target at s.step in
          let r = target_of q c.0 c.1 t.target t.step in
          let there : slice_get kept s.target ≡ Some r.by = ap (slice_get kept) (sym t.is_number) ∙ r.at in
          let rest = (r.same (record { pairs = ps; last = last })).1 ((same s.target r.by there).0 s.rest) in
          with_step d q c.0 c.1 ps last (record { target = t.target; step = t.step; rest = rest })

      from : Steps d q c.0 c.1 (record { pairs = ps; last = last }) → AcceptsFrom smaller k (record { pairs = c ∷ ps; last = last })
      from s =
          let r = target_of q c.0 c.1 s.target s.step in
          let rest = (same (number s.target) r.by r.at).1 ((r.same (record { pairs = ps; last = last })).0 s.rest) in
          with_step smaller k c.0 c.1 ps last (record { target = number s.target; step = step_under k q c.0 c.1 s.target at s.step; rest = rest })

  same_from : (ps : List (ℕ × ℕ)) (last : ℕ) → AreSame ps last
  same_from [] last = same_end last
  same_from (c ∷ ps) last = same_more c ps last (same_from ps last)

  -- the representative of the start
  record Start : Type 0 where
    by : ℕ
    at : slice_get kept 0 ≡ Some by
    same : AreEquivalent d 0 by

  start : Start
  start =
      let r = some_there into 0 (omega (arith, is.has_start, into_are.size)) in
      record { by = r.0; at = numbered.start ∙ r.1; same = into_are.same 0 r.0 r.1 }

  texts : (w : MarkedText) → PathAccepts smaller w ↔ PathAccepts d w
  texts w = ((λ h. to h), λ h. from h)
    where
      same : AcceptsFrom smaller 0 w ↔ AcceptsFrom d start.by w
      same = same_from w.pairs w.last 0 start.by start.at

      to : PathAccepts smaller w → PathAccepts d w
      to h =
          let g = (start.same w).1 (same.0 (record { state = h.state; leads = h.leads; may_end = h.may_end })) in
          record { state = g.state; leads = g.leads; may_end = g.may_end }

      from : PathAccepts d w → PathAccepts smaller w
      from h =
          let g = same.1 ((start.same w).0 (record { state = h.state; leads = h.leads; may_end = h.may_end })) in
          record { state = g.state; leads = g.leads; may_end = g.may_end }

  pub accepts_alike : AcceptsAlike d smaller
  accepts_alike = record { variables = refl; texts = texts }

  pub no_more_states : states_of smaller ≤ states_of d
  no_more_states = omega (arith, under.even, numbered.few, into_are.size)

  within : (k m b n : ℕ) → next_of smaller k m b ≡ Some n → n < length rows
  within k m b n step = both_ways (slice_get kept k) (λ none. absurd (no_next k m b n none step)) (λ q at. go q at)
    where
      go : (q : ℕ) → slice_get kept k ≡ Some q → n < length rows
      go q at =
          let t = stepped k q m b n at step in
          let r = target_of q m b t.target t.step in
          omega (arith, get_within kept (number t.target) r.by r.at, t.is_number, under.even)

  marks_to : (k b m : ℕ) → Contains (marks_of smaller k b) m → (n : ℕ) × (next_of smaller k m b ≡ Some n)
  marks_to k b m c = both_ways (slice_get kept k) (λ none. absurd (none_in m (subst (λ (l : List ℕ). Contains l m) (no_marks k b none) c))) (λ q at. go q at)
    where
      go : (q : ℕ) → slice_get kept k ≡ Some q → (n : ℕ) × (next_of smaller k m b ≡ Some n)
      go q at =
          let s = (is.marks q b m).0 (subst (λ (l : List ℕ). Contains l m) (marks_under k q b at) c) in
          (number s.0, step_under k q m b s.0 at s.1)

  marks_from : (k b m n : ℕ) → next_of smaller k m b ≡ Some n → Contains (marks_of smaller k b) m
  marks_from k b m n step = both_ways (slice_get kept k) (λ none. absurd (no_next k m b n none step)) (λ q at. go q at)
    where
      go : (q : ℕ) → slice_get kept k ≡ Some q → Contains (marks_of smaller k b) m
      go q at =
          let t = stepped k q m b n at step in
          subst (λ (l : List ℕ). Contains l m) (sym (marks_under k q b at)) ((is.marks q b m).1 (t.target, t.step))

  marks_fall : (k b : ℕ) → AllPairs (λ x y. y < x) (marks_of smaller k b)
  marks_fall k b = both_ways (slice_get kept k) (λ none. subst (λ (l : List ℕ). AllPairs (λ x y. y < x) l) (sym (no_marks k b none)) no_pairs) (λ q at. subst (λ (l : List ℕ). AllPairs (λ x y. y < x) l) (sym (marks_under k q b at)) (is.marks_fall q b))

  ends_fall : (k : ℕ) → AllPairs (λ x y. y < x) (ends_of smaller k)
  ends_fall k = both_ways (slice_get kept k) (λ none. subst (λ (l : List ℕ). AllPairs (λ x y. y < x) l) (sym (no_ends k none)) no_pairs) (λ q at. subst (λ (l : List ℕ). AllPairs (λ x y. y < x) l) (sym (ends_under k q at)) (is.ends_fall q))

  marks_small : (k b m : ℕ) → Contains (marks_of smaller k b) m → m < 4 ^ d.variables
  marks_small k b m c = both_ways (slice_get kept k) (λ none. absurd (none_in m (subst (λ (l : List ℕ). Contains l m) (no_marks k b none) c))) (λ q at. is.marks_small q b m (subst (λ (l : List ℕ). Contains l m) (marks_under k q b at) c))

  ends_small : (k m : ℕ) → Contains (ends_of smaller k) m → m < 4 ^ d.variables
  ends_small k m c = both_ways (slice_get kept k) (λ none. absurd (none_in m (subst (λ (l : List ℕ). Contains l m) (no_ends k none) c))) (λ q at. is.ends_small q m (subst (λ (l : List ℕ). Contains l m) (ends_under k q at) c))

  pub is_deterministic : IsDeterministic smaller
  is_deterministic = record {
    has_start = omega (arith, get_within kept 0 start.by start.at, under.even);
    few_states = omega (arith, no_more_states, is.few_states);
    few_variables = is.few_variables;
    within = within;
    marks = λ k b m. ((λ c. marks_to k b m c), λ s. marks_from k b m s.0 s.1);
    marks_fall = marks_fall;
    ends_fall = ends_fall;
    marks_small = marks_small;
    ends_small = ends_small;
    accepted = λ w short p. is.accepted w short ((texts w).0 p);
  }

  pub is_wide : IsWide smaller
  is_wide = record { bytes = wide.bytes; cells = λ k b c r at there. both_ways (slice_get kept k) (λ none. absurd (none_within kept k none (omega (arith, get_within rows k r at, under.even)))) (λ q e. cells k q b c r e at there) }
    where
      cells : (k q b c : ℕ) (r : Row) → slice_get kept k ≡ Some q → slice_get rows k ≡ Some r → slice_get d.classes b ≡ Some c → c < length r.cells.items
      cells k q b c r e at there =
          let w = row_of k q e in
          let same : w.new ≡ r = one_value rows k w.new r w.at_new at in
          let lt : c < length w.new.cells.items = omega (arith, wide.cells q b c w.old w.at_old there, w.are.even) in
          subst (λ (x : Row). c < length x.cells.items) same lt
