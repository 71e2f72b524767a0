-- The rows of all reached sets make a deterministic automaton that accepts the same texts.
use Rattle.std.proofs.Common.{◌≡◌, ℕ, zero, suc, ◌^◌, ◌<◌, ◌≤◌, ◌==◌, ◌↔◌, true, false, ◌⊎◌, inl, inr, refl, sym, ap, subst, ◌∙◌, arith, List, [], ◌∷◌, length, Option, Some, None, slice_get, slice_index_or, if◌then◌else◌, get_or, Contains, AllPairs}
use Rattle.std.proofs.lemmas.Option.{slice_get-get_or}
use Rattle.std.proofs.lemmas.List.{get_or_past}
use Rattle.std.proofs.lemmas.Bool.Decides.{eqb_tells}
use Rattle.marker_nfa.specs.declared.nfa.Edge.{Edge}
use Rattle.marker_nfa.specs.Automaton.{Automaton, IsAutomaton, Moves, MayEnd}
use Rattle.marker_dfa.specs.declared.classes.ByteClasses.{ByteClasses}
use Rattle.marker_dfa.specs.declared.dfa.Cell.{Cell}
use Rattle.marker_dfa.specs.declared.dfa.Row.{Row}
use Rattle.marker_dfa.specs.Reached.{Subset, IsIn, IsMove, IsReached, start, next}
use Rattle.marker_dfa.specs.Deterministic.{DeterministicAutomaton, AcceptsSame, AreTooMany, IsDeterministic, IsWide, IsDeterminized, and_then, cell_of, ends_in, ends_of, find_target, marks_in, marks_of, next_of}
use Rattle.marker_dfa.specs.Making.{AreAllRows, AreClasses, IsCell, IsFalling, IsFit, IsRow, IsTarget}
use Rattle.marker_dfa.proofs.Lists.{contains_at, at_contains, get_within, one_value}
use Rattle.marker_dfa.proofs.Tracks.{same_move, states_above, to_machine, to_path}

-- where a mark is found
record FoundAt (ms ts : List ℕ) (m r : ℕ) : Type 0 where
  index : ℕ
  mark : slice_get ms index ≡ Some m
  target : slice_get ts index ≡ Some r

found_at : (ms ts : List ℕ) (m r : ℕ) → find_target ms ts m ≡ Some r → FoundAt ms ts m r
found_at [] ts m r h = absurd (cc)
found_at (n ∷ ms) [] m r h = absurd (cc)
found_at (n ∷ ms) (t ∷ ts) m r h = go (eqb_tells n m) (λ k. found_at ms ts m r k)
  where
    go : ((n == m ≡ true) × (n ≡ m)) ⊎ ((n == m ≡ false) × (n ≡ m → ⊥)) → (find_target ms ts m ≡ Some r → FoundAt ms ts m r) → FoundAt (n ∷ ms) (t ∷ ts) m r
    go (inl e) rec = record { index = 0; mark = ap Some e.1; target = sym (ap (λ b. if b then Some t else find_target ms ts m) e.0) ∙ h }
    go (inr e) rec =
        let k = rec (sym (ap (λ b. if b then Some t else find_target ms ts m) e.0) ∙ h) in
        record { index = suc k.index; mark = k.mark; target = k.target }

not_found : (ms ts : List ℕ) (m j : ℕ) → length ms ≡ length ts → find_target ms ts m ≡ None → slice_get ms j ≡ Some m → ⊥
not_found [] ts m j e h k = cc
not_found (n ∷ ms) [] m j e h k = absurd (omega (arith, e))
not_found (n ∷ ms) (t ∷ ts) m j e h k = go (eqb_tells n m) j k (λ i e' h' k'. not_found ms ts m i e' h' k')
  where
    go : ((n == m ≡ true) × (n ≡ m)) ⊎ ((n == m ≡ false) × (n ≡ m → ⊥)) → (j : ℕ) → slice_get (n ∷ ms) j ≡ Some m → ((i : ℕ) → length ms ≡ length ts → find_target ms ts m ≡ None → slice_get ms i ≡ Some m → ⊥) → ⊥
    go (inl g) j k rec = let bad : Some t ≡ None = sym (ap (λ b. if b then Some t else find_target ms ts m) g.0) ∙ h in cc
    go (inr g) zero k rec = let same : n ≡ m = cc in g.1 same
    go (inr g) (suc i) k rec = rec i (omega (arith, e)) (sym (ap (λ b. if b then Some t else find_target ms ts m) g.0) ∙ h) k

falling_pairs : (ms : List ℕ) → IsFalling ms → AllPairs (λ x y. y < x) ms
falling_pairs ms f i j d lt le = f i j (get_or ms i d) (get_or ms j d) lt (slice_get-get_or ms i d (omega (arith, lt, le))) (slice_get-get_or ms j d le)

no_pairs : AllPairs (λ x y. y < x) []
no_pairs i j d lt le = let l : j < 0 = le in absurd (omega (arith, l))

none_in : (m : ℕ) → Contains [] m → ⊥
none_in m c = let l : c.0 < 0 = c.1 in omega (arith, l)

-- a value that is there or not
both_ways : {X R : Type 0} (o : Option X) → (o ≡ None → R) → ((x : X) → o ≡ Some x → R) → R
both_ways None f g = f refl
both_ways (Some x) f g = g x refl

module _ (most : ℕ) (a : Automaton) (classes : ByteClasses) (rows : List Row) (au : IsAutomaton a) (cl : AreClasses classes) (fit : (e : Edge) → Contains a.edges e → IsFit classes e.letters) (h : AreAllRows most a classes.firsts.items rows) where
  abbrev dfa : DeterministicAutomaton
  dfa = record { variables = a.variables; classes = classes.of.items; rows = rows }

  -- a byte that is read has a class
  byte_small : (o m b p : ℕ) → Moves a o m b p → b < 256
  byte_small o m b p mv = go (cases b)
    where
      size : length mv.edge.letters ≡ 256
      size = (fit mv.edge mv.among).size

      cases : (b : ℕ) → (b < 256) ⊎ (256 ≤ b)
      cases b = grind arith

      go : (b < 256) ⊎ (256 ≤ b) → b < 256
      go (inl l) = l
      go (inr l) = let bad : false ≡ true = sym (get_or_past mv.edge.letters b false (omega (arith, size, l))) ∙ mv.letter in absurd (cc)

  same_letter : (e : Edge) (b c f : ℕ) → Contains a.edges e → slice_get classes.of.items b ≡ Some c → slice_get classes.firsts.items c ≡ Some f → slice_index_or e.letters b false ≡ slice_index_or e.letters f false
  same_letter e b c f among at_b at_c = (fit e among).same b c f at_b at_c

  to_first : (o m b c f p : ℕ) → slice_get classes.of.items b ≡ Some c → slice_get classes.firsts.items c ≡ Some f → Moves a o m b p → Moves a o m f p
  to_first o m b c f p at_b at_c mv = record { edge = mv.edge; among = mv.among; from = mv.from; mark = mv.mark; letter = sym (same_letter mv.edge b c f mv.among at_b at_c) ∙ mv.letter; to = mv.to }

  from_first : (o m b c f p : ℕ) → slice_get classes.of.items b ≡ Some c → slice_get classes.firsts.items c ≡ Some f → Moves a o m f p → Moves a o m b p
  from_first o m b c f p at_b at_c mv = record { edge = mv.edge; among = mv.among; from = mv.from; mark = mv.mark; letter = same_letter mv.edge b c f mv.among at_b at_c ∙ mv.letter; to = mv.to }

  move_of_byte : (x : Subset) (m b c f : ℕ) (y : Subset) → slice_get classes.of.items b ≡ Some c → slice_get classes.firsts.items c ≡ Some f → IsMove a.states (Moves a) x m f y → IsMove a.states (Moves a) x m b y
  move_of_byte x m b c f y at_b at_c mv = record {
    size = mv.size;
    members = λ p. ((λ i. (let s = (mv.members p).0 i in (s.0, s.1, from_first s.0 m b c f p at_b at_c s.2))), λ s. (mv.members p).1 (s.0, s.1, to_first s.0 m b c f p at_b at_c s.2));
  }

  -- the row of a set, and the set of a row
  record RowAt (q : ℕ) (x : Subset) : Type 0 where
    row : Row
    there : slice_get rows q ≡ Some row
    is_row : IsRow a h.subsets x classes.firsts.items row

  row_at : (q : ℕ) (x : Subset) → slice_get h.subsets q ≡ Some x → RowAt q x
  row_at q x e = both_ways (slice_get rows q) none (λ r g. record { row = r; there = g; is_row = h.each.each q x r e g })
    where
      past : (rs : List Row) (q : ℕ) → q < length rs → slice_get rs q ≡ None → ⊥
      past [] q l g = omega arith
      past (r ∷ rs) zero l g = cc
      past (r ∷ rs) (suc q) l g = past rs q (omega arith) g

      none : slice_get rows q ≡ None → RowAt q x
      none g = absurd (past rows q (omega (arith, get_within h.subsets q x e, h.all)) g)

  record SetAt (q : ℕ) (r : Row) : Type 0 where
    set_of : Subset
    there : slice_get h.subsets q ≡ Some set_of
    is_row : IsRow a h.subsets set_of classes.firsts.items r

  set_at : (q : ℕ) (r : Row) → slice_get rows q ≡ Some r → SetAt q r
  set_at q r g =
      let e = slice_get-get_or h.subsets q [] (omega (arith, get_within rows q r g, h.all)) in
      record { set_of = get_or h.subsets q []; there = e; is_row = h.each.each q (get_or h.subsets q []) r e g }

  -- what is known of a cell
  record Known (q b : ℕ) (cell : Cell) : Type 0 where
    set_of : Subset
    there : slice_get h.subsets q ≡ Some set_of
    class : ℕ
    at_byte : slice_get classes.of.items b ≡ Some class
    first : ℕ
    at_class : slice_get classes.firsts.items class ≡ Some first
    is_cell : IsCell a h.subsets set_of first cell.marks.items cell.targets.items

  known : (q b : ℕ) (cell : Cell) → cell_of dfa q b ≡ Some cell → Known q b cell
  known q b cell e = both_ways (slice_get rows q) (λ g. no_row g) (λ r g. with_row r g)
    where
      no_row : slice_get rows q ≡ None → Known q b cell
      no_row g =
          let bad : None ≡ Some cell = sym (ap (λ o. and_then o (λ r. and_then (slice_get classes.of.items b) (λ c. slice_get r.cells.items c))) g) ∙ e in
          absurd (cc)

      with_class : (r : Row) → slice_get rows q ≡ Some r → (c : ℕ) → slice_get classes.of.items b ≡ Some c → slice_get r.cells.items c ≡ Some cell → Known q b cell
      with_class r g c at_b i =
          let s = set_at q r g in
          let at_c = slice_get-get_or classes.firsts.items c 0 (cl.within b c at_b) in
          record {
            set_of = s.set_of;
            there = s.there;
            class = c;
            at_byte = at_b;
            first = get_or classes.firsts.items c 0;
            at_class = at_c;
            is_cell = s.is_row.cells.each c (get_or classes.firsts.items c 0) cell at_c i;
          }

      with_row : (r : Row) → slice_get rows q ≡ Some r → Known q b cell
      with_row r g =
          let i : and_then (slice_get classes.of.items b) (λ c. slice_get r.cells.items c) ≡ Some cell = sym (ap (λ o. and_then o (λ r. and_then (slice_get classes.of.items b) (λ c. slice_get r.cells.items c))) g) ∙ e in
          both_ways (slice_get classes.of.items b) (λ n. (let bad : None ≡ Some cell = sym (ap (λ o. and_then o (λ c. slice_get r.cells.items c)) n) ∙ i in absurd (cc))) (λ c at_b. with_class r g c at_b (sym (ap (λ o. and_then o (λ c. slice_get r.cells.items c)) at_b) ∙ i))

  -- each set has a cell for each byte
  record CellAt (q b : ℕ) : Type 0 where
    cell : Cell
    is : cell_of dfa q b ≡ Some cell

  cell_at : (q b : ℕ) (x : Subset) → slice_get h.subsets q ≡ Some x → b < 256 → CellAt q b
  cell_at q b x e l =
      let w = row_at q x e in
      let at_b = slice_get-get_or classes.of.items b 0 (omega (arith, l, cl.bytes)) in
      let c = get_or classes.of.items b 0 in
      let lt : c < length w.row.cells.items = omega (arith, cl.within b c at_b, w.is_row.cells.size) in
      both_ways (slice_get w.row.cells.items c) (λ n. absurd (past w.row.cells.items c lt n)) (λ cell i. record {
        cell = cell;
        is = ap (λ o. and_then o (λ r. and_then (slice_get classes.of.items b) (λ c. slice_get r.cells.items c))) w.there ∙ ap (λ o. and_then o (λ c. slice_get w.row.cells.items c)) at_b ∙ i;
      })
    where
      past : (cs : List Cell) (q : ℕ) → q < length cs → slice_get cs q ≡ None → ⊥
      past [] q l g = omega arith
      past (c ∷ cs) zero l g = cc
      past (c ∷ cs) (suc q) l g = past cs q (omega arith) g

  -- a step of the automaton
  record Step (q m b r : ℕ) : Type 0 where
    cell : Cell
    is : cell_of dfa q b ≡ Some cell
    target : find_target cell.marks.items cell.targets.items m ≡ Some r

  step : (q m b r : ℕ) → next_of dfa q m b ≡ Some r → Step q m b r
  step q m b r g = both_ways (cell_of dfa q b) (λ n. (let bad : None ≡ Some r = sym (ap (λ o. and_then o (λ c. find_target c.marks.items c.targets.items m)) n) ∙ g in absurd (cc))) (λ cell i. record { cell = cell; is = i; target = sym (ap (λ o. and_then o (λ c. find_target c.marks.items c.targets.items m)) i) ∙ g })

  -- where a step leads
  record Leads (q m b r : ℕ) : Type 0 where
    set_of : Subset
    there : slice_get h.subsets q ≡ Some set_of
    target : IsTarget a h.subsets set_of m b r

  leads : (q m b r : ℕ) → next_of dfa q m b ≡ Some r → Leads q m b r
  leads q m b r g =
      let s = step q m b r g in
      let k = known q b s.cell s.is in
      let f = found_at s.cell.marks.items s.cell.targets.items m r s.target in
      let t = k.is_cell.sound f.index m r f.mark f.target in
      record {
        set_of = k.set_of;
        there = k.there;
        target = record { members = t.members; state = t.state; there = t.there; move = move_of_byte k.set_of m b k.class k.first t.members k.at_byte k.at_class t.move; is_in = t.is_in };
      }

  goes : (q m b r : ℕ) (x : Subset) → slice_get h.subsets q ≡ Some x → next_of dfa q m b ≡ Some r → IsTarget a h.subsets x m b r
  goes q m b r x e g =
      let l = leads q m b r g in
      subst (λ (y : Subset). IsTarget a h.subsets y m b r) (one_value h.subsets q l.set_of x l.there e) l.target

  stays : (q m b : ℕ) (x : Subset) → slice_get h.subsets q ≡ Some x → next_of dfa q m b ≡ None → (o p : ℕ) → IsIn x o → Moves a o m b p → ⊥
  stays q m b x e g o p i mv =
      let w = cell_at q b x e (byte_small o m b p mv) in
      let k = known q b w.cell w.is in
      let same : x ≡ k.set_of = one_value h.subsets q x k.set_of e k.there in
      let j = k.is_cell.complete m o p (subst (λ (y : Subset). IsIn y o) same i) (to_first o m b k.class k.first p k.at_byte k.at_class mv) in
      let none : find_target w.cell.marks.items w.cell.targets.items m ≡ None = sym (ap (λ o. and_then o (λ c. find_target c.marks.items c.targets.items m)) w.is) ∙ g in
      not_found w.cell.marks.items w.cell.targets.items m j.0 k.is_cell.even none j.1

  ends_are : (q m : ℕ) (x : Subset) → slice_get h.subsets q ≡ Some x → Contains (ends_of dfa q) m ↔ (o : ℕ) × IsIn x o × MayEnd a o m
  ends_are q m x e =
      let w = row_at q x e in
      let same : ends_of dfa q ≡ w.row.ends.items = ap ends_in w.there in
      subst (λ (l : List ℕ). Contains l m ↔ (o : ℕ) × IsIn x o × MayEnd a o m) (sym same) (w.is_row.ends.members m)

  reached_here : (x : Subset) → IsReached a.states (Moves a) x → (q : ℕ) × (slice_get h.subsets q ≡ Some x)
  reached_here _ start = (0, h.each.found.start)
  reached_here y (next x _ m b p r mv i) = by (reached_here x r)
    where
      by : (q : ℕ) × (slice_get h.subsets q ≡ Some x) → (q : ℕ) × (slice_get h.subsets q ≡ Some y)
      by k = both_ways (next_of dfa k.0 m b)
          (λ none. (let w = (mv.members p).0 i in absurd (stays k.0 m b x k.1 none w.0 p w.1 w.2)))
          (λ q g. (let t = goes k.0 m b q x k.1 g in (q, t.there ∙ ap Some (same_move a.states (Moves a) x t.members y m b t.move mv))))

  pub stands_for : IsDeterminized a dfa
  stands_for = record {
    subsets = h.subsets;
    states = sym h.all;
    start = h.each.found.start;
    sets = h.each.found.sets;
    all = reached_here;
    goes = λ q m b r x e g. (let t = goes q m b r x e g in (t.members, t.state, t.there, t.move, t.is_in));
    stays = stays;
    ends_are = ends_are;
  }

  pub accepts_same : AcceptsSame a dfa
  accepts_same = record { variables = refl; texts = λ w. (to_machine a dfa stands_for w, to_path a dfa stands_for w au.has_start) }

  marks_to : (q b m : ℕ) → Contains (marks_of dfa q b) m → (r : ℕ) × (next_of dfa q m b ≡ Some r)
  marks_to q b m c = both_ways (cell_of dfa q b) (λ n. absurd (none_in m (subst (λ (o : Option Cell). Contains (marks_in o) m) n c))) (λ cell i. in_cell cell i)
    where
      in_cell : (cell : Cell) → cell_of dfa q b ≡ Some cell → (r : ℕ) × (next_of dfa q m b ≡ Some r)
      in_cell cell i =
          let k = known q b cell i in
          let j = at_contains cell.marks.items m (subst (λ (o : Option Cell). Contains (marks_in o) m) i c) in
          both_ways (next_of dfa q m b) (λ n. absurd (not_found cell.marks.items cell.targets.items m j.0 k.is_cell.even (sym (ap (λ o. and_then o (λ c. find_target c.marks.items c.targets.items m)) i) ∙ n) j.1)) (λ r g. (r, g))

  marks_from : (q b m r : ℕ) → next_of dfa q m b ≡ Some r → Contains (marks_of dfa q b) m
  marks_from q b m r g =
      let s = step q m b r g in
      let f = found_at s.cell.marks.items s.cell.targets.items m r s.target in
      subst (λ (o : Option Cell). Contains (marks_in o) m) (sym s.is) (contains_at s.cell.marks.items f.index m f.mark)

  marks_fall : (q b : ℕ) → AllPairs (λ x y. y < x) (marks_of dfa q b)
  marks_fall q b = both_ways (cell_of dfa q b) (λ n. subst (λ (o : Option Cell). AllPairs (λ x y. y < x) (marks_in o)) (sym n) no_pairs) (λ cell i. subst (λ (o : Option Cell). AllPairs (λ x y. y < x) (marks_in o)) (sym i) (falling_pairs cell.marks.items (known q b cell i).is_cell.falling))

  ends_fall : (q : ℕ) → AllPairs (λ x y. y < x) (ends_of dfa q)
  ends_fall q = both_ways (slice_get rows q) (λ n. subst (λ (o : Option Row). AllPairs (λ x y. y < x) (ends_in o)) (sym n) no_pairs) (λ r g. subst (λ (o : Option Row). AllPairs (λ x y. y < x) (ends_in o)) (sym g) (falling_pairs r.ends.items (set_at q r g).is_row.ends.falling))

  marks_small : (q b m : ℕ) → Contains (marks_of dfa q b) m → m < 4 ^ a.variables
  marks_small q b m c =
      let n = marks_to q b m c in
      let l = leads q m b n.0 n.1 in
      let s = (l.target.move.members l.target.state).0 l.target.is_in in
      let mv = s.2 in
      let small = au.wellmarked.edge_marks mv.edge mv.among in
      omega (arith, small, mv.mark)

  ends_small : (q m : ℕ) → Contains (ends_of dfa q) m → m < 4 ^ a.variables
  ends_small q m c = both_ways (slice_get rows q) (λ n. absurd (none_in m (subst (λ (o : Option Row). Contains (ends_in o) m) n c))) (λ r g. (let s = set_at q r g in let w = (s.is_row.ends.members m).0 (subst (λ (o : Option Row). Contains (ends_in o) m) g c) in au.wellmarked.end_marks _ w.2))

  pub is_deterministic : most ≤ 1024 → IsDeterministic dfa
  is_deterministic many = record {
    has_start = omega (arith, get_within h.subsets 0 _ h.each.found.start, h.all);
    few_states = omega (arith, h.each.found.few, h.all, many);
    few_variables = au.few_variables;
    within = λ q m b r g. (let l = leads q m b r g in omega (arith, get_within h.subsets r l.target.members l.target.there, h.all));
    marks = λ q b m. ((λ c. marks_to q b m c), λ s. marks_from q b m s.0 s.1);
    marks_fall = marks_fall;
    ends_fall = ends_fall;
    marks_small = marks_small;
    ends_small = ends_small;
    accepted = λ w short p. au.wellmarked.accepted w short ((accepts_same.texts w).0 p);
  }

  pub is_wide : IsWide dfa
  is_wide = record {
    bytes = cl.bytes;
    cells = λ q b c r g at_b. (let s = set_at q r g in omega (arith, cl.within b c at_b, s.is_row.cells.size));
  }

  pub not_too_many : AreTooMany most a → ⊥
  not_too_many t = omega (arith, states_above a.states (Moves a) (MayEnd a) dfa stands_for most t, h.each.found.few, h.all)
