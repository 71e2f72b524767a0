-- The marked texts over a text from a state, in mark order.
use Rattle.std.proofs.Common.{◌≡◌, ℕ, ◌<◌, ◌==◌, ◌↔◌, Bool, true, false, ◌&&◌, ◌||◌, not, List, [], ◌∷◌, ◌++◌, refl, sym, ap, subst, ◌∙◌, inl, inr, map, AllPairs, Contains, Option, Some, None}
use Rattle.span_types.specs.Words.{Marked, Precedes}
use Rattle.formula_law.specs.Law.{bytes_of}
use Rattle.marker_dfa.specs.Deterministic.{path, and_then}
use Rattle.state_tables.specs.Meaning.{has_mark}
use Rattle.state_tables.proofs.Shapes.{then-between}
use Rattle.path_counts.specs.Runs.{at_state, runs}
use Rattle.path_counts.proofs.Lists.{contains-none, contains-map, map-contains, contains-flat_map, flat_map-contains, pairs-nil, pairs-map, pairs-flat_map}

-- the marks that lead on, falling
pub record AreMarks (go : ℕ → ℕ → ℕ → Option ℕ) (marks : ℕ → ℕ → List ℕ) : Type 0 where
  pub lists : (q b m : ℕ) → Contains (marks q b) m ↔ (r : ℕ) × (go q m b ≡ Some r)
  pub fall : (q b : ℕ) → AllPairs (λ x y. y < x) (marks q b)

-- w is a marked text over s from p, with a mark if one is needed, and then what k gives for its state
pub record IsRun (go : ℕ → ℕ → ℕ → Option ℕ) (need : Bool) (k : ℕ → List Marked) (s : List ℕ) (p : ℕ) (w : Marked) : Type 0 where
  pub word : Marked
  pub rest : Marked
  pub state : ℕ
  pub joined : w ≡ word ++ rest
  pub bytes : bytes_of word ≡ s
  pub mark : need ≡ true → has_mark word ≡ true
  pub ends : path go word p ≡ Some state
  pub goes_on : Contains (k state) rest

at-some : {X : Type 0} (k : ℕ → List X) (o : Option ℕ) (x : X) → Contains (at_state k o) x → (q : ℕ) × ((o ≡ Some q) × Contains (k q) x)
at-some k None x h = absurd (contains-none x h)
at-some k (Some q) x h = (q, (refl, h))

some-at : {X : Type 0} (k : ℕ → List X) (o : Option ℕ) (q : ℕ) (x : X) → o ≡ Some q → Contains (k q) x → Contains (at_state k o) x
some-at k o q x e h = rw e h

next-ends : (f : ℕ → Option ℕ) (o : Option ℕ) (q r : ℕ) → o ≡ Some q → f q ≡ Some r → and_then o f ≡ Some r
next-ends f o q r e k = rw e k

bytes-more : (x : ℕ × ℕ) (w : Marked) (s : List ℕ) → bytes_of w ≡ s → bytes_of (x ∷ w) ≡ x.1 ∷ s
bytes-more x w s e = ap (λ t. x.1 ∷ t) e

put-before : (x : ℕ × ℕ) (v word rest w : Marked) → x ∷ v ≡ w → v ≡ word ++ rest → w ≡ (x ∷ word) ++ rest
put-before x v word rest w e k = sym e ∙ ap (λ u. x ∷ u) k

mark-cons : (need z marked : Bool) → ((need && z) ≡ true → marked ≡ true) → need ≡ true → (not z || marked) ≡ true
mark-cons true true marked f e = f refl
mark-cons true false marked f e = refl
mark-cons false z marked f e = cc

mark-tail : (need z marked : Bool) → (need ≡ true → (not z || marked) ≡ true) → (need && z) ≡ true → marked ≡ true
mark-tail true true marked f e = f refl
mark-tail true false marked f e = cc
mark-tail false z marked f e = cc

no-mark : (need : Bool) → (need ≡ true → false ≡ true) → need ≡ false
no-mark false f = refl
no-mark true f = sym (f refl)

module _ (go : ℕ → ℕ → ℕ → Option ℕ) (marks : ℕ → ℕ → List ℕ) where
  pub runs-forth : (need : Bool) (k : ℕ → List Marked) (s : List ℕ) (p : ℕ) (w : Marked) → Contains (runs go marks need k s p) w → IsRun go need k s p w
  runs-forth true k [] p w h = absurd (contains-none w h)
  runs-forth false k [] p w h = record { word = []; rest = w; state = p; joined = refl; bytes = refl; mark = λ e. cc; ends = refl; goes_on = h }
  runs-forth need k (b ∷ s) p w h =
      let by = contains-flat_map (λ m. map (λ v. (m, b) ∷ v) (at_state (runs go marks (need && m == 0) k s) (go p m b))) (marks p b) w h in
      let m = by.0 in
      let tail = contains-map (λ v. (m, b) ∷ v) (at_state (runs go marks (need && m == 0) k s) (go p m b)) w by.1.1 in
      let step = at-some (runs go marks (need && m == 0) k s) (go p m b) tail.0 tail.1.0 in
      let r = runs-forth (need && m == 0) k s step.0 tail.0 step.1.1 in
      record {
        word = (m, b) ∷ r.word;
        rest = r.rest;
        state = r.state;
        joined = put-before (m, b) tail.0 r.word r.rest w tail.1.1 r.joined;
        bytes = bytes-more (m, b) r.word s r.bytes;
        mark = mark-cons need (m == 0) (has_mark r.word) r.mark;
        ends = next-ends (path go r.word) (go p m b) step.0 r.state step.1.0 r.ends;
        goes_on = r.goes_on;
      }

  module _ (are : AreMarks go marks) where
    pub runs-back : (need : Bool) (k : ℕ → List Marked) (word rest : Marked) (p q : ℕ) → (need ≡ true → has_mark word ≡ true) → path go word p ≡ Some q → Contains (k q) rest
        → Contains (runs go marks need k (bytes_of word) p) (word ++ rest)
    runs-back need k [] rest p q mark ends h =
        let same : p ≡ q = cc in
        let none : need ≡ false = no-mark need mark in
        rw (none, same) h
    runs-back need k (x ∷ word) rest p q mark ends h =
        let step = then-between (path go word) (go p x.0 x.1) q ends in
        let tail = runs-back (need && x.0 == 0) k word rest step.0 q (mark-tail need (x.0 == 0) (has_mark word) mark) step.2 h in
        flat_map-contains (λ m. map (λ v. (m, x.1) ∷ v) (at_state (runs go marks (need && m == 0) k (bytes_of word)) (go p m x.1))) (marks p x.1) x.0 (x ∷ (word ++ rest))
        ((are.lists p x.1 x.0).1 (step.0, step.1))
        (map-contains (λ v. (x.0, x.1) ∷ v) (at_state (runs go marks (need && x.0 == 0) k (bytes_of word)) (go p x.0 x.1)) (word ++ rest)
        (some-at (runs go marks (need && x.0 == 0) k (bytes_of word)) (go p x.0 x.1) step.0 (word ++ rest) step.1 tail))

    pub runs-rise : (k : ℕ → List Marked) → ((q : ℕ) → AllPairs Precedes (k q)) → (need : Bool) (s : List ℕ) (p : ℕ) → AllPairs Precedes (runs go marks need k s p)
    runs-rise k h true [] p = pairs-nil Precedes
    runs-rise k h false [] p = h p
    runs-rise k h need (b ∷ s) p =
        pairs-flat_map (λ x y. y < x) Precedes (λ m. map (λ v. (m, b) ∷ v) (at_state (runs go marks (need && m == 0) k s) (go p m b))) (marks p b) (are.fall p b)
        (λ m. pairs-map Precedes (λ v. (m, b) ∷ v) (at_state (runs go marks (need && m == 0) k s) (go p m b)) (below m (at_state (runs go marks (need && m == 0) k s) (go p m b)) (each m (go p m b) (λ q. runs-rise k h (need && m == 0) s q))))
        (λ m n y u lt in_m in_n. across m n y u lt (at_state (runs go marks (need && m == 0) k s) (go p m b)) (at_state (runs go marks (need && n == 0) k s) (go p n b)) (contains-map (λ v. (m, b) ∷ v) (at_state (runs go marks (need && m == 0) k s) (go p m b)) y in_m) (contains-map (λ v. (n, b) ∷ v) (at_state (runs go marks (need && n == 0) k s) (go p n b)) u in_n))
      where
        each : (m : ℕ) (o : Option ℕ) → ((q : ℕ) → AllPairs Precedes (runs go marks (need && m == 0) k s q)) → AllPairs Precedes (at_state (runs go marks (need && m == 0) k s) o)
        each m None all = pairs-nil Precedes
        each m (Some q) all = all q

        below : (m : ℕ) (ws : List Marked) → AllPairs Precedes ws → AllPairs (λ w v. Precedes ((m, b) ∷ w) ((m, b) ∷ v)) ws
        below m ws all i j d lt l = inr (refl, all i j d lt l)

        across : (m n : ℕ) (y u : Marked) → n < m → (xs ys : List Marked) → (v : Marked) × (Contains xs v × ((m, b) ∷ v ≡ y)) → (v : Marked) × (Contains ys v × ((n, b) ∷ v ≡ u)) → Precedes y u
        across m n y u lt xs ys l r = subst (λ z. Precedes y z) r.1.1 (subst (λ z. Precedes z ((n, b) ∷ r.0)) l.1.1 (inl lt))
