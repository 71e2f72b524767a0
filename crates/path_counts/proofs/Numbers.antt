-- The numbers of a text's marked paths, by sums over the marks.
use Rattle.std.proofs.Common.{◌≡◌, ℕ, ◌==◌, Bool, true, false, List, [], ◌∷◌, ◌++◌, length, refl, sym, ap, subst, ◌∙◌, arith, inl, inr, append-nil, AllPairs, Contains, Some}
use Rattle.std.specs.Prelude.{if◌then◌else◌}
use Rattle.std.proofs.lemmas.Bool.{eqb-true}
use Rattle.std.proofs.lemmas.Bool.Decides.{eqb_tells}
use Rattle.span_types.specs.Words.{Marked, Precedes}
use Rattle.formula_law.specs.Law.{bytes_of}
use Rattle.marker_dfa.specs.Deterministic.{DeterministicAutomaton, IsDeterministic, next_of, marks_of, path}
use Rattle.state_tables.specs.Meaning.{has_mark}
use Rattle.path_counts.specs.Paths.{IsMarkedPath, AreMarkedPaths, IsPathNumber, stopped}
use Rattle.path_counts.proofs.Lists.{contains-none, contains-cases, contains-here, pairs-nil, one-list}
use Rattle.path_counts.specs.Runs.{runs}
use Rattle.path_counts.proofs.Runs.{AreMarks, runs-forth, runs-back, runs-rise}
use Rattle.path_counts.proofs.Ways.{at_only, ways, ways-length, ways-ext}

-- ---- mark order is a strict order
pub precedes-apart : (w : Marked) → Precedes w w → ⊥
precedes-apart [] h = h
precedes-apart (x ∷ w) (inl lt) = omega (arith, lt)
precedes-apart (x ∷ w) (inr e) = precedes-apart w e.1

pub precedes-on : (w v u : Marked) → Precedes w v → Precedes v u → Precedes w u
precedes-on [] v u h k = absurd h
precedes-on (x ∷ w) [] u h k = absurd h
precedes-on (x ∷ w) (y ∷ v) [] h k = absurd k
precedes-on (x ∷ w) (y ∷ v) (z ∷ u) (inl a) (inl b) = inl (omega (arith, a, b))
precedes-on (x ∷ w) (y ∷ v) (z ∷ u) (inl a) (inr e) = inl (omega (arith, a, e.0))
precedes-on (x ∷ w) (y ∷ v) (z ∷ u) (inr e) (inl b) = inl (omega (arith, e.0, b))
precedes-on (x ∷ w) (y ∷ v) (z ∷ u) (inr e) (inr f) = inr (e.0 ∙ f.0, precedes-on w v u e.1 f.1)

-- the empty marked text, or none
abbrev pub one_if : Bool → List Marked
one_if true = [] ∷ []
one_if false = []

-- the empty marked text, where the state is q
abbrev pub single : ℕ → ℕ → List Marked
single q r = one_if (r == q)

one-in : (z : Bool) (w : Marked) → Contains (one_if z) w → (z ≡ true) × (w ≡ [])
one-in true w h = elim (contains-cases [] [] w h) [ inl same ↦ (refl, sym same) | inr none ↦ absurd (contains-none w none) ]
one-in false w h = absurd (contains-none w h)

single-in : (q r : ℕ) (w : Marked) → Contains (single q r) w → (r ≡ q) × (w ≡ [])
single-in q r w h = let both = one-in (r == q) w h in (eqb-true r q both.0, both.1)

in-one : (z : Bool) → z ≡ true → Contains (one_if z) []
in-one true e = contains-here [] []
in-one false e = cc

in-single : (q : ℕ) → Contains (single q q) []
in-single q = elim (eqb_tells q q) [ inl e ↦ in-one (q == q) e.0 | inr e ↦ absurd (e.1 refl) ]

one-rises : (z : Bool) → AllPairs Precedes (one_if z)
one-rises true = λ i j d lt l. absurd (omega (arith, lt, l))
one-rises false = pairs-nil Precedes

single-length : (q r : ℕ) → length (single q r) ≡ at_only q r
single-length q r = by (r == q)
  where
    by : (z : Bool) → length (one_if z) ≡ (if z then 1 else 0)
    by true = refl
    by false = refl

module _ (a : DeterministicAutomaton) (auto : IsDeterministic a) where
  pub are_marks : AreMarks (next_of a) (marks_of a)
  are_marks = record { lists = auto.marks; fall = auto.marks_fall }

  -- how many marked texts over s lead from p to q with some mark
  abbrev pub exact : List ℕ → ℕ → ℕ → ℕ
  exact s p q = ways (next_of a) (marks_of a) true (at_only q) s p

  paths-forth : (s : List ℕ) (p q : ℕ) (w : Marked) → Contains (runs (next_of a) (marks_of a) true (single q) s p) w → IsMarkedPath a p s q w
  paths-forth s p q w h =
      let r = runs-forth (next_of a) (marks_of a) true (single q) s p w h in
      let last = single-in q r.state r.rest r.goes_on in
      let same : w ≡ r.word = r.joined ∙ ap (λ v. r.word ++ v) last.1 ∙ append-nil r.word in
      record {
        bytes = ap bytes_of same ∙ r.bytes;
        mark = ap has_mark same ∙ r.mark refl;
        ends = ap (λ v. path (next_of a) v p) same ∙ r.ends ∙ ap Some last.0;
      }

  paths-back : (s : List ℕ) (p q : ℕ) (w : Marked) → IsMarkedPath a p s q w → Contains (runs (next_of a) (marks_of a) true (single q) s p) w
  paths-back s p q w h =
      let found = runs-back (next_of a) (marks_of a) are_marks true (single q) w [] p q (λ e. h.mark) h.ends (in-single q) in
      subst (λ v. Contains (runs (next_of a) (marks_of a) true (single q) s p) v) (append-nil w)
      (subst (λ t. Contains (runs (next_of a) (marks_of a) true (single q) t p) (w ++ [])) h.bytes found)

  are-paths : (s : List ℕ) (p q : ℕ) → AreMarkedPaths a p s q (runs (next_of a) (marks_of a) true (single q) s p)
  are-paths s p q = record {
    rising = runs-rise (next_of a) (marks_of a) are_marks (single q) (λ r. one-rises (r == q)) true s p;
    members = λ w. (paths-forth s p q w, paths-back s p q w);
  }

  length-paths : (s : List ℕ) (p q : ℕ) → length (runs (next_of a) (marks_of a) true (single q) s p) ≡ exact s p q
  length-paths s p q =
      ways-length (next_of a) (marks_of a) true (single q) s p ∙ ways-ext (next_of a) (marks_of a) true (λ r. length (single q r)) (at_only q) s p (single-length q)

  pub is-number : (s : List ℕ) (p q n : ℕ) → n ≡ stopped (exact s p q) → IsPathNumber a p s q n
  is-number s p q n e = record {
    paths = runs (next_of a) (marks_of a) true (single q) s p;
    all = are-paths s p q;
    number = e ∙ ap stopped (sym (length-paths s p q));
  }

  pub number-is : (s : List ℕ) (p q n : ℕ) → IsPathNumber a p s q n → n ≡ stopped (exact s p q)
  number-is s p q n h =
      let all = are-paths s p q in
      let same : h.paths ≡ runs (next_of a) (marks_of a) true (single q) s p =
      one-list Precedes precedes-apart precedes-on h.paths (runs (next_of a) (marks_of a) true (single q) s p) h.all.rising all.rising
      (λ w c. (all.members w).1 ((h.all.members w).0 c)) (λ w c. (h.all.members w).1 ((all.members w).0 c)) in
      h.number ∙ ap (λ ws. stopped (length ws)) same ∙ ap stopped (length-paths s p q)
