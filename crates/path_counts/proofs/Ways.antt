-- How many marked texts lead over a text from a state, each as often as its state counts.
use Rattle.std.proofs.Common.{◌≡◌, ℕ, ◌+◌, ◌*◌, ◌<◌, ◌==◌, Bool, true, false, ◌&&◌, List, [], ◌∷◌, ◌++◌, length, refl, sym, ap, ◌∙◌, inl, inr, map, add-zero, zero-add, Contains, Option, Some, None}
use Rattle.std.specs.Prelude.{if◌then◌else◌}
use Rattle.std.proofs.lemmas.List.{length-map}
use Rattle.std.proofs.lemmas.Bool.Decides.{eqb_tells}
use Rattle.span_types.specs.Words.{Marked}
use Rattle.marker_dfa.specs.Deterministic.{path, and_then}
use Rattle.state_tables.specs.Meaning.{plain}
use Rattle.path_counts.specs.Counting.{hits}
use Rattle.path_counts.specs.Runs.{at_state, runs}
use Rattle.path_counts.proofs.Runs.{AreMarks}
use Rattle.path_counts.proofs.Sums.{add_up, add-ext, add-both, add-times, add-zeros, add-once, length-pieces, total, total-ext, total-zero, total-swap, total-hit}

-- f of the state, if any, else 0
abbrev pub value_at : (ℕ → ℕ) → Option ℕ → ℕ
value_at f None = 0
value_at f (Some q) = f q

pub value-then : (f : ℕ → ℕ) (g : ℕ → Option ℕ) (o : Option ℕ) → value_at f (and_then o g) ≡ value_at (λ r. value_at f (g r)) o
value-then f g None = refl
value-then f g (Some r) = refl

length-at : {X : Type 0} (k : ℕ → List X) (o : Option ℕ) → length (at_state k o) ≡ value_at (λ q. length (k q)) o
length-at k None = refl
length-at k (Some q) = refl

pub value-ext : (f g : ℕ → ℕ) (o : Option ℕ) → ((q : ℕ) → f q ≡ g q) → value_at f o ≡ value_at g o
value-ext f g None e = refl
value-ext f g (Some q) e = e q

value-add : (f g : ℕ → ℕ) (o : Option ℕ) → value_at (λ q. f q + g q) o ≡ value_at f o + value_at g o
value-add f g None = refl
value-add f g (Some q) = refl

-- the number to the state q alone
abbrev pub at_only : ℕ → ℕ → ℕ
at_only q r = hits (Some r) q

module _ (go : ℕ → ℕ → ℕ → Option ℕ) (marks : ℕ → ℕ → List ℕ) where
  -- the sum of f of their states, over the marked texts over s from p. Where a mark is needed, only those texts count that have one
  abbrev pub ways : Bool → (ℕ → ℕ) → List ℕ → ℕ → ℕ
  ways true f [] p = 0
  ways false f [] p = f p
  ways need f (b ∷ s) p = add_up (λ m. value_at (ways (need && m == 0) f s) (go p m b)) (marks p b)

  pub ways-length : (need : Bool) (k : ℕ → List Marked) (s : List ℕ) (p : ℕ) → length (runs go marks need k s p) ≡ ways need (λ q. length (k q)) s p
  ways-length true k [] p = refl
  ways-length false k [] p = refl
  ways-length need k (b ∷ s) p =
      length-pieces (λ m. map (λ w. (m, b) ∷ w) (at_state (runs go marks (need && m == 0) k s) (go p m b))) (marks p b)
      ∙ add-ext (λ m. length (map (λ w. (m, b) ∷ w) (at_state (runs go marks (need && m == 0) k s) (go p m b)))) (λ m. value_at (ways (need && m == 0) (λ q. length (k q)) s) (go p m b)) (marks p b)
      (λ m. length-map (at_state (runs go marks (need && m == 0) k s) (go p m b)) (λ w. (m, b) ∷ w) ∙ length-at (runs go marks (need && m == 0) k s) (go p m b)
      ∙ value-ext (λ q. length (runs go marks (need && m == 0) k s q)) (ways (need && m == 0) (λ q. length (k q)) s) (go p m b) (λ q. ways-length (need && m == 0) k s q))

  pub ways-ext : (need : Bool) (f g : ℕ → ℕ) (s : List ℕ) (p : ℕ) → ((q : ℕ) → f q ≡ g q) → ways need f s p ≡ ways need g s p
  ways-ext true f g [] p e = refl
  ways-ext false f g [] p e = e p
  ways-ext need f g (b ∷ s) p e =
      add-ext (λ m. value_at (ways (need && m == 0) f s) (go p m b)) (λ m. value_at (ways (need && m == 0) g s) (go p m b)) (marks p b)
      (λ m. value-ext (ways (need && m == 0) f s) (ways (need && m == 0) g s) (go p m b) (λ q. ways-ext (need && m == 0) f g s q e))

  -- ---- by the states that they lead to
  module _ (n : ℕ) (within : (q m b r : ℕ) → go q m b ≡ Some r → r < n) where
    pub ways-by_state : (need : Bool) (f : ℕ → ℕ) (s : List ℕ) (p : ℕ) → p < n → ways need f s p ≡ total n (λ r. ways need (at_only r) s p * f r)
    ways-by_state true f [] p lt = sym (total-zero n f)
    ways-by_state false f [] p lt = sym (total-hit n p f lt)
    ways-by_state need f (b ∷ s) p lt =
        add-ext (λ m. value_at (ways (need && m == 0) f s) (go p m b)) (λ m. total n (λ r. value_at (ways (need && m == 0) (at_only r) s) (go p m b) * f r)) (marks p b)
        (λ m. each m (go p m b) (λ q e. ways-by_state (need && m == 0) f s q (within p m b q e)))
        ∙ total-swap n (λ m r. value_at (ways (need && m == 0) (at_only r) s) (go p m b) * f r) (marks p b)
        ∙ total-ext n (λ r. add_up (λ m. value_at (ways (need && m == 0) (at_only r) s) (go p m b) * f r) (marks p b)) (λ r. ways need (at_only r) (b ∷ s) p * f r)
        (λ r below. add-times (λ m. value_at (ways (need && m == 0) (at_only r) s) (go p m b)) (f r) (marks p b))
      where
        each : (m : ℕ) (o : Option ℕ) → ((q : ℕ) → o ≡ Some q → ways (need && m == 0) f s q ≡ total n (λ r. ways (need && m == 0) (at_only r) s q * f r))
            → value_at (ways (need && m == 0) f s) o ≡ total n (λ r. value_at (ways (need && m == 0) (at_only r) s) o * f r)
        each m None all = sym (total-zero n f)
        each m (Some q) all = all q refl

  -- ---- with marks and without
  module _ (are : AreMarks go marks) where
    -- a term for the mark 0 alone is there where the mark leads on
    add-unmarked : (f : ℕ → ℕ) (p b : ℕ) → add_up (λ m. if m == 0 then value_at f (go p 0 b) else 0) (marks p b) ≡ value_at f (go p 0 b)
    add-unmarked f p b = by (go p 0 b) (λ r e. (are.lists p b 0).1 (r, e))
      where
        by : (o : Option ℕ) → ((r : ℕ) → o ≡ Some r → Contains (marks p b) 0) → add_up (λ m. if m == 0 then value_at f o else 0) (marks p b) ≡ value_at f o
        by None among = add-ext (λ m. if m == 0 then 0 else 0) (λ m. 0) (marks p b) (λ m. same (m == 0)) ∙ add-zeros (marks p b)
          where
            same : (z : Bool) → ◌≡◌ {A = ℕ} (if z then 0 else 0) 0
            same true = refl
            same false = refl
        by (Some r) among = add-once (f r) (marks p b) (are.fall p b) (among r refl)

    -- what is the same over each mark other than 0, and more over the mark 0
    add-more : (f g : ℕ → ℕ → ℕ) (h : ℕ → ℕ) (p b : ℕ) → ((m : ℕ) (q : ℕ) → m ≡ 0 → f m q ≡ g m q + h q) → ((m : ℕ) (q : ℕ) → m == 0 ≡ false → f m q ≡ g m q)
        → add_up (λ m. value_at (f m) (go p m b)) (marks p b) ≡ add_up (λ m. value_at (g m) (go p m b)) (marks p b) + value_at h (go p 0 b)
    add-more f g h p b zero_is other =
        add-ext (λ m. value_at (f m) (go p m b)) (λ m. value_at (g m) (go p m b) + (if m == 0 then value_at h (go p 0 b) else 0)) (marks p b) each
        ∙ add-both (λ m. value_at (g m) (go p m b)) (λ m. if m == 0 then value_at h (go p 0 b) else 0) (marks p b)
        ∙ ap (λ n. add_up (λ m. value_at (g m) (go p m b)) (marks p b) + n) (add-unmarked h p b)
      where
        each : (m : ℕ) → value_at (f m) (go p m b) ≡ value_at (g m) (go p m b) + (if m == 0 then value_at h (go p 0 b) else 0)
        each m = elim (eqb_tells m 0) [
          | inl e ↦
              value-ext (f m) (λ q. g m q + h q) (go p m b) (λ q. zero_is m q e.1) ∙ value-add (g m) h (go p m b)
              ∙ ap (λ i. value_at (g m) (go p m b) + value_at h (go p i b)) e.1
              ∙ ap (λ z. value_at (g m) (go p m b) + (if z then value_at h (go p 0 b) else 0)) (sym e.0)
          | inr e ↦
              value-ext (f m) (g m) (go p m b) (λ q. other m q e.0) ∙ sym (add-zero _)
              ∙ ap (λ z. value_at (g m) (go p m b) + (if z then value_at h (go p 0 b) else 0)) (sym e.0)
        ]

    -- all texts are those with a mark and the one without
    pub ways-parted : (f : ℕ → ℕ) (s : List ℕ) (p : ℕ) → ways false f s p ≡ ways true f s p + value_at f (path go (plain s) p)
    ways-parted f [] p = sym (zero-add (f p))
    ways-parted f (b ∷ s) p =
        add-more (λ m. ways (false && m == 0) f s) (λ m. ways (true && m == 0) f s) (λ q. value_at f (path go (plain s) q)) p b
        (λ m q e. ways-parted f s q ∙ ap (λ z. ways z f s q + value_at f (path go (plain s) q)) (zero-test m e))
        (λ m q e. ap (λ z. ways z f s q) (sym e))
        ∙ ap (λ n. ways true f (b ∷ s) p + n) (sym (value-then f (path go (plain s)) (go p 0 b)))
      where
        zero-test : (m : ℕ) → m ≡ 0 → true ≡ (m == 0)
        zero-test m e = rw e refl

    -- ---- over two texts
    pub ways-append : (f : ℕ → ℕ) (s u : List ℕ) (p : ℕ) → ways false f (s ++ u) p ≡ ways false (ways false f u) s p
    ways-append f [] u p = refl
    ways-append f (b ∷ s) u p =
        add-ext (λ m. value_at (ways false f (s ++ u)) (go p m b)) (λ m. value_at (ways false (ways false f u) s) (go p m b)) (marks p b)
        (λ m. value-ext (ways false f (s ++ u)) (ways false (ways false f u) s) (go p m b) (λ q. ways-append f s u q))

    pub ways-joined : (f : ℕ → ℕ) (s u : List ℕ) (p : ℕ) → ways true f (s ++ u) p ≡ ways true (ways false f u) s p + value_at (ways true f u) (path go (plain s) p)
    ways-joined f [] u p = sym (zero-add (ways true f u p))
    ways-joined f (b ∷ s) u p =
        add-more (λ m. ways (true && m == 0) f (s ++ u)) (λ m. ways (true && m == 0) (ways false f u) s) (λ q. value_at (ways true f u) (path go (plain s) q)) p b
        (λ m q e. ap (λ z. ways z f (s ++ u) q) (sym (zero-test m e)) ∙ ways-joined f s u q ∙ ap (λ z. ways z (ways false f u) s q + value_at (ways true f u) (path go (plain s) q)) (zero-test m e))
        (λ m q e. ap (λ z. ways z f (s ++ u) q) e ∙ ways-append f s u q ∙ ap (λ z. ways z (ways false f u) s q) (sym e))
        ∙ ap (λ n. ways true (ways false f u) (b ∷ s) p + n) (sym (value-then (ways true f u) (path go (plain s)) (go p 0 b)))
      where
        zero-test : (m : ℕ) → m ≡ 0 → true ≡ (m == 0)
        zero-test m e = rw e refl
