-- Of the marked texts over a text, those with some mark come before the one without.
use Rattle.std.proofs.Common.{◌≡◌, ℕ, ◌<◌, ◌⊎◌, ◌==◌, true, false, ◌&&◌, List, [], ◌∷◌, ◌++◌, append_assoc, append-nil, refl, ap, sym, ◌∙◌, arith, inl, inr, map, AllPairs, Contains, Option, Some, None}
use Rattle.std.specs.List.{flat_map}
use Rattle.std.proofs.lemmas.Bool.Decides.{eqb_tells}
use Rattle.std.proofs.lemmas.List.{map-append}
use Rattle.span_types.specs.Words.{Marked}
use Rattle.marker_dfa.specs.Deterministic.{path, and_then}
use Rattle.state_tables.specs.Meaning.{plain}
use Rattle.path_counts.specs.Runs.{at_state, runs}
use Rattle.path_counts.proofs.Lists.{contains-none, contains-cases, contains-here, pairs-head, pairs-tail}
use Rattle.path_counts.proofs.Runs.{AreMarks}

map-same : {X : Type 0} (xs : List X) → xs ≡ map (λ x. x) xs
map-same [] = refl
map-same (x ∷ xs) = ap (λ ys. x ∷ ys) (map-same xs)

map-on : {X Y Z : Type 0} (f : Y → Z) (g : X → Y) (xs : List X) → map f (map g xs) ≡ map (λ x. f (g x)) xs
map-on f g [] = refl
map-on f g (x ∷ xs) = ap (λ ys. f (g x) ∷ ys) (map-on f g xs)

at-ext : {X : Type 0} (k l : ℕ → List X) (o : Option ℕ) → ((q : ℕ) → k q ≡ l q) → at_state k o ≡ at_state l o
at-ext k l None e = refl
at-ext k l (Some q) e = e q

flat-ext : {X Y : Type 0} (f g : X → List Y) (xs : List X) → ((x : X) → f x ≡ g x) → flat_map f xs ≡ flat_map g xs
flat-ext f g [] e = refl
flat-ext f g (x ∷ xs) e = ap (λ ys. ys ++ flat_map f xs) (e x) ∙ ap (λ ys. g x ++ ys) (flat-ext f g xs e)

-- more behind the piece of the number 0, which is the last of the falling list if it is there
flat-last : {Y : Type 0} (f g : ℕ → List Y) (more : List Y) (ms : List ℕ) → AllPairs (λ x y. y < x) ms → ((m : ℕ) → m == 0 ≡ false → f m ≡ g m) → f 0 ≡ g 0 ++ more
    → Contains ms 0 ⊎ (more ≡ []) → flat_map f ms ≡ flat_map g ms ++ more
flat-last f g more [] falls other last there = elim there [ inl c ↦ absurd (contains-none 0 c) | inr none ↦ sym none ]
flat-last f g more (m ∷ []) falls other last there = elim (eqb_tells m 0) [
  | inl e ↦ append-nil (f m) ∙ ap f e.1 ∙ last ∙ ap (λ i. g i ++ more) (sym e.1) ∙ ap (λ ys. ys ++ more) (sym (append-nil (g m)))
  | inr ne ↦
      let none : more ≡ [] = elim there [
        | inl c ↦ elim (contains-cases m [] 0 c) [ inl same ↦ absurd (ne.1 same) | inr rest ↦ absurd (contains-none 0 rest) ]
        | inr none ↦ none
      ] in
      ap (λ ys. ys ++ []) (other m ne.0) ∙ sym (append-nil (g m ++ [])) ∙ ap (λ ys. (g m ++ []) ++ ys) (sym none)
]
flat-last f g more (m ∷ n ∷ ms) falls other last there =
    let below : n < m = pairs-head (λ x y. y < x) m (n ∷ ms) n falls (contains-here n ms) in
    elim (eqb_tells m 0) [
      | inl e ↦ absurd (omega (arith, e.1, below))
      | inr ne ↦
          let rest : Contains (n ∷ ms) 0 ⊎ (more ≡ []) = elim there [
            | inl c ↦ elim (contains-cases m (n ∷ ms) 0 c) [ inl same ↦ absurd (ne.1 same) | inr in_rest ↦ inl in_rest ]
            | inr none ↦ inr none
          ] in
          ap (λ ys. ys ++ flat_map f (n ∷ ms)) (other m ne.0) ∙ ap (λ ys. g m ++ ys) (flat-last f g more (n ∷ ms) (pairs-tail (λ x y. y < x) m (n ∷ ms) falls) other last rest)
          ∙ sym (append_assoc (g m) (flat_map g (n ∷ ms)) more)
    ]

module _ (go : ℕ → ℕ → ℕ → Option ℕ) (marks : ℕ → ℕ → List ℕ) (are : AreMarks go marks) where
  -- what comes over the byte without a mark, and then over s
  without : (k : ℕ → List Marked) (b : ℕ) (s : List ℕ) (o : Option ℕ) → map (λ w. (0, b) ∷ w) (at_state (λ q. map (λ w. plain s ++ w) (at_state k (path go (plain s) q))) o)
      ≡ map (λ w. plain (b ∷ s) ++ w) (at_state k (and_then o (path go (plain s))))
  without k b s None = refl
  without k b s (Some q) = map-on (λ w. (0, b) ∷ w) (λ w. plain s ++ w) (at_state k (path go (plain s) q))

  zero-there : {Y : Type 0} (p b : ℕ) (f : List Marked → List Y) (k : ℕ → List Marked) → f [] ≡ [] → Contains (marks p b) 0 ⊎ (f (at_state k (go p 0 b)) ≡ [])
  zero-there p b f k none = by (go p 0 b) (λ r e. (are.lists p b 0).1 (r, e))
    where
      by : (o : Option ℕ) → ((r : ℕ) → o ≡ Some r → Contains (marks p b) 0) → Contains (marks p b) 0 ⊎ (f (at_state k o) ≡ [])
      by None among = inr none
      by (Some r) among = inl (among r refl)

  split-at : (k l : ℕ → List Marked) (b : ℕ) (o : Option ℕ) → map (λ w. (0, b) ∷ w) (at_state (λ q. k q ++ l q) o) ≡ map (λ w. (0, b) ∷ w) (at_state k o) ++ map (λ w. (0, b) ∷ w) (at_state l o)
  split-at k l b None = refl
  split-at k l b (Some q) = map-append (λ w. (0, b) ∷ w) (k q) (l q)

  -- over a byte and more: what holds over the rest of the text holds of the whole
  over-byte : (p b : ℕ) (f g : ℕ → ℕ → List Marked) (h : ℕ → List Marked) → ((q : ℕ) → f 0 q ≡ g 0 q ++ h q) → ((m : ℕ) → m == 0 ≡ false → (q : ℕ) → f m q ≡ g m q)
      → flat_map (λ m. map (λ w. (m, b) ∷ w) (at_state (f m) (go p m b))) (marks p b) ≡ flat_map (λ m. map (λ w. (m, b) ∷ w) (at_state (g m) (go p m b))) (marks p b) ++ map (λ w. (0, b) ∷ w) (at_state h (go p 0 b))
  over-byte p b f g h last other =
      flat-last (λ m. map (λ w. (m, b) ∷ w) (at_state (f m) (go p m b))) (λ m. map (λ w. (m, b) ∷ w) (at_state (g m) (go p m b))) (map (λ w. (0, b) ∷ w) (at_state h (go p 0 b))) (marks p b) (are.fall p b)
      (λ m ne. ap (map (λ w. (m, b) ∷ w)) (at-ext (f m) (g m) (go p m b) (other m ne)))
      (ap (map (λ w. (0, b) ∷ w)) (at-ext (f 0) (λ q. g 0 q ++ h q) (go p 0 b) last) ∙ split-at (g 0) h b (go p 0 b))
      (zero-there p b (map (λ w. (0, b) ∷ w)) h refl)

  pub runs-parted : (k : ℕ → List Marked) (s : List ℕ) (p : ℕ) → runs go marks false k s p ≡ runs go marks true k s p ++ map (λ w. plain s ++ w) (at_state k (path go (plain s) p))
  runs-parted k [] p = map-same (k p)
  runs-parted k (b ∷ s) p =
      over-byte p b (λ m. runs go marks (false && m == 0) k s) (λ m. runs go marks (true && m == 0) k s) (λ q. map (λ w. plain s ++ w) (at_state k (path go (plain s) q)))
      (λ q. runs-parted k s q) (λ m ne q. ap (λ z. runs go marks z k s q) (sym ne))
      ∙ ap (λ ws. runs go marks true k (b ∷ s) p ++ ws) (without k b s (go p 0 b))

  pub runs-append : (k : ℕ → List Marked) (s u : List ℕ) (p : ℕ) → runs go marks false k (s ++ u) p ≡ runs go marks false (runs go marks false k u) s p
  runs-append k [] u p = refl
  runs-append k (b ∷ s) u p =
      flat-ext (λ m. map (λ w. (m, b) ∷ w) (at_state (runs go marks false k (s ++ u)) (go p m b))) (λ m. map (λ w. (m, b) ∷ w) (at_state (runs go marks false (runs go marks false k u) s) (go p m b))) (marks p b)
      (λ m. ap (map (λ w. (m, b) ∷ w)) (at-ext (runs go marks false k (s ++ u)) (runs go marks false (runs go marks false k u) s) (go p m b) (λ q. runs-append k s u q)))

  -- over two texts: those with a mark in the first come before those with one in the second alone
  pub runs-joined : (k : ℕ → List Marked) (s u : List ℕ) (p : ℕ)
      → runs go marks true k (s ++ u) p ≡ runs go marks true (runs go marks false k u) s p ++ map (λ w. plain s ++ w) (at_state (runs go marks true k u) (path go (plain s) p))
  runs-joined k [] u p = map-same (runs go marks true k u p)
  runs-joined k (b ∷ s) u p =
      over-byte p b (λ m. runs go marks (true && m == 0) k (s ++ u)) (λ m. runs go marks (true && m == 0) (runs go marks false k u) s) (λ q. map (λ w. plain s ++ w) (at_state (runs go marks true k u) (path go (plain s) q)))
      (λ q. runs-joined k s u q) (λ m ne q. ap (λ z. runs go marks z k (s ++ u) q) ne ∙ runs-append k s u q ∙ ap (λ z. runs go marks z (runs go marks false k u) s q) (sym ne))
      ∙ ap (λ ws. runs go marks true (runs go marks false k u) (b ∷ s) p ++ ws) (without (runs go marks true k u) b s (go p 0 b))
