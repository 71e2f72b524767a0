-- The text at an index among those that go on over one byte, mark by mark.
use Rattle.std.proofs.Common.{◌≡◌, ℕ, ◌+◌, ◌-◌, ◌<◌, ◌≤◌, false, List, [], ◌∷◌, ◌++◌, length, get_or, map, drop, drop-cons, add-one, refl, ap, sym, subst, ◌∙◌, arith, Option, Some, None}
use Rattle.std.specs.Prelude.{slice_get}
use Rattle.std.specs.List.{flat_map}
use Rattle.std.proofs.lemmas.List.{drop_all, length-append, length-map}
use Rattle.span_types.specs.Words.{Marked}
use Rattle.marker_dfa.specs.Deterministic.{DeterministicAutomaton, and_then, states_of, next_of, marks_of}
use Rattle.path_counts.specs.Paths.{most}
use Rattle.path_counts.specs.Runs.{at_state, runs}
use Rattle.count_tables.specs.TextIndex.{AreWays, IsTextAt}
use Rattle.count_tables.proofs.Places.{any_texts, any-ways, back-get, prefix-get, map-get}

-- the texts over the byte by one mark, from the state behind it
abbrev pub piece : (ℕ → List Marked) → ℕ → ℕ → Option ℕ → List Marked
piece k m b o = map (λ w. (m, b) ∷ w) (at_state k o)

-- by these marks
abbrev pub pieces : DeterministicAutomaton → (ℕ → List Marked) → ℕ → ℕ → List ℕ → List Marked
pieces a k p b ms = flat_map (λ m. piece k m b (next_of a p m b)) ms

-- the text at index `first` is the one at index i of those by these marks
pub record IsLeft (a : DeterministicAutomaton) (p b : ℕ) (after ms : List ℕ) (first i : ℕ) : Type 0 where
  pub low : i < most
  pub some : (k : ℕ → List Marked) → AreWays (states_of a) k after → i < length (pieces a k p b ms)
  pub same : (k : ℕ → List Marked) → AreWays (states_of a) k after → (w : Marked) → slice_get (pieces a k p b ms) i ≡ Some w → slice_get (runs (next_of a) (marks_of a) false k (b ∷ []) p) first ≡ Some w

-- those by a mark, and those by the marks behind it
first-of : (a : DeterministicAutomaton) (p b m : ℕ) (ms : List ℕ) (k : ℕ → List Marked) (o : Option ℕ) → next_of a p m b ≡ o → pieces a k p b (m ∷ ms) ≡ piece k m b o ++ pieces a k p b ms
first-of a p b m ms k o e = ap (λ x. piece k m b x ++ pieces a k p b ms) e

module _ (a : DeterministicAutomaton) (p b : ℕ) (after : List ℕ) where
  -- the marks from the index k on
  pub left-at : (ms : List ℕ) (first i k d : ℕ) → IsLeft a p b after (drop k ms) first i → k < length ms → IsLeft a p b after (get_or ms k d ∷ drop (k + 1) ms) first i
  left-at ms first i k d left lt = subst (λ ns. IsLeft a p b after ns first i) (drop-cons ms k d lt ∙ ap (λ n. get_or ms k d ∷ drop n ms) (sym (add-one k))) left

  pub left-end : (ms : List ℕ) (first i k : ℕ) → ((q : ℕ) → get_or after q 0 ≤ most) → IsLeft a p b after (drop k ms) first i → length ms ≤ k → ⊥
  left-end ms first i k low left past =
      let none : IsLeft a p b after [] first i = subst (λ ns. IsLeft a p b after ns first i) (drop_all k ms past) left in
      omega (arith, none.some (any_texts after) (any-ways (states_of a) after low))

  pub left-first : (i : ℕ) → i < most → ((k : ℕ → List Marked) → AreWays (states_of a) k after → i < length (runs (next_of a) (marks_of a) false k (b ∷ []) p)) → IsLeft a p b after (marks_of a p b) i i
  left-first i low some = record { low = low; some = some; same = λ k are w e. e }

  module _ (m : ℕ) (ms : List ℕ) (first i : ℕ) (left : IsLeft a p b after (m ∷ ms) first i) where
    pub left-skip : next_of a p m b ≡ None → IsLeft a p b after ms first i
    left-skip none = record {
      low = left.low;
      some = λ k are. omega (arith, left.some k are, ap length (first-of a p b m ms k None none));
      same = λ k are w e. left.same k are w (ap (λ ws. slice_get ws i) (first-of a p b m ms k None none) ∙ e);
    }

    pub left-past : (q : ℕ) → next_of a p m b ≡ Some q → q < states_of a → get_or after q 0 ≤ i → IsLeft a p b after ms first (i - get_or after q 0)
    left-past q step lt past = record {
      low = omega (arith, left.low);
      some = λ k are.
          let n = exact k are in
          let whole = ap length (first-of a p b m ms k (Some q) step) ∙ length-append (piece k m b (Some q)) (pieces a k p b ms) in
          omega (arith, left.some k are, whole, length-map (k q) (λ w. (m, b) ∷ w), n, past);
      same = λ k are w e.
          let n = exact k are in
          left.same k are w (ap (λ ws. slice_get ws i) (first-of a p b m ms k (Some q) step)
          ∙ back-get (piece k m b (Some q)) (pieces a k p b ms) i (i - get_or after q 0) (omega (arith, length-map (k q) (λ x. (m, b) ∷ x), n, past)) ∙ e);
    }
      where
        exact : (k : ℕ → List Marked) → AreWays (states_of a) k after → get_or after q 0 ≡ length (k q)
        exact k are = omega (arith, are q lt, past, left.low)

    pub left-found : (q : ℕ) → next_of a p m b ≡ Some q → i < get_or after q 0 → IsTextAt a (b ∷ []) p after first ((m, b) ∷ []) q i
    left-found q step among = record {
      bytes = refl;
      ends = ends (next_of a p m b) step;
      behind = among;
      at_index = λ k are v e.
          left.same k are ((m, b) ∷ v) (ap (λ ws. slice_get ws i) (first-of a p b m ms k (Some q) step)
          ∙ prefix-get (piece k m b (Some q)) (pieces a k p b ms) i ((m, b) ∷ v) (map-get (λ w. (m, b) ∷ w) (k q) i v e));
    }
      where
        ends : (o : Option ℕ) → o ≡ Some q → and_then o (λ r. Some r) ≡ Some q
        ends None e = e
        ends (Some r) e = e
