-- The counting tables that are made are those of their texts.
use Rattle.std.proofs.Common.{◌≡◌, ℕ, zero, suc, ◌+◌, ◌*◌, ◌<◌, ◌==◌, Bool, true, false, ◌&&◌, List, [], ◌∷◌, ◌++◌, refl, sym, ap, ◌∙◌, arith, All, Option, Some, None, rules}
use Rattle.std.specs.Prelude.{if◌then◌else◌}
use Rattle.std.proofs.lemmas.List.{map-append}
use Rattle.std.proofs.lemmas.List.Elements.{All-append, All-head, All-tail}
use Rattle.marker_dfa.specs.Deterministic.{DeterministicAutomaton, IsDeterministic, states_of, next_of, marks_of, path, and_then}
use Rattle.state_tables.specs.Meaning.{plain}
use Rattle.state_tables.proofs.Meanings.{path-append, path-within}
use Rattle.path_counts.specs.declared.count.Count.{Count}
use Rattle.path_counts.specs.Paths.{most, stopped}
use Rattle.path_counts.specs.Counting.{CountRow, IsByteRow, IsComposed, IsCountTable, IsCountTableOf, any_number_at, counts_at, hits, number_at, number_by_marks, number_from, number_in, number_through, row_at, unmarked_at}
use Rattle.path_counts.proofs.Caps.{stop-product_right, stop-sum, stop-sum_left, stop-twice}
use Rattle.path_counts.proofs.Sums.{add_up, total, total-both, total-ext, total-hit, total-zero}
use Rattle.path_counts.proofs.Ways.{at_only, value_at, ways, ways-by_state, ways-joined, ways-parted}
use Rattle.path_counts.proofs.Numbers.{are_marks, exact, is-number, number-is}

-- ---- one byte
hits-value : (o : Option ℕ) (q : ℕ) → value_at (at_only q) o ≡ hits o q
hits-value None q = refl
hits-value (Some r) q = refl

nothing : (o : Option ℕ) → value_at (λ r. 0) o ≡ 0
nothing None = refl
nothing (Some r) = refl

byte-marks : (a : DeterministicAutomaton) (p b q : ℕ) (ms : List ℕ) → add_up (λ m. value_at (ways (next_of a) (marks_of a) (true && m == 0) (at_only q) []) (next_of a p m b)) ms ≡ number_by_marks a p b q ms
byte-marks a p b q [] = refl
byte-marks a p b q (m ∷ ms) = ap (λ n. n + add_up (λ m. value_at (ways (next_of a) (marks_of a) (true && m == 0) (at_only q) []) (next_of a p m b)) ms) (by (m == 0)) ∙ ap (λ n. (if m == 0 then 0 else hits (next_of a p m b) q) + n) (byte-marks a p b q ms)
  where
    by : (z : Bool) → value_at (ways (next_of a) (marks_of a) (true && z) (at_only q) []) (next_of a p m b) ≡ (if z then 0 else hits (next_of a p m b) q)
    by true = nothing (next_of a p m b)
    by false = hits-value (next_of a p m b) q

then-some : (go : ℕ → ℕ → ℕ → Option ℕ) (o : Option ℕ) → and_then o (path go []) ≡ o
then-some go None = refl
then-some go (Some q) = refl

pub IsCountTable-byte : (a : DeterministicAutomaton) (b : ℕ) (t : List CountRow) → b < 256 → IsDeterministic a → IsCountTableOf (states_of a) t → ((p : ℕ) → p < states_of a → IsByteRow a b p (row_at t p)) → IsCountTable a (b ∷ []) t
IsCountTable-byte a b t byte auto shape rows = record {
  shape = shape;
  bytes = search rules;
  unmarked = λ p lt. (rows p lt).unmarked ∙ sym (then-some (next_of a) (next_of a p 0 b));
  numbers = λ p q lt qlt. is-number a auto (b ∷ []) p q (number_at t p q) ((rows p lt).numbers q qlt ∙ ap stopped (sym (byte-marks a p b q (marks_of a p b))));
}

-- ---- sums that stop
-- sums of products with the same factors, stopped, are the same
pub total-stopped : (n : ℕ) (x y u v : ℕ → ℕ) → ((r : ℕ) → r < n → x r ≡ stopped (u r)) → ((r : ℕ) → r < n → stopped (y r) ≡ stopped (v r))
    → stopped (total n (λ r. x r * y r)) ≡ stopped (total n (λ r. u r * v r))
total-stopped zero x y u v e f = refl
total-stopped (suc n) x y u v e f =
    sym (stop-sum most (total n (λ r. x r * y r)) (x n * y n))
    ∙ ap (λ k. stopped (k + stopped (x n * y n))) (total-stopped n x y u v (λ r lt. e r (omega (arith, lt))) (λ r lt. f r (omega (arith, lt))))
    ∙ ap (λ k. stopped (stopped (total n (λ r. u r * v r)) + k)) (product (x n) (y n) (u n) (v n) (e n (omega arith)) (f n (omega arith)))
    ∙ stop-sum most (total n (λ r. u r * v r)) (u n * v n)
  where
    swap : (i j : ℕ) → stopped (i * j) ≡ stopped (j * i)
    swap i j = let same : i * j ≡ j * i = omega arith in ap stopped same

    product : (i j k l : ℕ) → i ≡ stopped k → stopped j ≡ stopped l → stopped (i * j) ≡ stopped (k * l)
    product i j k l a b =
        ap (λ h. stopped (h * j)) a ∙ swap (stopped k) j ∙ stop-product_right most j k ∙ swap j k
        ∙ sym (stop-product_right most k j) ∙ ap (λ h. stopped (k * h)) b ∙ stop-product_right most k l

-- ---- two texts
one-term : (z : Bool) (k y : ℕ) → (if z then k else 0) * y ≡ (if z then 1 else 0) * (k * y)
one-term true k y = omega arith
one-term false k y = omega arith

-- the sum over the counts is one over all states
through-total : (n : ℕ) (right : List CountRow) (cs : List Count) (q : ℕ) → All (λ c. c.state < n) cs → number_through right cs q ≡ total n (λ r. number_in cs r * any_number_at right r q)
through-total n right [] q h = sym (total-zero n (λ r. any_number_at right r q))
through-total n right (c ∷ cs) q h =
    let below : c.state < n = All-head (λ d. d.state < n) c cs h in
    let rest = through-total n right cs q (All-tail (λ d. d.state < n) c cs h) in
    let first : c.number * any_number_at right c.state q ≡ total n (λ r. (if c.state == r then c.number else 0) * any_number_at right r q) =
    sym (total-hit n c.state (λ r. c.number * any_number_at right r q) below)
    ∙ total-ext n (λ r. hits (Some c.state) r * (c.number * any_number_at right r q)) (λ r. (if c.state == r then c.number else 0) * any_number_at right r q)
    (λ r lt. sym (one-term (c.state == r) c.number (any_number_at right r q))) in
    ap (λ k. k + number_through right cs q) first ∙ ap (λ k. total n (λ r. (if c.state == r then c.number else 0) * any_number_at right r q) + k) rest
    ∙ sym (total-both n (λ r. (if c.state == r then c.number else 0) * any_number_at right r q) (λ r. number_in cs r * any_number_at right r q))
    ∙ total-ext n (λ r. (if c.state == r then c.number else 0) * any_number_at right r q + number_in cs r * any_number_at right r q) (λ r. ((if c.state == r then c.number else 0) + number_in cs r) * any_number_at right r q)
    (λ r lt. spread (if c.state == r then c.number else 0) (number_in cs r) (any_number_at right r q))
  where
    spread : (i j k : ℕ) → i * k + j * k ≡ (i + j) * k
    spread i j k = omega arith

module _ (a : DeterministicAutomaton) (s u : List ℕ) (left right : List CountRow) (auto : IsDeterministic a) (l : IsCountTable a s left) (r : IsCountTable a u right) where
  -- the numbers with any marks over the right text
  any-number : (p q : ℕ) → p < states_of a → q < states_of a → stopped (any_number_at right p q) ≡ stopped (ways (next_of a) (marks_of a) false (at_only q) u p)
  any-number p q lt qlt =
      ap (λ n. stopped (n + hits (unmarked_at right p) q)) (number-is a auto u p q (number_at right p q) (r.numbers p q lt qlt))
      ∙ stop-sum_left most (exact a auto u p q) (hits (unmarked_at right p) q)
      ∙ ap (λ n. stopped (exact a auto u p q + n)) (ap (λ o. hits o q) (r.unmarked p lt) ∙ sym (hits-value (path (next_of a) (plain u) p) q))
      ∙ ap stopped (sym (ways-parted (next_of a) (marks_of a) (are_marks a auto) (at_only q) u p))

  through : (p q : ℕ) → p < states_of a → q < states_of a → stopped (number_through right (counts_at left p) q) ≡ stopped (ways (next_of a) (marks_of a) true (ways (next_of a) (marks_of a) false (at_only q) u) s p)
  through p q lt qlt =
      ap stopped (through-total (states_of a) right (counts_at left p) q (l.shape.counts p).within)
      ∙ total-stopped (states_of a) (λ m. number_at left p m) (λ m. any_number_at right m q) (λ m. exact a auto s p m) (ways (next_of a) (marks_of a) false (at_only q) u)
      (λ m below. number-is a auto s p m (number_at left p m) (l.numbers p m lt below)) (λ m below. any-number m q below qlt)
      ∙ ap stopped (sym (ways-by_state (next_of a) (marks_of a) (states_of a) auto.within true (ways (next_of a) (marks_of a) false (at_only q) u) s p lt))

  onward : (q : ℕ) (o : Option ℕ) → q < states_of a → ((m : ℕ) → o ≡ Some m → m < states_of a) → stopped (number_from right o q) ≡ stopped (value_at (λ m. exact a auto u m q) o)
  onward q None qlt below = refl
  onward q (Some m) qlt below = ap stopped (number-is a auto u m q (number_at right m q) (r.numbers m q (below m refl) qlt)) ∙ stop-twice most (exact a auto u m q)

  composed-number : (p q : ℕ) → p < states_of a → q < states_of a → stopped (number_from right (unmarked_at left p) q + number_through right (counts_at left p) q) ≡ stopped (exact a auto (s ++ u) p q)
  composed-number p q lt qlt =
      sym (stop-sum most (number_from right (unmarked_at left p) q) (number_through right (counts_at left p) q))
      ∙ ap (λ n. stopped (stopped (number_from right (unmarked_at left p) q) + n)) (through p q lt qlt)
      ∙ ap (λ n. stopped (n + stopped (ways (next_of a) (marks_of a) true (ways (next_of a) (marks_of a) false (at_only q) u) s p)))
      (ap (λ o. stopped (number_from right o q)) (l.unmarked p lt) ∙ onward q (path (next_of a) (plain s) p) qlt (λ m e. path-within a auto p m (plain s) lt e))
      ∙ stop-sum most (value_at (λ m. exact a auto u m q) (path (next_of a) (plain s) p)) (ways (next_of a) (marks_of a) true (ways (next_of a) (marks_of a) false (at_only q) u) s p)
      ∙ ap stopped (swap (value_at (λ m. exact a auto u m q) (path (next_of a) (plain s) p)) (ways (next_of a) (marks_of a) true (ways (next_of a) (marks_of a) false (at_only q) u) s p) ∙ sym (ways-joined (next_of a) (marks_of a) (are_marks a auto) (at_only q) s u p))
    where
      swap : (i j : ℕ) → i + j ≡ j + i
      swap i j = omega arith

  composed-unmarked : (p : ℕ) → p < states_of a → and_then (unmarked_at left p) (unmarked_at right) ≡ path (next_of a) (plain (s ++ u)) p
  composed-unmarked p lt =
      ap (λ o. and_then o (unmarked_at right)) (l.unmarked p lt)
      ∙ each (path (next_of a) (plain s) p) (λ q e. r.unmarked q (path-within a auto p q (plain s) lt e))
      ∙ sym (path-append (next_of a) p (plain s) (plain u))
      ∙ ap (λ w. path (next_of a) w p) (sym (map-append (λ b. (0, b)) s u))
    where
      each : (o : Option ℕ) → ((q : ℕ) → o ≡ Some q → unmarked_at right q ≡ path (next_of a) (plain u) q) → and_then o (unmarked_at right) ≡ and_then o (path (next_of a) (plain u))
      each None f = refl
      each (Some q) f = f q refl

  pub IsCountTable-composed : (t : List CountRow) → IsCountTableOf (states_of a) t → IsComposed left right t → IsCountTable a (s ++ u) t
  IsCountTable-composed t shape c = record {
    shape = shape;
    bytes = All-append (λ b. b < 256) s u l.bytes r.bytes;
    unmarked = λ p lt. (c.rows p (rw l.shape.states lt)).unmarked ∙ composed-unmarked p lt;
    numbers = λ p q lt qlt. is-number a auto (s ++ u) p q (number_at t p q) ((c.rows p (rw l.shape.states lt)).numbers q (rw r.shape.states qlt) ∙ composed-number p q lt qlt);
  }
