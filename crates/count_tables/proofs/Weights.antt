-- Numbers of a counting table, each times what goes on from its state.
use Rattle.std.proofs.Common.{◌≡◌, ℕ, ◌+◌, ◌*◌, ◌<◌, ◌≤◌, ◌==◌, Bool, true, false, List, [], ◌∷◌, length, get_or, drop, add-one, drop-cons, refl, ap, sym, ◌∙◌, arith, All, Option, Some, None}
use Rattle.std.specs.Prelude.{if◌then◌else◌}
use Rattle.std.proofs.lemmas.List.{drop_all}
use Rattle.std.proofs.lemmas.List.Elements.{All-head, All-tail}
use Rattle.marker_dfa.specs.Deterministic.{DeterministicAutomaton, IsDeterministic, states_of, next_of, marks_of}
use Rattle.path_counts.specs.declared.count.Count.{Count}
use Rattle.path_counts.specs.Paths.{most, stopped}
use Rattle.path_counts.specs.Counting.{CountRow, IsCountTable, counts_at, hits, number_at, number_in, unmarked_at}
use Rattle.path_counts.proofs.Caps.{stop-sum, stop-sum_left}
use Rattle.path_counts.proofs.Sums.{total, total-both, total-ext, total-hit, total-zero}
use Rattle.path_counts.proofs.Ways.{value_at, ways, ways-by_state, ways-parted}
use Rattle.path_counts.proofs.Numbers.{are_marks, exact, number-is}
use Rattle.path_counts.proofs.Meanings.{total-stopped}
use Rattle.count_tables.specs.Number.{weighted}

one-term : (z : Bool) (k y : ℕ) → (if z then k else 0) * y ≡ (if z then 1 else 0) * (k * y)
one-term true k y = omega arith
one-term false k y = omega arith

spread : (i j k : ℕ) → i * k + j * k ≡ (i + j) * k
spread i j k = omega arith

weighted-total : (n : ℕ) (f : ℕ → ℕ) (cs : List Count) → All (λ c. c.state < n) cs → weighted f cs ≡ total n (λ r. number_in cs r * f r)
weighted-total n f [] h = sym (total-zero n f)
weighted-total n f (c ∷ cs) h =
    let below : c.state < n = All-head (λ d. d.state < n) c cs h in
    let rest = weighted-total n f cs (All-tail (λ d. d.state < n) c cs h) in
    let first : c.number * f c.state ≡ total n (λ r. (if c.state == r then c.number else 0) * f r) =
    sym (total-hit n c.state (λ r. c.number * f r) below)
    ∙ total-ext n (λ r. hits (Some c.state) r * (c.number * f r)) (λ r. (if c.state == r then c.number else 0) * f r) (λ r lt. sym (one-term (c.state == r) c.number (f r))) in
    ap (λ k. k + weighted f cs) first ∙ ap (λ k. total n (λ r. (if c.state == r then c.number else 0) * f r) + k) rest
    ∙ sym (total-both n (λ r. (if c.state == r then c.number else 0) * f r) (λ r. number_in cs r * f r))
    ∙ total-ext n (λ r. (if c.state == r then c.number else 0) * f r + number_in cs r * f r) (λ r. ((if c.state == r then c.number else 0) + number_in cs r) * f r) (λ r lt. spread (if c.state == r then c.number else 0) (number_in cs r) (f r))

module _ (a : DeterministicAutomaton) (auto : IsDeterministic a) (s : List ℕ) (t : List CountRow) (is : IsCountTable a s t) (f g : ℕ → ℕ) (same : (q : ℕ) → q < states_of a → stopped (g q) ≡ stopped (f q)) where
  -- over the texts with some mark
  pub weighted-ways : (p : ℕ) → p < states_of a → stopped (weighted g (counts_at t p)) ≡ stopped (ways (next_of a) (marks_of a) true f s p)
  weighted-ways p lt =
      ap stopped (weighted-total (states_of a) g (counts_at t p) (is.shape.counts p).within)
      ∙ total-stopped (states_of a) (λ m. number_at t p m) g (λ m. exact a auto s p m) f (λ m below. number-is a auto s p m (number_at t p m) (is.numbers p m lt below)) same
      ∙ ap stopped (sym (ways-by_state (next_of a) (marks_of a) (states_of a) auto.within true f s p lt))

  value-same : (o : Option ℕ) → ((q : ℕ) → o ≡ Some q → q < states_of a) → stopped (value_at g o) ≡ stopped (value_at f o)
  value-same None below = refl
  value-same (Some q) below = same q (below q refl)

  -- over all texts
  pub all-ways : (p : ℕ) → p < states_of a → stopped (weighted g (counts_at t p) + value_at g (unmarked_at t p)) ≡ stopped (ways (next_of a) (marks_of a) false f s p)
  all-ways p lt =
      sym (stop-sum most (weighted g (counts_at t p)) (value_at g (unmarked_at t p)))
      ∙ ap (λ n. stopped (n + stopped (value_at g (unmarked_at t p)))) (weighted-ways p lt)
      ∙ ap (λ n. stopped (stopped (ways (next_of a) (marks_of a) true f s p) + n)) (value-same (unmarked_at t p) (is.shape.unmarked_within p))
      ∙ stop-sum most (ways (next_of a) (marks_of a) true f s p) (value_at f (unmarked_at t p))
      ∙ ap stopped (ap (λ o. ways (next_of a) (marks_of a) true f s p + value_at f o) (is.unmarked p lt) ∙ sym (ways-parted (next_of a) (marks_of a) (are_marks a auto) f s p))

-- ---- the loop over the counts
pub weighted-step : (f : ℕ → ℕ) (cs : List Count) (i sum ways product after : ℕ) (d : Count) → i < length cs → ways ≡ f (get_or cs i d).state → product ≡ stopped ((get_or cs i d).number * ways) → after ≡ stopped (sum + product)
    → stopped (sum + weighted f (drop i cs)) ≡ stopped (weighted f cs) → stopped (after + weighted f (drop (i + 1) cs)) ≡ stopped (weighted f cs)
weighted-step f cs i sum ways product after d lt w p e before =
    let c = get_or cs i d in
    let rest = weighted f (drop (i + 1) cs) in
    ap (λ k. stopped (k + rest)) e ∙ stop-sum_left most (sum + product) rest ∙ ap (λ k. stopped (sum + k + rest)) (p ∙ ap (λ n. stopped (c.number * n)) w)
    ∙ regroup sum (c.number * f c.state) rest
    ∙ ap (λ k. stopped (sum + (c.number * f c.state + weighted f (drop k cs)))) (add-one i)
    ∙ ap (λ ds. stopped (sum + weighted f ds)) (sym (drop-cons cs i d lt)) ∙ before
  where
    regroup : (x y z : ℕ) → stopped (x + stopped y + z) ≡ stopped (x + (y + z))
    regroup x y z = omega arith

pub weighted-end : (f : ℕ → ℕ) (cs : List Count) (i sum : ℕ) → length cs ≤ i → sum ≤ most → stopped (sum + weighted f (drop i cs)) ≡ stopped (weighted f cs) → sum ≡ stopped (weighted f cs)
weighted-end f cs i sum past low before = whole sum low ∙ ap (λ ds. stopped (sum + weighted f ds)) (sym (drop_all i cs past)) ∙ before
  where
    whole : (n : ℕ) → n ≤ most → n ≡ stopped (n + 0)
    whole n le = omega arith
