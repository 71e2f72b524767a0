-- How many texts come before the marks of a tuple, by the parts of a text.
use Rattle.std.proofs.Common.{◌≡◌, ℕ, ◌+◌, ◌*◌, ◌<◌, ◌≤◌, ◌==◌, false, true, Bool, List, [], ◌∷◌, ◌++◌, append_assoc, length, get_or, drop, drop-cons, add-one, map, refl, ap, sym, subst, ◌∙◌, arith, Contains, Option, Some, None}
use Rattle.std.specs.Prelude.{nat_lt, if◌then◌else◌}
use Rattle.std.proofs.lemmas.List.{drop_all}
use Rattle.span_types.specs.Words.{Marked, mark_count}
use Rattle.slp_model.specs.declared.Node.TheVariants.{Byte}
use Rattle.slp_model.specs.Tree.{Fork, text, height}
use Rattle.slp_model.specs.Nodes.{IsNodeAt}
use Rattle.marker_dfa.specs.Deterministic.{DeterministicAutomaton, IsDeterministic, and_then, states_of, next_of, marks_of, path}
use Rattle.state_tables.specs.Meaning.{plain}
use Rattle.state_tables.proofs.Paths.{path-dead, path-on}
use Rattle.span_types.specs.Marks.{mark_of}
use Rattle.span_enum.specs.Tuples.{IsMarkedBetween, IsUnmarked, word_over}
use Rattle.span_types.proofs.PieceLaws.{word-append}
use Rattle.span_enum.proofs.Words.{over-count, over-plain}
use Rattle.path_counts.specs.Paths.{most, stopped}
use Rattle.path_counts.specs.Counting.{CountRow, IsCountTable, onward_from, unmarked_at}
use Rattle.path_counts.specs.Runs.{at_state, runs}
use Rattle.path_counts.proofs.Caps.{stop-twice}
use Rattle.path_counts.proofs.Numbers.{are_marks}
use Rattle.path_counts.proofs.Order.{runs-append, runs-parted}
use Rattle.count_tables.specs.TextIndex.{AreWays, IsCountInput, IsPart, number_marked, number_over, tree_of}
use Rattle.count_tables.specs.Earlier.{IsEarlier, IsNumberBefore, number_before, word_in}
use Rattle.count_tables.specs.declared.part.Part.{Part}
use Rattle.count_tables.specs.declared.rank.RankInput.{RankInput}
use Rattle.count_tables.specs.declared.rank.Earlier.{Earlier}
use Rattle.count_tables.proofs.BeforeLemmas.{before-append, before-greater, before-lower, before-same, greater, plain-marked, plain-same, same, same-once, same-zero}
use Rattle.count_tables.proofs.ByteChoice.{piece, pieces}
use Rattle.count_tables.proofs.Finding.{pair-cost}
use Rattle.count_tables.proofs.Places.{marked-runs, right-ways}
use Rattle.std.proofs.lemmas.Bool.{cases_order, eq-eqb, le-ltb, lt-ltb}
use Rattle.std.proofs.lemmas.Bool.Decides.{eqb_tells}
use Rattle.std.proofs.Common.{inl, inr}

-- ---- sums that stop
sums-stop : (x y u v : ℕ) → stopped x ≡ stopped y → stopped u ≡ stopped v → stopped (x + u) ≡ stopped (y + v)
sums-stop x y u v e f = omega (arith, e, f)

greater-stops : (f g : ℕ → ℕ) (m : ℕ) (ms : List ℕ) → ((n : ℕ) → stopped (f n) ≡ stopped (g n)) → stopped (greater f m ms) ≡ stopped (greater g m ms)
greater-stops f g m [] e = refl
greater-stops f g m (n ∷ ns) e =
    sums-stop (if nat_lt m n then f n else 0) (if nat_lt m n then g n else 0) (greater f m ns) (greater g m ns) (one (nat_lt m n)) (greater-stops f g m ns e)
  where
    one : (z : Bool) → stopped (if z then f n else 0) ≡ stopped (if z then g n else 0)
    one true = e n
    one false = refl

-- ---- one byte
-- what goes on by each mark
abbrev pub onward : DeterministicAutomaton → ℕ → ℕ → List ℕ → ℕ → ℕ
onward a p b after n = onward_from (next_of a p n b) after

module _ (a : DeterministicAutomaton) (auto : IsDeterministic a) where
  module _ (p b m : ℕ) (after : List ℕ) where
    module _ (k : ℕ → List Marked) (v : Marked) where
      one-piece : (n : ℕ) → number_before (piece k n b (next_of a p n b)) ((m, b) ∷ v) ≡ (if nat_lt m n then length (at_state k (next_of a p n b)) else 0) + (if n == m then number_before (at_state k (next_of a p m b)) v else 0)
      one-piece n = elim (cases_order m n) [
        | inl e ↦
            subst (λ i. number_before (piece k i b (next_of a p i b)) ((m, b) ∷ v) ≡ (if nat_lt m i then length (at_state k (next_of a p i b)) else 0) + (if i == m then number_before (at_state k (next_of a p m b)) v else 0)) e
            (before-same m b (at_state k (next_of a p m b)) v ∙ by (nat_lt m m) (m == m) (length (at_state k (next_of a p m b))) (number_before (at_state k (next_of a p m b)) v) (le-ltb m m (omega arith)) (eq-eqb m m refl))
        | inr other ↦ elim other [
          | inl lt ↦
              before-greater m n b (at_state k (next_of a p n b)) v lt
              ∙ up (nat_lt m n) (n == m) (length (at_state k (next_of a p n b))) (number_before (at_state k (next_of a p m b)) v) (lt-ltb m n lt) (apart n (λ e. omega (arith, e, lt)))
          | inr gt ↦
              before-lower m n b (at_state k (next_of a p n b)) v gt
              ∙ down (nat_lt m n) (n == m) (length (at_state k (next_of a p n b))) (number_before (at_state k (next_of a p m b)) v) (le-ltb m n (omega (arith, gt))) (apart n (λ e. omega (arith, e, gt)))
        ]
      ]
        where
          apart : (i : ℕ) → (i ≡ m → ⊥) → i == m ≡ false
          apart i ne = elim (eqb_tells i m) [ inl e ↦ absurd (ne e.1) | inr e ↦ e.0 ]

          by : (x y : Bool) (l r : ℕ) → x ≡ false → y ≡ true → r ≡ (if x then l else 0) + (if y then r else 0)
          by false true l r e f = omega arith
          by false false l r e f = cc
          by true y l r e f = cc

          up : (x y : Bool) (l r : ℕ) → x ≡ true → y ≡ false → l ≡ (if x then l else 0) + (if y then r else 0)
          up true false l r e f = omega arith
          up true true l r e f = cc
          up false y l r e f = cc

          down : (x y : Bool) (l r : ℕ) → x ≡ false → y ≡ false → 0 ≡ (if x then l else 0) + (if y then r else 0)
          down false false l r e f = refl
          down false true l r e f = cc
          down true y l r e f = cc

      before-pieces : (ms : List ℕ) → number_before (pieces a k p b ms) ((m, b) ∷ v) ≡ greater (λ n. length (at_state k (next_of a p n b))) m ms + same (number_before (at_state k (next_of a p m b)) v) m ms
      before-pieces [] = refl
      before-pieces (n ∷ ns) = omega (arith, before-append (piece k n b (next_of a p n b)) (pieces a k p b ns) ((m, b) ∷ v), one-piece n, before-pieces ns)

      there : (o : Option ℕ) → ((r : ℕ) → o ≡ Some r → Contains (marks_of a p b) m) → same (number_before (at_state k o) v) m (marks_of a p b) ≡ number_before (at_state k o) v
      there None among = same-zero m (marks_of a p b)
      there (Some r) among = same-once (number_before (k r) v) m (marks_of a p b) (auto.marks_fall p b) (among r refl)

      byte-before : number_before (runs (next_of a) (marks_of a) false k (b ∷ []) p) ((m, b) ∷ v) ≡ greater (λ n. length (at_state k (next_of a p n b))) m (marks_of a p b) + number_before (at_state k (next_of a p m b)) v
      byte-before = before-pieces (marks_of a p b) ∙ ap (λ x. greater (λ n. length (at_state k (next_of a p n b))) m (marks_of a p b) + x) (there (next_of a p m b) (λ r e. (auto.marks p b m).1 (r, e)))

    one-letter : (o : Option ℕ) → o ≡ and_then o (λ r. Some r)
    one-letter None = refl
    one-letter (Some r) = refl

    goes-on : (k : ℕ → List Marked) → AreWays (states_of a) k after → (o : Option ℕ) → ((q : ℕ) → o ≡ Some q → q < states_of a) → stopped (onward_from o after) ≡ stopped (length (at_state k o))
    goes-on k are None within = refl
    goes-on k are (Some q) within = ap stopped (are q (within q refl)) ∙ stop-twice most (length (k q))

    pub byte-number : (number : ℕ) (state : Option ℕ) → stopped number ≡ stopped (greater (onward a p b after) m (marks_of a p b)) → state ≡ next_of a p m b → IsNumberBefore a (b ∷ []) p after ((m, b) ∷ []) number state
    byte-number number state e step = record {
      ends = step ∙ one-letter (next_of a p m b);
      before = λ k are v.
          let whole = byte-before k v in
          let part = greater-stops (onward a p b after) (λ n. length (at_state k (next_of a p n b))) m (marks_of a p b) (λ n. goes-on k are (next_of a p n b) (λ q h. auto.within p n b q h)) in
          omega (arith, whole, part, e, ap (λ o. number_before (at_state k o) v) step);
    }

  -- ---- a text in which the tuple has no mark
  pub plain-number : (s : List ℕ) (t : List CountRow) → IsCountTable a s t → (p number : ℕ) (state : Option ℕ) (after : List ℕ) → p < states_of a → number ≡ number_marked t p after → state ≡ unmarked_at t p → IsNumberBefore a s p after (plain s) number state
  plain-number s t is p number state after lt e step =
      let ends : state ≡ path (next_of a) (plain s) p = step ∙ is.unmarked p lt in
      record {
        ends = ends;
        before = λ k are v.
            let some = runs (next_of a) (marks_of a) true k s p in
            let none = map (λ w. plain s ++ w) (at_state k (path (next_of a) (plain s) p)) in
            let parted = ap (λ ws. number_before ws (plain s ++ v)) (runs-parted (next_of a) (marks_of a) (are_marks a auto) k s p) ∙ before-append some none (plain s ++ v) in
            let first = plain-marked (next_of a) (marks_of a) k s p v in
            let second = plain-same s (at_state k (path (next_of a) (plain s) p)) v ∙ ap (λ o. number_before (at_state k o) v) (sym ends) in
            omega (arith, parted, first, second, e, marked-runs a auto s t is k after are p lt);
      }

  -- ---- two texts
  module _ (s u : List ℕ) (tr : List CountRow) (ir : IsCountTable a u tr) (after ways : List ℕ) (filled : (q : ℕ) → q < states_of a → get_or ways q 0 ≡ number_over tr q after) where
    -- the texts over both parts, by those over the first
    over-both : (k : ℕ → List Marked) → AreWays (states_of a) k after → (p n : ℕ) (o : Option ℕ) (w v x : Marked) → IsNumberBefore a s p ways w n o
        → stopped (number_before (runs (next_of a) (marks_of a) false k (s ++ u) p) ((w ++ v) ++ x)) ≡ stopped (n + number_before (at_state (runs (next_of a) (marks_of a) false k u) o) (v ++ x))
    over-both k are p n o w v x first =
        ap (λ y. stopped (number_before (runs (next_of a) (marks_of a) false k (s ++ u) p) y)) (append_assoc w v x)
        ∙ ap (λ ws. stopped (number_before ws (w ++ (v ++ x)))) (runs-append (next_of a) (marks_of a) (are_marks a auto) k s u p)
        ∙ first.before (runs (next_of a) (marks_of a) false k u) (right-ways a auto s u tr ir after ways filled k are) (v ++ x)

    pub joined-number : (p q n l both : ℕ) (o : Option ℕ) (w v : Marked) → IsNumberBefore a s p ways w n (Some q) → IsNumberBefore a u q after v l o → both ≡ stopped (n + l) → IsNumberBefore a (s ++ u) p after (w ++ v) both o
    joined-number p q n l both o w v first second e = record {
      ends = second.ends ∙ sym (path-on (next_of a) p q w v (sym first.ends));
      before = λ k are x. omega (arith, over-both k are p n (Some q) w v x first, second.before k are x, e);
    }

    -- no run follows the tuple's marks over the first part
    pub ended-number : (p n : ℕ) (w v : Marked) → IsNumberBefore a s p ways w n None → IsNumberBefore a (s ++ u) p after (w ++ v) n None
    ended-number p n w v first = record {
      ends = sym (path-dead (next_of a) p w v (sym first.ends));
      before = λ k are x. over-both k are p n None w v x first;
    }

-- ---- the loop over the marks
module _ (f : ℕ → ℕ) (m : ℕ) (ms : List ℕ) where
  -- the sum so far and that over the marks left
  abbrev pub IsSummed : ℕ → ℕ → Type 0
  IsSummed i sum = stopped (sum + greater f m (drop i ms)) ≡ stopped (greater f m ms)

  left-at : (i d : ℕ) → i < length ms → greater f m (drop i ms) ≡ (if nat_lt m (get_or ms i d) then f (get_or ms i d) else 0) + greater f m (drop (i + 1) ms)
  left-at i d lt = ap (greater f m) (drop-cons ms i d lt) ∙ ap (λ n. (if nat_lt m (get_or ms i d) then f (get_or ms i d) else 0) + greater f m (drop n ms)) (sym (add-one i))

  pub summed-more : (i d sum next : ℕ) → i < length ms → IsSummed i sum → m < get_or ms i d → next ≡ stopped (sum + f (get_or ms i d)) → IsSummed (i + 1) next
  summed-more i d sum next lt before more e =
      let one = ap (λ z. (if z then f (get_or ms i d) else 0) + greater f m (drop (i + 1) ms)) (lt-ltb m (get_or ms i d) more) in
      omega (arith, left-at i d lt, one, before, e)

  pub summed-same : (i d sum : ℕ) → i < length ms → IsSummed i sum → get_or ms i d ≤ m → IsSummed (i + 1) sum
  summed-same i d sum lt before less =
      let one = ap (λ z. (if z then f (get_or ms i d) else 0) + greater f m (drop (i + 1) ms)) (le-ltb m (get_or ms i d) less) in
      omega (arith, left-at i d lt, one, before)

  pub summed-end : (i sum : ℕ) → length ms ≤ i → IsSummed i sum → stopped sum ≡ stopped (greater f m ms)
  summed-end i sum past before = omega (arith, before, ap (greater f m) (drop_all i ms past))

-- ---- the parts of a tree
module _ (g : RankInput) (input : IsCountInput g.counts) (here : Part) (part : IsPart g.counts here) (p : ℕ) (state : p < states_of g.counts.dfa.now) (after : List ℕ) where
  pub earlier-plain : (r : Earlier) (before : ℕ) → IsUnmarked g.tuple.now here.at (here.at + here.len) → r.number ≡ number_marked here.table.now p after → r.state ≡ unmarked_at here.table.now p → IsEarlier g here p after r before before
  earlier-plain r before none number step =
      let s = text (tree_of g.counts here) in
      let same : word_over g.tuple.now here.at s ≡ plain s = over-plain g.tuple.now here.at s (subst (λ n. IsUnmarked g.tuple.now here.at (here.at + n)) part.len_is none) in
      record {
        number = subst (λ w. IsNumberBefore g.counts.dfa.now s p after w r.number r.state) (sym same) (plain-number g.counts.dfa.now input.automaton s here.table.now part.table_is p r.number r.state after state number step);
        cost = omega arith;
      }

  pub earlier-byte : (r : Earlier) (before b : ℕ) → IsNodeAt g.counts.store.now here.id.index (Byte b) → IsNumberBefore g.counts.dfa.now (b ∷ []) p after ((mark_of g.tuple.now here.at, b) ∷ []) r.number r.state → IsEarlier g here p after r before before
  earlier-byte r before b node number = record {
    number = subst (λ x. IsNumberBefore g.counts.dfa.now x p after (word_over g.tuple.now here.at x) r.number r.state) (sym (ap text node)) number;
    cost = omega arith;
  }

  -- ---- a pair in which the tuple has a mark
  module _ (left right : Part) (is_left : IsPart g.counts left) (is_right : IsPart g.counts right) (whole : tree_of g.counts here ≡ Fork (tree_of g.counts left) (tree_of g.counts right)) (left_at : left.at ≡ here.at) (right_at : right.at ≡ here.at + left.len)
      (ways : List ℕ) (filled : (q : ℕ) → q < states_of g.counts.dfa.now → get_or ways q 0 ≡ number_over right.table.now q after) (some : IsMarkedBetween g.tuple.now here.at (here.at + here.len)) where
    abbrev s : List ℕ
    s = text (tree_of g.counts left)

    abbrev u : List ℕ
    u = text (tree_of g.counts right)

    joined : text (tree_of g.counts here) ≡ s ++ u
    joined = ap text whole

    words : word_in g here ≡ word_in g left ++ word_in g right
    words =
        ap (word_over g.tuple.now here.at) joined ∙ word-append (mark_of g.tuple.now) here.at s u
        ∙ ap (λ n. word_over g.tuple.now n s ++ word_over g.tuple.now (here.at + length s) u) (sym left_at)
        ∙ ap (λ n. word_in g left ++ word_over g.tuple.now n u) (sym (right_at ∙ ap (λ n. here.at + n) is_left.len_is))

    marked : 0 < mark_count (word_in g left ++ word_in g right)
    marked =
        subst (λ w. 0 < mark_count w) words
        (over-count g.tuple.now here.at (text (tree_of g.counts here)) some.position some.after (subst (λ n. some.position < here.at + n) part.len_is some.before) some.some)

    cost-of : (before now mid later : ℕ) → now ≡ before + 2 → mid ≤ now + 2 * (height (tree_of g.counts left) * mark_count (word_in g left)) → later ≤ mid + 2 * (height (tree_of g.counts right) * mark_count (word_in g right))
        → later ≤ before + 2 * (height (tree_of g.counts here) * mark_count (word_in g here))
    cost-of before now mid later step first second =
        subst (λ w. later ≤ before + 2 * (height (tree_of g.counts here) * mark_count w)) (sym words)
        (pair-cost (height (tree_of g.counts here)) (height (tree_of g.counts left)) (height (tree_of g.counts right)) before now mid later (word_in g left) (word_in g right) (ap height whole) step marked first second)

    number-of : (n : ℕ) (o : Option ℕ) → IsNumberBefore g.counts.dfa.now (s ++ u) p after (word_in g left ++ word_in g right) n o → IsNumberBefore g.counts.dfa.now (text (tree_of g.counts here)) p after (word_in g here) n o
    number-of n o h =
        subst (λ w. IsNumberBefore g.counts.dfa.now (text (tree_of g.counts here)) p after w n o) (sym words)
        (subst (λ x. IsNumberBefore g.counts.dfa.now x p after (word_in g left ++ word_in g right) n o) (sym joined) h)

    pub earlier-pair : (first second r : Earlier) (q before now mid later : ℕ) → now ≡ before + 2 → IsEarlier g left p ways first now mid → first.state ≡ Some q → IsEarlier g right q after second mid later
        → r.number ≡ stopped (first.number + second.number) → r.state ≡ second.state → IsEarlier g here p after r before later
    earlier-pair first second r q before now mid later step one goes two sum ends = record {
      number = number-of r.number r.state
          (joined-number g.counts.dfa.now input.automaton s u right.table.now is_right.table_is after ways filled p q first.number second.number r.number r.state (word_in g left) (word_in g right)
          (subst (λ o. IsNumberBefore g.counts.dfa.now s p ways (word_in g left) first.number o) goes one.number)
          (subst (λ o. IsNumberBefore g.counts.dfa.now u q after (word_in g right) second.number o) (sym ends) two.number) sum);
      cost = cost-of before now mid later step one.cost two.cost;
    }

    pub earlier-ended : (first : Earlier) (before now mid : ℕ) → now ≡ before + 2 → IsEarlier g left p ways first now mid → first.state ≡ None → IsEarlier g here p after first before mid
    earlier-ended first before now mid step one goes = record {
      number = number-of first.number first.state
          (subst (λ o. IsNumberBefore g.counts.dfa.now (s ++ u) p after (word_in g left ++ word_in g right) first.number o) (sym goes)
          (ended-number g.counts.dfa.now input.automaton s u right.table.now is_right.table_is after ways filled p first.number (word_in g left) (word_in g right)
          (subst (λ o. IsNumberBefore g.counts.dfa.now s p ways (word_in g left) first.number o) goes one.number)));
      cost = cost-of before now mid mid step one.cost (omega arith);
    }
