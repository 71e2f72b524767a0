-- How the marks over a part are found, by its node.
use Rattle.std.proofs.Common.{◌≡◌, ℕ, ◌+◌, ◌<◌, ◌≤◌, List, [], ◌∷◌, ◌++◌, length, get_or, false, ap, sym, subst, ◌∙◌, arith}
use Rattle.span_types.specs.Words.{Marked}
use Rattle.span_types.specs.Writes.{write_mark}
use Rattle.slp_model.specs.declared.Node.TheVariants.{Byte}
use Rattle.slp_model.specs.Tree.{Fork, text, height}
use Rattle.slp_model.specs.Nodes.{IsNodeAt}
use Rattle.marker_dfa.specs.Deterministic.{marks_of, next_of, states_of}
use Rattle.state_tables.specs.Meaning.{plain}
use Rattle.state_tables.proofs.Paths.{length-bytes}
use Rattle.span_enum.specs.Tuples.{write_word}
use Rattle.path_counts.specs.Paths.{most, stopped}
use Rattle.path_counts.specs.Counting.{CountRow, IsCountTable, counts_at, number_onward, onward_from, unmarked_at}
use Rattle.count_tables.specs.TextIndex.{AreWays, Finds, IsCountInput, IsPart, IsPassed, IsTextAt, number_marked, number_over, tree_of}
use Rattle.count_tables.specs.declared.part.CountInput.{CountInput}
use Rattle.count_tables.specs.declared.part.Part.{Part}
use Rattle.count_tables.specs.declared.nth.Way.{Way}
use Rattle.count_tables.proofs.Finding.{pair-cost, write-none}
use Rattle.span_enum.proofs.Words.{write_word-append}
use Rattle.count_tables.proofs.Places.{joined-index, left-number, over-runs, passed-index, index-marked}
use Rattle.path_counts.specs.Runs.{runs}

-- the number with any marks is below the greatest, or stopped there
below-most : (t : List CountRow) (p i : ℕ) (after : List ℕ) → i < number_over t p after → i < most
below-most t p i after lt = by (number_onward (counts_at t p) after + onward_from (unmarked_at t p) after) lt
  where
    by : (n : ℕ) → i < stopped n → i < most
    by n h = omega (arith, h)

module _ (g : CountInput) (input : IsCountInput g) (here : Part) (part : IsPart g here) (after : List ℕ) (from to : Way) (state : from.state < states_of g.dfa.now) where
  -- ---- without a mark
  pub finds-passed : (before : ℕ) → from.index < number_over here.table.now from.state after → IsPassed here.table.now after from to → Finds g here after from to before before
  finds-passed before among passed =
      let s = text (tree_of g here) in
      record {
        word = plain s;
        index = passed-index g.dfa.now input.automaton s here.table.now part.table_is from.state to.state from.index to.index after state passed.step passed.index passed.behind (below-most here.table.now from.state from.index after among);
        written = passed.kept ∙ sym (write-none here.at s from.tuple);
        cost = omega arith;
      }

  -- ---- a byte
  pub finds-byte : (before b m : ℕ) → IsNodeAt g.store.now here.id.index (Byte b) → IsTextAt g.dfa.now (b ∷ []) from.state after from.index ((m, b) ∷ []) to.state to.index → to.tuple ≡ write_mark m here.at from.tuple
      → Finds g here after from to before before
  finds-byte before b m node index written = record {
    word = (m, b) ∷ [];
    index = subst (λ x. IsTextAt g.dfa.now x from.state after from.index ((m, b) ∷ []) to.state to.index) (sym (ap text node)) index;
    written = written;
    cost = omega arith;
  }

  -- ---- a pair, whose text has a mark
  module _ (left right : Part) (is_left : IsPart g left) (is_right : IsPart g right) (whole : tree_of g here ≡ Fork (tree_of g left) (tree_of g right)) (left_at : left.at ≡ here.at) (right_at : right.at ≡ here.at + left.len)
      (ways : List ℕ) (filled : (q : ℕ) → q < states_of g.dfa.now → get_or ways q 0 ≡ number_over right.table.now q after) (low : (q : ℕ) → get_or after q 0 ≤ most) where
    joined : IsCountTable g.dfa.now (text (tree_of g left) ++ text (tree_of g right)) here.table.now
    joined = subst (λ x. IsCountTable g.dfa.now (text x) here.table.now) whole part.table_is

    pub left-among : from.index < number_over here.table.now from.state after → from.index < number_over left.table.now from.state ways
    left-among among =
        subst (λ n. from.index < n) (left-number g.dfa.now input.automaton (text (tree_of g left)) (text (tree_of g right)) right.table.now is_right.table_is after ways filled here.table.now left.table.now from.state joined is_left.table_is low state) among

    pub finds-pair : (middle : Way) (before now mid later : ℕ) → from.index < number_marked here.table.now from.state after → now ≡ before + 2 → Finds g left ways from middle now mid → Finds g right after middle to mid later
        → Finds g here after from to before later
    finds-pair middle before now mid later among step first second =
        let s = text (tree_of g left) in
        let u = text (tree_of g right) in
        let w = first.word in
        let v = second.word in
        let index : IsTextAt g.dfa.now (s ++ u) from.state after from.index (w ++ v) to.state to.index =
        joined-index g.dfa.now input.automaton s u right.table.now is_right.table_is after ways filled from.state middle.state to.state from.index middle.index to.index w v first.index second.index in
        let some = index-marked g.dfa.now input.automaton (s ++ u) here.table.now joined from.state to.state from.index to.index after (w ++ v) state low index among in
        let there : left.at + length w ≡ right.at = omega (arith, left_at, right_at, is_left.len_is, length-bytes w, ap length first.index.bytes) in
        record {
          word = w ++ v;
          index = subst (λ x. IsTextAt g.dfa.now (text x) from.state after from.index (w ++ v) to.state to.index) (sym whole) index;
          written =
              second.written
              ∙ ap (λ t. write_word right.at v t) first.written
              ∙ ap (λ n. write_word n v (write_word left.at w from.tuple)) (sym there)
              ∙ sym (write_word-append left.at w v from.tuple)
              ∙ ap (λ n. write_word n (w ++ v) from.tuple) left_at;
          cost = pair-cost (height (tree_of g here)) (height (tree_of g left)) (height (tree_of g right)) before now mid later w v (ap height whole) step some first.cost second.cost;
        }

-- the index over a byte is below the number of all texts that go on
pub byte-among : (g : CountInput) → IsCountInput g → (here : Part) → IsPart g here → (after : List ℕ) (p i b : ℕ) → p < states_of g.dfa.now → IsNodeAt g.store.now here.id.index (Byte b) → i < number_over here.table.now p after
    → (k : ℕ → List Marked) → AreWays (states_of g.dfa.now) k after → i < length (runs (next_of g.dfa.now) (marks_of g.dfa.now) false k (b ∷ []) p)
byte-among g input here part after p i b lt node among k are =
    let is : IsCountTable g.dfa.now (b ∷ []) here.table.now = subst (λ x. IsCountTable g.dfa.now (text x) here.table.now) node part.table_is in
    omega (arith, among, over-runs g.dfa.now input.automaton (b ∷ []) here.table.now is k after are p lt)
