-- The answer at an index, found from the root.
use Rattle.std.proofs.Common.{◌≡◌, ℕ, ◌+◌, ◌<◌, ◌≤◌, List, length, get_or, ap, sym, subst, ◌∙◌, arith, Some, None}
use Rattle.span_types.specs.Fibonacci.{height_limit, looks_limit}
use Rattle.span_types.specs.Writes.{blanks, write_mark}
use Rattle.slp_model.specs.Tree.{height, text}
use Rattle.marker_dfa.specs.Deterministic.{ends_of, states_of}
use Rattle.state_tables.proofs.Meanings.{path-within}
use Rattle.span_enum.specs.Members.{Tuple}
use Rattle.span_enum.specs.Tuples.{write_word}
use Rattle.path_counts.specs.Paths.{most, stopped}
use Rattle.count_tables.specs.Number.{endings}
use Rattle.count_tables.specs.TextIndex.{Finds, IsCountInput, IsNth, IsPart, IsTextAt, number_over, tree_of}
use Rattle.count_tables.specs.declared.part.CountInput.{CountInput}
use Rattle.count_tables.specs.declared.part.Part.{Part}
use Rattle.count_tables.specs.declared.nth.Way.{Way}
use Rattle.count_tables.proofs.Finding.{answer-at, ended-index, none-over, root-cost}

module _ (g : CountInput) (input : IsCountInput g) (here : Part) (part : IsPart g here) (at : here.at ≡ 1) (after : List ℕ) (are : (q : ℕ) → q < states_of g.dfa.now → get_or after q 0 ≡ stopped (endings g.dfa.now q))
    (first : Way) (state : first.state ≡ 0) where
  short : length (text (tree_of g here)) ≤ 281474976710656
  short = omega (arith, part.low, part.len_is, at)

  pub root-none : number_over here.table.now first.state after ≤ first.index → first.index < most → IsNth g.dfa.now (text (tree_of g here)) (first.index + 1) None
  root-none past low =
      none-over g.dfa.now input.automaton (text (tree_of g here)) short part.table_is.bytes here.table.now part.table_is after first.index are (subst (λ p. number_over here.table.now p after ≤ first.index) state past) low

  module _ (to : Way) (before later : ℕ) (found : Finds g here after first to before later) where
    index : IsTextAt g.dfa.now (text (tree_of g here)) 0 after first.index found.word to.state to.index
    index = subst (λ p. IsTextAt g.dfa.now (text (tree_of g here)) p after first.index found.word to.state to.index) state found.index

    pub root-state : to.state < states_of g.dfa.now
    root-state = path-within g.dfa.now input.automaton 0 to.state found.word input.automaton.has_start index.ends

    pub root-end : to.index < endings g.dfa.now to.state
    root-end = omega (arith, index.behind, are to.state root-state)

    pub root-nth : (result : Tuple) → first.tuple ≡ blanks g.dfa.now.variables → result ≡ write_mark (get_or (ends_of g.dfa.now to.state) to.index 0) (here.len + 1) to.tuple → IsNth g.dfa.now (text (tree_of g here)) (first.index + 1) (Some result)
    root-nth result none written =
        let m = get_or (ends_of g.dfa.now to.state) to.index 0 in
        let answer = answer-at g.dfa.now input.automaton (text (tree_of g here)) short part.table_is.bytes first.index m found.word index.bytes
        (ended-index g.dfa.now input.automaton (text (tree_of g here)) short part.table_is.bytes after first.index to.state to.index found.word are root-end index) in
        let same : result ≡ answer.tuple =
        written
        ∙ ap (λ n. write_mark m (n + 1) to.tuple) part.len_is
        ∙ ap (λ t. write_mark m (length (text (tree_of g here)) + 1) t) (found.written ∙ ap (λ n. write_word n found.word first.tuple) at ∙ ap (λ t. write_word 1 found.word t) none)
        ∙ answer.written in
        subst (λ t. IsNth g.dfa.now (text (tree_of g here)) (first.index + 1) (Some t)) (sym same) answer.nth

    pub root-looks : (start : ℕ) → before ≡ start + 1 → height (tree_of g here) ≤ height_limit (length (text (tree_of g here))) → later ≤ start + looks_limit g.dfa.now.variables (length (text (tree_of g here)))
    root-looks start step high =
        let m = get_or (ends_of g.dfa.now to.state) to.index 0 in
        root-cost g.dfa.now input.automaton (text (tree_of g here)) short part.table_is.bytes first.index m (height (tree_of g here)) start later found.word index.bytes
        (ended-index g.dfa.now input.automaton (text (tree_of g here)) short part.table_is.bytes after first.index to.state to.index found.word are root-end index) high (omega (arith, found.cost, step))
