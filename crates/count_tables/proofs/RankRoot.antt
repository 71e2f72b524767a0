-- How many answers come before a tuple, from the number of texts before its word.
use Rattle.std.proofs.Common.{◌≡◌, ℕ, ◌+◌, ◌*◌, ◌<◌, ◌≤◌, inl, inr, false, List, [], ◌∷◌, ◌++◌, length, get_or, ap, sym, subst, ◌∙◌, arith, All, AllPairs, Contains, Option, Some, None}
use Rattle.std.specs.Prelude.{◌↔◌, IfSome}
use Rattle.std.proofs.lemmas.Bool.{cases_lt}
use Rattle.std.proofs.lemmas.List.Elements.{All-nil, Contains-append_left, Contains-append_right}
use Rattle.span_types.specs.Fibonacci.{height_limit, looks_limit}
use Rattle.span_types.specs.Marks.{Comes, Lies, mark_of, spans_of}
use Rattle.span_types.specs.Places.{IsTuple}
use Rattle.span_types.specs.Words.{Precedes, ended, marked, mark_count}
use Rattle.span_types.proofs.PieceLaws.{word-end}
use Rattle.span_types.proofs.WordLaws.{comes-rises, length-ended, mark-first, mark-last, marks-few, precedes, rises, rises-comes}
use Rattle.slp_model.specs.Tree.{height, text}
use Rattle.marker_dfa.specs.Deterministic.{DeterministicAutomaton, IsDeterministic, ends_of, marks_of, next_of, path, states_of}
use Rattle.state_tables.proofs.Meanings.{path-within}
use Rattle.span_enum.specs.Members.{Tuple, AreAnswersOf}
use Rattle.span_enum.specs.Tuples.{word_over}
use Rattle.span_enum.proofs.Exists.{answers-exist}
use Rattle.path_counts.specs.Paths.{most, stopped}
use Rattle.path_counts.specs.Runs.{at_state, runs}
use Rattle.count_tables.specs.Earlier.{IsEarlier, IsNumberBefore, greater_endings, number_before, number_to_end, word_in}
use Rattle.count_tables.specs.Number.{endings}
use Rattle.count_tables.specs.TextIndex.{IsCountInput, IsPart, tree_of}
use Rattle.count_tables.specs.Rank.{CountsBefore, IsRank}
use Rattle.count_tables.specs.declared.part.Part.{Part}
use Rattle.count_tables.specs.declared.rank.RankInput.{RankInput}
use Rattle.count_tables.specs.declared.rank.Earlier.{Earlier}
use Rattle.count_tables.proofs.BeforeLemmas.{cut-before, last-before}
use Rattle.count_tables.proofs.Finding.{end-ways, looks-within}
use Rattle.count_tables.proofs.Numbers.{answers-words, endings_at, is-tuple, words-rise}

-- a tuple that lies in the text comes before any tuple where its word does
comes-words : (s : List ℕ) (u t : Tuple) → IsTuple u → IsTuple t → length u ≡ length t → Lies (length s) u → Comes u t ↔ Precedes (marked s u) (marked s t)
comes-words s u t hu ht e lies = (to, λ h. rises-comes u t (1 + length (ended s)) e hu.spans ht.spans (rises (mark_of u) (mark_of t) 1 (ended s) h))
  where
    to : Comes u t → Precedes (marked s u) (marked s t)
    to c = elim (cases_lt c.index 1) [
      | inl first ↦ let zero_is : c.index ≡ 0 = omega (arith, first) in absurd (omega (arith, c.greater, ap (mark_of u) zero_is, mark-first u hu.spans))
      | inr from ↦ elim (cases_lt c.index (1 + length (ended s))) [
        | inl within ↦ precedes (mark_of u) (mark_of t) 1 (ended s) (comes-rises u t (1 + length (ended s)) e c from within)
        | inr past ↦ absurd (omega (arith, c.greater, mark-last (length s) u c.index lies (omega (arith, past, length-ended s))))
      ]
    ]

module _ (a : DeterministicAutomaton) (auto : IsDeterministic a) (s : List ℕ) (short : length s ≤ 281474976710656) (bytes : All (λ b. b < 256) s) (t : Tuple) (is : IsTuple t) (size : length t ≡ a.variables) where
  counts-before : (ts : List Tuple) → AreAnswersOf a s ts → CountsBefore ts t (number_before (runs (next_of a) (marks_of a) false (endings_at a) s 0) (marked s t))
  counts-before ts are =
      let words = answers-words a auto s short ts are in
      let c = cut-before (marked s) (marked s t) ts (subst (AllPairs Precedes) (sym words) (words-rise a auto s short)) in
      let comes : (u : Tuple) → Contains ts u → Comes u t ↔ Precedes (marked s u) (marked s t) = λ u among.
      let m = (are.members u).0 among in
      comes-words s u t (is-tuple a auto s short u m) is (m.size ∙ sym size) m.lies in
      record {
        prefix = c.prefix;
        rest = c.rest;
        cut = c.cut;
        number = ap (λ ws. number_before ws (marked s t)) (sym words) ∙ c.number;
        before = λ u among. (comes u (subst (λ xs. Contains xs u) (sym c.cut) (Contains-append_left c.prefix c.rest u among))).1 (c.before u among);
        others = λ u among h. c.others u among ((comes u (subst (λ xs. Contains xs u) (sym c.cut) (Contains-append_right c.prefix c.rest u among))).0 h);
      }

  -- by the number of the words before its word
  rank-is : (n : ℕ) → n ≡ stopped (number_before (runs (next_of a) (marks_of a) false (endings_at a) s 0) (marked s t)) → IsRank a s t n
  rank-is n e =
      let ts = answers-exist a auto s bytes short in
      record {
        answers = ts.0;
        all = ts.1;
        rank = number_before (runs (next_of a) (marks_of a) false (endings_at a) s 0) (marked s t);
        counts = counts-before ts.0 ts.1;
        number = e;
      }

  at-end : (o : Option ℕ) (n m : ℕ) → n + number_before (at_state (endings_at a) o) ((m, 256) ∷ []) ≡ number_to_end a n o m
  at-end None n m = omega arith
  at-end (Some q) n m = ap (λ k. n + k) (last-before m (ends_of a q))

  -- by the number over the text
  pub rank-over : (after : List ℕ) (n r end : ℕ) (o : Option ℕ) → ((q : ℕ) → q < states_of a → get_or after q 0 ≡ stopped (endings a q)) → IsNumberBefore a s 0 after (word_over t 1 s) n o
      → end ≡ length s + 1 → r ≡ stopped (number_to_end a n o (mark_of t end)) → IsRank a s t r
  rank-over after n r end o are number at e =
      let m = mark_of t end in
      let index : 1 + length s ≡ end = omega (arith, at) in
      let word : marked s t ≡ word_over t 1 s ++ (m, 256) ∷ [] = word-end (mark_of t) s ∙ ap (λ i. word_over t 1 s ++ (mark_of t i, 256) ∷ []) index in
      rank-is r
      (e ∙ ap stopped (sym (at-end o n m)) ∙ sym (number.before (endings_at a) (end-ways a auto s short bytes after are) ((m, 256) ∷ []))
      ∙ ap (λ w. stopped (number_before (runs (next_of a) (marks_of a) false (endings_at a) s 0) w)) (sym word))

-- ---- on the empty text
pub empty-rank : (a : DeterministicAutomaton) → IsDeterministic a → (t : Tuple) → IsTuple t → length t ≡ a.variables → (r : ℕ) → r ≤ most → r ≡ greater_endings a 0 (mark_of t 1) → IsRank a [] t r
empty-rank a auto t is size r low e =
    let whole : r ≡ stopped r = omega (arith, low) in
    rank-is a auto [] (omega arith) (All-nil (λ b. b < 256)) t is size r (whole ∙ ap stopped (e ∙ sym (last-before (mark_of t 1) (ends_of a 0))))

-- ---- from the root
module _ (g : RankInput) (input : IsCountInput g.counts) (here : Part) (part : IsPart g.counts here) (at : here.at ≡ 1) (r : Earlier) (after : List ℕ) (before later : ℕ) (earlier : IsEarlier g here 0 after r before later) (is : IsTuple g.tuple.now)
    (size : length g.tuple.now ≡ g.counts.dfa.now.variables) where
  pub root-rank : (n : ℕ) → ((q : ℕ) → q < states_of g.counts.dfa.now → get_or after q 0 ≡ stopped (endings g.counts.dfa.now q)) → n ≡ stopped (number_to_end g.counts.dfa.now r.number r.state (mark_of g.tuple.now (here.len + 1)))
      → IsRank g.counts.dfa.now (text (tree_of g.counts here)) g.tuple.now n
  root-rank n are e =
      rank-over g.counts.dfa.now input.automaton (text (tree_of g.counts here)) (omega (arith, part.low, part.len_is, at)) part.table_is.bytes g.tuple.now is size after r.number n (here.len + 1) r.state are
      (subst (λ i. IsNumberBefore g.counts.dfa.now (text (tree_of g.counts here)) 0 after (word_over g.tuple.now i (text (tree_of g.counts here))) r.number r.state) at earlier.number) (ap (λ k. k + 1) part.len_is) e

  pub root-state : IfSome r.state (λ q. q < states_of g.counts.dfa.now)
  root-state = by r.state earlier.number.ends
    where
      by : (o : Option ℕ) → o ≡ path (next_of g.counts.dfa.now) (word_in g here) 0 → IfSome o (λ q. q < states_of g.counts.dfa.now)
      by None e = tt
      by (Some q) e = path-within g.counts.dfa.now input.automaton 0 q (word_in g here) input.automaton.has_start (sym e)

  -- one table lookup at the root, and those of the marks
  pub root-looks : (start : ℕ) → before ≡ start + 1 → height (tree_of g.counts here) ≤ height_limit (length (text (tree_of g.counts here))) → later ≤ start + looks_limit g.counts.dfa.now.variables (length (text (tree_of g.counts here)))
  root-looks start step high =
      let few : mark_count (word_in g here) ≤ 2 * length g.tuple.now = marks-few (length g.tuple.now) (spans_of g.tuple.now) here.at (text (tree_of g.counts here)) in
      looks-within g.counts.dfa.now.variables (length (text (tree_of g.counts here))) (height (tree_of g.counts here)) (mark_count (word_in g here)) start later high (omega (arith, few, size)) (omega (arith, earlier.cost, step))
