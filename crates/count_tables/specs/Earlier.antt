-- How many texts come before one with given marks, part by part.
use Rattle.std.specs.Prelude.{◌≡◌, ℕ, ◌+◌, ◌*◌, ◌≤◌, ◌==◌, ◌&&◌, ◌||◌, nat_lt, Bool, false, List, [], ◌∷◌, ◌++◌, length, filter, Option, Some, None, if◌then◌else◌}
use Rattle.span_types.specs.Words.{Marked, mark_count}
use Rattle.slp_model.specs.Tree.{text, height}
use Rattle.marker_dfa.specs.Deterministic.{DeterministicAutomaton, states_of, next_of, marks_of, ends_of, path}
use Rattle.span_enum.specs.Tuples.{word_over}
use Rattle.path_counts.specs.Paths.{stopped}
use Rattle.path_counts.specs.Runs.{at_state, runs}
use Rattle.count_tables.specs.TextIndex.{AreWays, tree_of}
use Rattle.count_tables.specs.declared.part.Part.{Part}
use Rattle.count_tables.specs.declared.rank.RankInput.{RankInput}
use Rattle.count_tables.specs.declared.rank.Earlier.{Earlier}

-- whether w comes before v: where their marks first differ, w has the greater one
abbrev pub is_before : Marked → Marked → Bool
is_before [] v = false
is_before (x ∷ w) [] = false
is_before (x ∷ w) (y ∷ v) = nat_lt y.0 x.0 || (x.0 == y.0 && is_before w v)

-- how many of the texts come before v
abbrev pub number_before : List Marked → Marked → ℕ
number_before [] v = 0
number_before (w ∷ ws) v = (if is_before w v then 1 else 0) + number_before ws v

-- how many marks greater than m may end a text in the state
abbrev pub greater_endings : DeterministicAutomaton → ℕ → ℕ → ℕ
greater_endings a q m = length (filter (λ n. nat_lt m n) (ends_of a q))

-- the number of texts up to the end, where the tuple has the mark m
abbrev pub number_to_end : DeterministicAutomaton → ℕ → Option ℕ → ℕ → ℕ
number_to_end a number None m = number
number_to_end a number (Some q) m = number + greater_endings a q m

-- w leads over s from p to the state, or nowhere if there is none. Take the texts over s from p, each followed by one that goes on from its
-- state. Those that come before w followed by v are as many as `number` says, and those that follow w and come before v
pub record IsNumberBefore (a : DeterministicAutomaton) (s : List ℕ) (p : ℕ) (after : List ℕ) (w : Marked) (number : ℕ) (state : Option ℕ) : Type 0 where
  pub ends : state ≡ path (next_of a) w p
  pub before : (k : ℕ → List Marked) → AreWays (states_of a) k after → (v : Marked)
      → stopped (number_before (runs (next_of a) (marks_of a) false k s p) (w ++ v)) ≡ stopped (number + number_before (at_state k state) v)

-- the bytes of a part with the marks of the tuple
abbrev pub word_in : RankInput → Part → Marked
word_in g h = word_over g.tuple.now h.at (text (tree_of g.counts h))

-- the number for the tuple's marks over the part, and the table lookups that find it
pub record IsEarlier (g : RankInput) (here : Part) (p : ℕ) (after : List ℕ) (r : Earlier) (before later : ℕ) : Type 0 where
  pub number : IsNumberBefore g.counts.dfa.now (text (tree_of g.counts here)) p after (word_in g here) r.number r.state
  pub cost : later ≤ before + 2 * (height (tree_of g.counts here) * mark_count (word_in g here))
