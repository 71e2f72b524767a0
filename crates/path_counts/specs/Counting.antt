-- Counting tables as lists of rows, what they say of a text, and how two are composed.
use Rattle.std.specs.Prelude.{◌≡◌, ℕ, ◌+◌, ◌*◌, ◌<◌, ◌≤◌, ◌^◌, ◌==◌, List, [], ◌∷◌, length, Option, Some, None, All, AllPairs, slice_index_or, if◌then◌else◌}
use Rattle.marker_dfa.specs.Deterministic.{DeterministicAutomaton, states_of, marks_of, next_of, path, and_then}
use Rattle.state_tables.specs.Meaning.{plain}
use Rattle.path_counts.specs.declared.count.Count.{Count}
use Rattle.path_counts.specs.Paths.{IsPathNumber, most, stopped}

-- the state reached with every mark 0, if any, and the numbers of those reached with some other mark
pub record CountRow : Type 0 where
  pub unmarked : Option ℕ
  pub counts : List Count

abbrev pub no_row : CountRow
no_row = record { unmarked = None; counts = [] }

-- the row of the state p
abbrev pub row_at : List CountRow → ℕ → CountRow
row_at t p = slice_index_or t p no_row

-- the state reached from p with every mark 0
abbrev pub unmarked_at : List CountRow → ℕ → Option ℕ
unmarked_at t p = (row_at t p).unmarked

-- the states reached from p with some other mark, and their numbers
abbrev pub counts_at : List CountRow → ℕ → List Count
counts_at t p = (row_at t p).counts

-- the number of the state q
abbrev pub number_in : List Count → ℕ → ℕ
number_in [] q = 0
number_in (c ∷ cs) q = (if c.state == q then c.number else 0) + number_in cs q

-- the number from p to q
abbrev pub number_at : List CountRow → ℕ → ℕ → ℕ
number_at t p q = number_in (counts_at t p) q

-- numbers of states below n, each state at most once, in order, and no number 0
pub record AreCounts (n : ℕ) (cs : List Count) : Type 0 where
  pub rising : AllPairs (λ c d. c.state < d.state) cs
  pub within : All (λ c. c.state < n) cs
  pub some : All (λ c. 0 < c.number) cs
  pub low : All (λ c. c.number ≤ most) cs

-- the counts of some numbers, by state
pub record IsCollected (sums : List ℕ) (cs : List Count) : Type 0 where
  pub counts : AreCounts (length sums) cs
  pub numbers : (q : ℕ) → q < length sums → number_in cs q ≡ slice_index_or sums q 0

-- a table of n states that reaches none but these
pub record IsCountTableOf (n : ℕ) (t : List CountRow) : Type 0 where
  pub states : length t ≡ n
  pub few : n < 2 ^ 16
  pub unmarked_within : (p q : ℕ) → unmarked_at t p ≡ Some q → q < n
  pub counts : (p : ℕ) → AreCounts n (counts_at t p)

-- Counting table: for each state the one reached over the text with every mark 0, and for each two states the number of
-- marked texts with some other mark that lead from the one to the other
pub record IsCountTable (a : DeterministicAutomaton) (s : List ℕ) (t : List CountRow) : Type 0 where
  pub shape : IsCountTableOf (states_of a) t
  pub bytes : All (λ b. b < 256) s
  pub unmarked : (p : ℕ) → p < states_of a → unmarked_at t p ≡ path (next_of a) (plain s) p
  pub numbers : (p q : ℕ) → p < states_of a → q < states_of a → IsPathNumber a p s q (number_at t p q)

-- 1 where the state, if any, is q
abbrev pub hits : Option ℕ → ℕ → ℕ
hits None q = 0
hits (Some r) q = if r == q then 1 else 0

-- the number to q from a state, if any, with some mark
abbrev pub number_from : List CountRow → Option ℕ → ℕ → ℕ
number_from t None q = 0
number_from t (Some r) q = number_at t r q

-- the number to q from r with any marks
abbrev pub any_number_at : List CountRow → ℕ → ℕ → ℕ
any_number_at t r q = number_at t r q + hits (unmarked_at t r) q

-- each number times that to q from its state with any marks
abbrev pub number_through : List CountRow → List Count → ℕ → ℕ
number_through right [] q = 0
number_through right (c ∷ cs) q = c.number * any_number_at right c.state q + number_through right cs q

-- the row of two texts joined, from the row of the left text
pub record IsComposedRow (right : List CountRow) (left row : CountRow) : Type 0 where
  pub unmarked : row.unmarked ≡ and_then left.unmarked (unmarked_at right)
  pub numbers : (q : ℕ) → q < length right → number_in row.counts q ≡ stopped (number_from right left.unmarked q + number_through right left.counts q)

-- the table of two texts joined
pub record IsComposed (left right t : List CountRow) : Type 0 where
  pub states : length t ≡ length left
  pub rows : (p : ℕ) → p < length left → IsComposedRow right (row_at left p) (row_at t p)

-- how many of the marks other than 0 lead from p over b to q
abbrev pub number_by_marks : DeterministicAutomaton → ℕ → ℕ → ℕ → List ℕ → ℕ
number_by_marks a p b q [] = 0
number_by_marks a p b q (m ∷ ms) = (if m == 0 then 0 else hits (next_of a p m b) q) + number_by_marks a p b q ms

-- the row of a byte
pub record IsByteRow (a : DeterministicAutomaton) (b p : ℕ) (row : CountRow) : Type 0 where
  pub unmarked : row.unmarked ≡ next_of a p 0 b
  pub numbers : (q : ℕ) → q < states_of a → number_in row.counts q ≡ stopped (number_by_marks a p b q (marks_of a p b))

-- each number times what goes on from its state
abbrev pub number_onward : List Count → List ℕ → ℕ
number_onward [] after = 0
number_onward (c ∷ cs) after = c.number * slice_index_or after c.state 0 + number_onward cs after

-- what goes on from the state, if any
abbrev pub onward_from : Option ℕ → List ℕ → ℕ
onward_from None after = 0
onward_from (Some q) after = slice_index_or after q 0
