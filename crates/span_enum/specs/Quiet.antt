-- States from which the rest of a text has no marks.
use Rattle.std.specs.Prelude.{◌≡◌, ℕ, ◌<◌, true, List, bit_and, Option, Some, None}
use Rattle.span_types.specs.Words.{Marked}
use Rattle.formula_law.specs.Law.{bytes_of}
use Rattle.marker_dfa.specs.Deterministic.{DeterministicAutomaton, states_of}
use Rattle.state_tables.specs.StateSet.{member}
use Rattle.state_tables.specs.Table.{Row, unmarked_of, marked_of}
use Rattle.state_tables.specs.Meaning.{plain}
use Rattle.span_enum.specs.Letters.{reached}
use Rattle.span_enum.specs.Words.{IsGreatestMark}

-- a text may end in the state, and only without a mark
abbrev pub EndsQuietly : DeterministicAutomaton → ℕ → Type 0
EndsQuietly a q = IsGreatestMark a q 256 1 65536 0 0

-- in each of these states
abbrev pub AreQuietFinals : DeterministicAutomaton → ℕ → Type 0
AreQuietFinals a quiet = (q : ℕ) → member quiet q ≡ true → (q < states_of a) × EndsQuietly a q

-- from q the run without marks over s is the only one into a goal, and the text ends there without a mark
pub record IsQuiet (a : DeterministicAutomaton) (q : ℕ) (s : List ℕ) (goals : ℕ) : Type 0 where
  pub last : ℕ
  pub ends : reached a q (plain s) ≡ Some last
  pub goal : member goals last ≡ true
  pub sole : (w : Marked) (r : ℕ) → bytes_of w ≡ s → reached a q w ≡ Some r → member goals r ≡ true → w ≡ plain s
  pub unmarked : EndsQuietly a last

-- the same for each state of the set
abbrev pub AreQuiet : DeterministicAutomaton → ℕ → List ℕ → ℕ → Type 0
AreQuiet a quiet s goals = (q : ℕ) → member quiet q ≡ true → IsQuiet a q s goals

-- by the table no run with marks leads from q into a goal, and the one without marks leads into a quiet state
pub record StaysQuiet (rows : List Row) (q goals quiet : ℕ) : Type 0 where
  pub none : bit_and (marked_of rows q) goals ≡ 0
  pub next : ℕ
  pub step : unmarked_of rows q ≡ Some next
  pub goal : member quiet next ≡ true

-- some states of `from` of this kind
abbrev pub StayQuiet : List Row → ℕ → ℕ → ℕ → ℕ → Type 0
StayQuiet rows from goals quiet set = (q : ℕ) → member set q ≡ true → (member from q ≡ true) × StaysQuiet rows q goals quiet

-- q is reached from p over s, and over u the run without marks is the only one from q into a goal and leads into a quiet state
pub record LeadsQuiet (a : DeterministicAutomaton) (p : ℕ) (s u : List ℕ) (goals quiet q : ℕ) : Type 0 where
  pub word : Marked
  pub bytes : bytes_of word ≡ s
  pub before : reached a p word ≡ Some q
  pub next : ℕ
  pub step : reached a q (plain u) ≡ Some next
  pub goal : member quiet next ≡ true
  pub sole : (w : Marked) (r : ℕ) → bytes_of w ≡ u → reached a q w ≡ Some r → member goals r ≡ true → w ≡ plain u

-- the same for each state of the set
abbrev pub LeadQuiet : DeterministicAutomaton → ℕ → List ℕ → List ℕ → ℕ → ℕ → ℕ → Type 0
LeadQuiet a p s u goals quiet set = (q : ℕ) → member set q ≡ true → LeadsQuiet a p s u goals quiet q

-- the state after a run is known, or else the text ends there only without a mark
abbrev pub EndsIn : DeterministicAutomaton → Option ℕ → ℕ → Type 0
EndsIn a (Some q) last = q ≡ last
EndsIn a None last = EndsQuietly a last
