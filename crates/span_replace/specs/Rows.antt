-- Chosen, Longest and Replaced at some lists and texts.
use Rattle.std.specs.Prelude.{◌≡◌, ℕ, List, [], ◌∷◌, Some, None, codes}
use Rattle.span_types.specs.declared.tuple.Span.{Span}
use Rattle.span_enum.specs.Members.{Tuple}
use Rattle.span_replace.specs.Chosen.{chosen}
use Rattle.span_replace.specs.Longest.{longest}
use Rattle.span_replace.specs.Replaced.{replaced}

-- the span [i,j), and the tuple that has it
abbrev pub span : ℕ → ℕ → Span
span i j = record { start = i; end = j }

abbrev pub answer : ℕ → ℕ → Tuple
answer i j = Some (span i j) ∷ []

-- each a of abracadabra
abbrev pub letters : List Span
letters = span 1 2 ∷ span 4 5 ∷ span 6 7 ∷ span 8 9 ∷ span 11 12 ∷ []

-- of all runs of a in aa, also empty ones, those that are chosen
abbrev pub runs : List Span
runs = span 1 1 ∷ span 1 2 ∷ span 2 2 ∷ span 2 3 ∷ span 3 3 ∷ []

-- the runs of a in baaac, also the empty ones, in mark order
abbrev pub runs_of_a : List Tuple
runs_of_a = answer 1 1 ∷ answer 2 2 ∷ answer 2 3 ∷ answer 2 4 ∷ answer 2 5 ∷ answer 3 3 ∷ answer 3 4 ∷ answer 3 5 ∷ answer 4 4 ∷ answer 4 5 ∷ answer 5 5 ∷ answer 6 6 ∷ []

-- the longest of them
abbrev pub longest_runs : List Span
longest_runs = span 1 1 ∷ span 2 5 ∷ span 6 6 ∷ []

pub record ReplaceRows : Type 0 where
  pub each_letter : chosen (answer 1 2 ∷ answer 4 5 ∷ answer 6 7 ∷ answer 8 9 ∷ answer 11 12 ∷ []) ≡ letters
  pub each_run : chosen (answer 1 1 ∷ answer 1 2 ∷ answer 1 3 ∷ answer 2 2 ∷ answer 2 3 ∷ answer 3 3 ∷ []) ≡ runs
  pub overlapping : chosen (answer 1 3 ∷ answer 2 4 ∷ answer 3 5 ∷ []) ≡ span 1 3 ∷ span 3 5 ∷ []
  pub without_span : chosen (answer 1 2 ∷ (None ∷ []) ∷ []) ≡ span 1 2 ∷ []
  pub longest_run : longest runs_of_a ≡ longest_runs
  pub longest_overlapping : longest (answer 1 3 ∷ answer 1 4 ∷ answer 2 6 ∷ answer 4 5 ∷ []) ≡ span 1 4 ∷ span 4 5 ∷ []
  pub longest_without_span : longest (answer 1 1 ∷ answer 1 2 ∷ (None ∷ []) ∷ []) ≡ span 1 2 ∷ []
  pub letters_replaced : replaced (codes "abracadabra") letters (codes "X") ≡ codes "XbrXcXdXbrX"
  pub runs_replaced : replaced (codes "aa") runs (codes "-") ≡ codes "-----"
  pub longest_runs_replaced : replaced (codes "baaac") longest_runs (codes "x") ≡ codes "xbxcx"
  pub none_replaced : replaced (codes "aa") [] (codes "-") ≡ codes "aa"
