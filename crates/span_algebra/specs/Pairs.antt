-- Lists of pairs of states, and steps between them.
use Rattle.std.specs.Prelude.{◌≡◌, ℕ, ◌<◌, ◌≤◌, ◌⊎◌, List, length, Some, slice_get, Contains}
use Rattle.marker_nfa.specs.declared.nfa.Edge.{Edge}
use Rattle.span_algebra.specs.declared.pairs.Pair.{Pair}
use Rattle.span_algebra.specs.declared.pairs.PairStep.{PairStep}
use Rattle.span_algebra.specs.TreeAutomaton.{pair_of}

-- the occurrence of a pair
abbrev pub number_of : Pair → ℕ
number_of p = pair_of p.left p.right

-- no pair occurs twice
abbrev pub AreDistinct : List Pair → Type 0
AreDistinct pairs = (i j : ℕ) (p : Pair) → slice_get pairs i ≡ Some p → slice_get pairs j ≡ Some p → i ≡ j

-- no pair occurs twice, and there are at most `most`
pub record AreFew (most : ℕ) (pairs : List Pair) : Type 0 where
  pub apart : AreDistinct pairs
  pub few : length pairs ≤ most

-- what Q says is added to the list, after what it had
pub record Gains (most : ℕ) (Q : Pair → Type 0) (old new : List Pair) : Type 0 where
  pub few : AreFew most new
  pub stays : (i : ℕ) (p : Pair) → slice_get old i ≡ Some p → slice_get new i ≡ Some p
  pub only : (p : Pair) → Contains new p → Contains old p ⊎ Q p
  pub all : (p : Pair) → Q p → Contains new p

-- there is no room for what Q says: more than `most` pairs are in the list or satisfy Q
pub record NoRoom (most : ℕ) (Q : Pair → Type 0) (pairs : List Pair) : Type 0 where
  pub others : List Pair
  pub many : most < length others
  pub apart : AreDistinct others
  pub from : (p : Pair) → Contains others p → Contains pairs p ⊎ Q p

-- the pair to which a step leads
abbrev pub IsTarget : PairStep → Pair → Type 0
IsTarget s p = p ≡ s.to

abbrev pub IsTargetAmong : List PairStep → Pair → Type 0
IsTargetAmong steps p = (s : PairStep) × Contains steps s × IsTarget s p

-- a step between pairs, as an edge between their indices in the list
pub record IsNumbered (pairs : List Pair) (s : PairStep) (x : Edge) : Type 0 where
  pub from : slice_get pairs x.from ≡ Some s.from
  pub to : slice_get pairs x.to ≡ Some s.to
  pub mark : x.mark ≡ s.mark
  pub letters : x.letters ≡ s.letters

-- the same for some step of a list
abbrev pub IsNumberedAmong : List Pair → List PairStep → Edge → Type 0
IsNumberedAmong pairs steps x = (s : PairStep) × Contains steps s × IsNumbered pairs s x

-- both pairs of a step are in the list
abbrev pub IsBetween : List Pair → PairStep → Type 0
IsBetween pairs s = Contains pairs s.from × Contains pairs s.to
