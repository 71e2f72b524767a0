-- Tree automaton: the occurrences of an operation, from the states of its operands' automata.
use Rattle.std.specs.Prelude.{◌≡◌, ℕ, suc, ◌+◌, ◌*◌, ◌^◌, ◌<◌, ◌⊎◌, List, length, Some, Contains}
use Rattle.marker_dfa.specs.Deterministic.{DeterministicAutomaton, states_of, next_of, ends_of}
use Rattle.span_algebra.specs.Renaming.{both_names, mark_for}

-- occurrence o is a state of an operand whose states begin at `base`, or the start, which has what the operand's start has
abbrev pub IsAt : ℕ → ℕ → ℕ → Type 0
IsAt base o state = (o ≡ base + state) ⊎ ((o ≡ 0) × (state ≡ 0))

-- a step of an operand, whose mark keeps the markers of the names `to`
pub record CopiedStep (to from : List (List ℕ)) (base : ℕ) (a : DeterministicAutomaton) (o m b p : ℕ) : Type 0 where
  pub state : ℕ
  pub next : ℕ
  pub own_mark : ℕ
  pub at : IsAt base o state
  pub byte : b < 256
  pub step : next_of a state own_mark b ≡ Some next
  pub mark : m ≡ mark_for to from own_mark
  pub leads : p ≡ base + next

-- an end of an operand, in the same way
pub record CopiedEnd (to from : List (List ℕ)) (base : ℕ) (a : DeterministicAutomaton) (o m : ℕ) : Type 0 where
  pub state : ℕ
  pub own_mark : ℕ
  pub at : IsAt base o state
  pub may_end : Contains (ends_of a state) own_mark
  pub mark : m ≡ mark_for to from own_mark

-- Union: the occurrences are 0, the states of the left and the states of the right
abbrev pub union_size : DeterministicAutomaton → DeterministicAutomaton → ℕ
union_size a b = suc (states_of a) + states_of b

-- Union: the occurrences are a start, the states of the left automaton and then those of the right one
abbrev pub UnionStep : DeterministicAutomaton → List (List ℕ) → DeterministicAutomaton → List (List ℕ) → ℕ → ℕ → ℕ → ℕ → Type 0
UnionStep a va b vb o m c p = CopiedStep (both_names va vb) va 1 a o m c p ⊎ CopiedStep (both_names va vb) vb (suc (states_of a)) b o m c p

-- an occurrence of the union accepts at the end of a text where its source does
abbrev pub UnionEnd : DeterministicAutomaton → List (List ℕ) → DeterministicAutomaton → List (List ℕ) → ℕ → ℕ → Type 0
UnionEnd a va b vb o m = CopiedEnd (both_names va vb) va 1 a o m ⊎ CopiedEnd (both_names va vb) vb (suc (states_of a)) b o m

-- Project: the occurrences are the states of the source
abbrev pub ProjectStep : DeterministicAutomaton → List (List ℕ) → List (List ℕ) → ℕ → ℕ → ℕ → ℕ → Type 0
ProjectStep a va keep o m b p = CopiedStep keep va 0 a o m b p

-- an occurrence of the projection accepts at the end of a text where its source does
abbrev pub ProjectEnd : DeterministicAutomaton → List (List ℕ) → List (List ℕ) → ℕ → ℕ → Type 0
ProjectEnd a va keep o m = CopiedEnd keep va 0 a o m

-- Join: the occurrences are the pairs of a left and a right state. A state is less than 1024, so this numbers them.
abbrev pub pair_of : ℕ → ℕ → ℕ
pair_of left right = 1024 * left + right

-- more than the number of each pair
abbrev pub join_size : DeterministicAutomaton → ℕ
join_size a = 1024 * states_of a

-- both sides step, each by its own variables' markers
pub record JoinStep (a : DeterministicAutomaton) (va : List (List ℕ)) (b : DeterministicAutomaton) (vb : List (List ℕ)) (o m c p : ℕ) : Type 0 where
  pub left : ℕ
  pub right : ℕ
  pub next_left : ℕ
  pub next_right : ℕ
  pub from : o ≡ pair_of left right
  pub byte : c < 256
  pub mark : m < 4 ^ length (both_names va vb)
  pub left_step : next_of a left (mark_for va (both_names va vb) m) c ≡ Some next_left
  pub right_step : next_of b right (mark_for vb (both_names va vb) m) c ≡ Some next_right
  pub leads : p ≡ pair_of next_left next_right

-- both sides may end, each with its own variables' markers
pub record JoinEnd (a : DeterministicAutomaton) (va : List (List ℕ)) (b : DeterministicAutomaton) (vb : List (List ℕ)) (o m : ℕ) : Type 0 where
  pub left : ℕ
  pub right : ℕ
  pub from : o ≡ pair_of left right
  pub mark : m < 4 ^ length (both_names va vb)
  pub left_end : Contains (ends_of a left) (mark_for va (both_names va vb) m)
  pub right_end : Contains (ends_of b right) (mark_for vb (both_names va vb) m)
