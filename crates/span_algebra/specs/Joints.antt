-- How a mark of the left and one of the right become one mark of both.
use Rattle.std.specs.Prelude.{◌≡◌, ℕ, ◌+◌, ◌-◌, ◌<◌, ◌≤◌, List, length, Contains}
use Rattle.std.specs.List.Sorted.{IsNonDecreasingBy}
use Rattle.span_algebra.specs.declared.joints.Half.{Half}
use Rattle.span_algebra.specs.declared.joints.Joint.{Joint}
use Rattle.span_algebra.specs.declared.joints.Meeting.{Meeting}
use Rattle.span_algebra.specs.Making.{AreIndices, AreIndicesOf, mark_by}
use Rattle.span_algebra.specs.Renaming.{both_names}

-- the markers that a mark of the right has of the left's variables
abbrev pub shared_by : Meeting → ℕ → ℕ
shared_by t m = mark_by t.right_in_left.items m

-- the markers that a mark of the left has of the right's variables
abbrev pub left_key : Meeting → ℕ → ℕ
left_key t m = mark_by t.left_in_right.items m

-- the same of a mark of the right, whose own variables are lost
abbrev pub right_key : Meeting → ℕ → ℕ
right_key t m = left_key t (shared_by t m)

-- the markers that a mark of the right has of its own variables, as a mark of both
abbrev pub right_part : Meeting → ℕ → ℕ
right_part t m = mark_by t.right_in_both.items m - shared_by t m

abbrev pub half_by : Meeting → ℕ → Half
half_by t m = record { key = right_key t m; part = right_part t m; mark = m }

-- the two agree on the variables of both sides, and their combination is this mark
pub record IsJoint (t : Meeting) (left right mark : ℕ) : Type 0 where
  pub keys : left_key t left ≡ right_key t right
  pub whole : mark ≡ left + right_part t right

-- the mark of the left and the one of the right as one
abbrev pub joint_by : ℕ → Half → Joint
joint_by left h = record { mark = left + h.part; left = left; right = h.mark }

-- the joint of a mark of the left, whose markers of the right's variables are `key`, and one of the right
abbrev pub IsJointWith : ℕ → ℕ → Half → Joint → Type 0
IsJointWith left key h j = (key ≡ h.key) × (j ≡ joint_by left h)

-- keys are ascending or equal
abbrev pub RiseByKey : List Half → Type 0
RiseByKey halves = IsNonDecreasingBy (λ h. h.key) halves

-- the joint of two marks of these lists
pub record IsJointAmong (t : Meeting) (lefts rights : List ℕ) (j : Joint) : Type 0 where
  pub in_left : Contains lefts j.left
  pub in_right : Contains rights j.right
  pub joint : IsJoint t j.left j.right j.mark

-- the indices are those of at most eight variables, and the right's markers of the left's variables are among its own
pub record MayMeet (t : Meeting) : Type 0 where
  pub few_left : length t.left_in_right.items ≤ 8
  pub few_right : length t.right_in_left.items ≤ 8
  pub few_both : length t.right_in_both.items ≤ 8
  pub places_left : AreIndices t.left_in_right.items
  pub places_right : AreIndices t.right_in_left.items
  pub places_both : AreIndices t.right_in_both.items
  pub above : (m : ℕ) → shared_by t m ≤ mark_by t.right_in_both.items m

-- the sum of a mark of the left and what any mark of the right adds fits 16 bits
abbrev pub AreShortWith : Meeting → List ℕ → Type 0
AreShortWith t lefts = (x y : ℕ) → Contains lefts x → x + right_part t y < 65536

-- the indices of the names of each side
pub record IsMeeting (va vb : List (List ℕ)) (t : Meeting) : Type 0 where
  pub left : AreIndicesOf vb va t.left_in_right.items
  pub right : AreIndicesOf va vb t.right_in_left.items
  pub both : AreIndicesOf (both_names va vb) vb t.right_in_both.items
