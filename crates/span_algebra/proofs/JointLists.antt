-- Lists of joint marks.
use Rattle.std.proofs.Common.{◌≡◌, ℕ, ◌+◌, ◌<◌, ◌↔◌, List, [], Contains, refl, sym, ap, subst, ◌∙◌, length, get_or}
use Rattle.std.proofs.lemmas.List.{get_or_default}
use Rattle.marker_nfa.specs.Parts.{Adds}
use Rattle.marker_nfa.proofs.Adding.{EachBefore, each_end, from_none}
use Rattle.span_algebra.specs.declared.joints.Half.{Half}
use Rattle.span_algebra.specs.declared.joints.Joint.{Joint}
use Rattle.span_algebra.specs.declared.joints.Meeting.{Meeting}
use Rattle.span_algebra.specs.Joints.{IsJointAmong, IsJointWith, half_by, left_key, right_part}

-- an element of a list
pub in-list : {X : Type 0} (l : List X) (k : ℕ) (d : X) → k < length l → Contains l (get_or l k d)
in-list l k d lt = (k, lt, get_or_default l k (get_or l k d) d lt)

abbrev pub Made : Meeting → List Half → ℕ → Joint → Type 0
Made t halves m x = (y : Half) × Contains halves y × IsJointWith m (left_key t m) y x

-- the joints that are listed are those of the marks
pub all-joints : (t : Meeting) (lefts rights : List ℕ) (halves : List Half) (joints : List Joint) (k : ℕ) → ((h : Half) → Contains halves h ↔ (m : ℕ) × Contains rights m × (h ≡ half_by t m)) → k ≡ length lefts
    → Adds [] joints (EachBefore (Made t halves) lefts k) → (j : Joint) → Contains joints j ↔ IsJointAmong t lefts rights j
all-joints t lefts rights halves joints k are e h j = ((λ c. to (all.0 c)), (λ g. all.1 (from g)))
  where
    all : Contains joints j ↔ (m : ℕ) × Contains lefts m × Made t halves m j
    all = from_none [] joints (λ x. (m : ℕ) × Contains lefts m × Made t halves m x) refl (each_end [] joints (Made t halves) lefts k e h) j

    to : (m : ℕ) × Contains lefts m × Made t halves m j → IsJointAmong t lefts rights j
    to g =
        let m = g.0 in
        let y = g.2.0 in
        let w = (are y).0 g.2.1 in
        let key : left_key t m ≡ y.key = g.2.2.0 in
        let is = g.2.2.1 in
        let half : y ≡ half_by t w.0 = w.2 in
        let left : j.left ≡ m = ap (λ (x : Joint). x.left) is in
        let right : j.right ≡ w.0 = ap (λ (x : Joint). x.right) is ∙ ap (λ (x : Half). x.mark) half in
        record {
          in_left = subst (λ (x : ℕ). Contains lefts x) (sym left) g.1;
          in_right = subst (λ (x : ℕ). Contains rights x) (sym right) w.1;
          joint = record {
            keys = ap (left_key t) left ∙ key ∙ ap (λ (x : Half). x.key) half ∙ ap (λ (x : ℕ). (half_by t x).key) (sym right);
            whole = ap (λ (x : Joint). x.mark) is ∙ ap (λ (x : ℕ). m + x) (ap (λ (x : Half). x.part) half ∙ ap (right_part t) (sym right)) ∙ ap (λ (x : ℕ). x + right_part t j.right) (sym left);
          };
        }

    from : IsJointAmong t lefts rights j → (m : ℕ) × Contains lefts m × Made t halves m j
    from g =
        let w : j.mark ≡ j.left + right_part t j.right = g.joint.whole in
        (j.left, g.in_left, (half_by t j.right, (are (half_by t j.right)).1 (j.right, g.in_right, refl), (g.joint.keys, λ i. record { mark = w i; left = j.left; right = j.right })))
