-- The part of a list in order that has one key.
use Rattle.std.proofs.Common.{◌≡◌, ℕ, ◌+◌, ◌-◌, ◌<◌, ◌≤◌, ◌↔◌, ◌⊎◌, inl, inr, List, Contains, sym, ap, ◌∙◌, length, get_or, arith, true, false, leb, ltb, leb-true, leb-false, ltb-true, ltb-false}
use Rattle.std.specs.List.{slice_range}
use Rattle.std.specs.List.Sorted.{IsPartitionPoint}
use Rattle.std.proofs.lemmas.Bool.{cases_lt}
use Rattle.std.proofs.lemmas.List.Edits.{length-between, get_or-between}
use Rattle.marker_nfa.specs.Parts.{Adds}
use Rattle.marker_nfa.proofs.Adding.{adds_same}
use Rattle.span_algebra.specs.declared.joints.Half.{Half}
use Rattle.span_algebra.specs.declared.joints.Joint.{Joint}
use Rattle.span_algebra.specs.Joints.{IsJointWith, joint_by}

abbrev pub IsBelow : List Half → ℕ → ℕ → Type 0
IsBelow l key = IsPartitionPoint (λ h. ltb h.key key ≡ true) (λ h. ltb h.key key ≡ false) l

abbrev pub IsUpTo : List Half → ℕ → ℕ → Type 0
IsUpTo l key = IsPartitionPoint (λ h. leb h.key key ≡ true) (λ h. leb h.key key ≡ false) l

module _ (l : List Half) (key a b : ℕ) (below : IsBelow l key a) (up : IsUpTo l key b) (la : a ≤ length l) (lb : b ≤ length l) where
  pub in-order : a ≤ b
  in-order = by-case (cases_lt b a)
    where
      none : Half
      none = record { key = 0; part = 0; mark = 0 }

      by-case : (b < a) ⊎ (a ≤ b) → a ≤ b
      by-case (inl lt) =
          let less = ltb-true (get_or l b none).key key (below.0 b none (omega arith) lt) in
          let more = leb-false (get_or l b none).key key (up.1 b none (omega arith) (omega arith)) in
          omega (arith, less, more)
      by-case (inr le) = le

  from-below : (k : ℕ) (h : Half) → key ≡ (get_or l k h).key → a ≤ k
  from-below k h e = by-case (cases_lt k a)
    where
      by-case : (k < a) ⊎ (a ≤ k) → a ≤ k
      by-case (inl lt) = let less = ltb-true (get_or l k h).key key (below.0 k h (omega arith) lt) in omega (arith, less, e)
      by-case (inr le) = le

  up-to : (k : ℕ) (h : Half) → k < length l → key ≡ (get_or l k h).key → k < b
  up-to k h lt e = by-case (cases_lt k b)
    where
      by-case : (k < b) ⊎ (b ≤ k) → k < b
      by-case (inl less) = less
      by-case (inr le) = let more = leb-false (get_or l k h).key key (up.1 k h le lt) in omega (arith, more, e)

  pub with-key : (h : Half) → Contains (slice_range l a b) h ↔ Contains l h × (key ≡ h.key)
  with-key h = (to, from)
    where
      long : length (slice_range l a b) ≡ b - a
      long = length-between l a b lb

      to : Contains (slice_range l a b) h → Contains l h × (key ≡ h.key)
      to c =
          let lt : a + c.0 < b = omega (arith, long, c.1) in
          let at : get_or l (a + c.0) h ≡ h = sym (get_or-between l a b c.0 h lt) ∙ c.2 in
          let least = ltb-false (get_or l (a + c.0) h).key key (below.1 (a + c.0) h (omega arith) (omega (arith, lt))) in
          let most = leb-true (get_or l (a + c.0) h).key key (up.0 (a + c.0) h (omega arith) lt) in
          let same = ap (λ (x : Half). x.key) at in
          ((a + c.0, omega (arith, lt), at), omega (arith, least, most, same))

      from : Contains l h × (key ≡ h.key) → Contains (slice_range l a b) h
      from g =
          let k = g.0.0 in
          let e : key ≡ (get_or l k h).key = g.1 ∙ ap (λ (x : Half). x.key) (sym g.0.2) in
          let low = from-below k h e in
          let high = up-to k h g.0.1 e in
          let back : a + (k - a) ≡ k = omega (arith, low) in
          (k - a, omega (arith, long, low, high), get_or-between l a b (k - a) h (omega (arith, low, high)) ∙ ap (λ (n : ℕ). get_or l n h) back ∙ g.0.2)

-- the joints of those with the key are those that agree
pub of-found : (old new : List Joint) (left key : ℕ) (l found : List Half) → ((h : Half) → Contains found h ↔ Contains l h × (key ≡ h.key)) → Adds old new (λ j. (h : Half) × Contains found h × (j ≡ joint_by left h))
    → Adds old new (λ j. (h : Half) × Contains l h × IsJointWith left key h j)
of-found old new left key l found are h = adds_same old new (λ j. (y : Half) × Contains found y × (j ≡ joint_by left y)) (λ j. (y : Half) × Contains l y × IsJointWith left key y j) (λ j g. let w = (are g.0).0 g.1 in (g.0, w.0, (w.1, g.2))) (λ j g. (g.0, (are g.0).1 (g.1, g.2.0), g.2.1)) h
