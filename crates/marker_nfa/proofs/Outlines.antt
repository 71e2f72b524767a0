-- The edges and ends of a formula from those of its part.
use Rattle.std.proofs.Common.{◌≡◌, ℕ, ◌+◌, ◌<◌, ◌↔◌, ◌⊎◌, inl, inr, refl, sym, ap, subst, arith, List, [], Contains}
use Rattle.span_types.specs.FormulaTree.{FormulaTree}
use Rattle.formula_law.specs.Positions.{IsNull, IsFirst, IsEdge, IsEnd}
use Rattle.formula_law.proofs.Fault.{plain}
use Rattle.marker_nfa.specs.Parts.{IsSmall}
use Rattle.marker_nfa.specs.declared.nfa.End.{End}
use Rattle.marker_nfa.specs.declared.lists.Hop.{Hop}
use Rattle.marker_nfa.specs.declared.parts.Part.{Part}
use Rattle.marker_nfa.specs.Parts.{Adds, IsPart, IsHop, IsFollowHop}
use Rattle.marker_nfa.proofs.Adding.{from_none, both_added}
use Rattle.marker_nfa.proofs.Weights.{border_le, weight_below}

abbrev start : End
start = record { state = 0; mark = 0 }

pub first_short : (f : FormulaTree) (n : ℕ) (p : Part) → IsSmall f → IsPart f n p → (y : End) → Contains p.firsts.items y → 0 + y.mark < 65536
first_short f n p s ip y h = let l = border_le 8 f n y.mark y.state (plain f s.fun) s.below (inl ((ip.firsts_are y).0 h)) in let t = weight_below 8 f in omega (arith, l, t)

pub edges_are : (f : FormulaTree) (p : Part) (old one two three : List Hop) → old ≡ [] → Adds old one (IsFollowHop f 1) → Adds one two (IsHop (record { state = 0; mark = 0 }) p.firsts.items) → ((h : Hop) → Contains three h ↔ Contains two h) → IsPart f 1 p → (h : Hop) → Contains three h ↔ IsEdge f h.from h.mark h.to
edges_are f p old one two three none a b same ip h = ((λ c. to ((all h).0 ((same h).0 c))), λ e. (same h).1 ((all h).1 (from e)))
  where
    all : (x : Hop) → Contains two x ↔ (IsFollowHop f 1 x ⊎ IsHop start p.firsts.items x)
    all = from_none old two (λ x. IsFollowHop f 1 x ⊎ IsHop start p.firsts.items x) none (both_added old one two (IsFollowHop f 1) (IsHop start p.firsts.items) a b)

    entered : (x : Hop) → IsHop start p.firsts.items x → (x.from ≡ 0) × IsFirst f 1 x.mark x.to
    entered x s =
        let y : End = s.0 in
        let z : y.mark ≡ 0 + y.mark = omega arith in
        subst (λ (w : Hop). (w.from ≡ 0) × IsFirst f 1 w.mark w.to) (sym s.2) (refl, subst (λ (m : ℕ). IsFirst f 1 m y.state) z ((ip.firsts_are y).0 s.1))

    to : IsFollowHop f 1 h ⊎ IsHop start p.firsts.items h → IsEdge f h.from h.mark h.to
    to (inl x) = inr x
    to (inr x) = inl (entered h x)

    from : IsEdge f h.from h.mark h.to → IsFollowHop f 1 h ⊎ IsHop start p.firsts.items h
    from (inr x) = inl x
    from (inl x) =
        let z : h.mark ≡ 0 + h.mark = omega arith in
        inr (record { state = h.to; mark = h.mark }, (ip.firsts_are (record { state = h.to; mark = h.mark })).1 x.1, λ i. record { from = x.0 i; mark = z i; to = h.to })

pub ends_are : (f : FormulaTree) (p : Part) (two three : List End) → Adds p.lasts.items two (λ x. (y : ℕ) × Contains p.nulls.items y × (x ≡ record { state = 0; mark = y })) → ((e : End) → Contains three e ↔ Contains two e) → IsPart f 1 p → (e : End) → Contains three e ↔ IsEnd f e.state e.mark
ends_are f p two three a same ip e = ((λ c. to ((a e).0 ((same e).0 c))), λ x. (same e).1 ((a e).1 (from x)))
  where
    at_start : ((y : ℕ) × Contains p.nulls.items y × (e ≡ record { state = 0; mark = y })) → (e.state ≡ 0) × IsNull f e.mark
    at_start s = (ap (λ (x : End). x.state) s.2, subst (λ (m : ℕ). IsNull f m) (sym (ap (λ (x : End). x.mark) s.2)) ((ip.nulls_are s.0).0 s.1))

    to : Contains p.lasts.items e ⊎ ((y : ℕ) × Contains p.nulls.items y × (e ≡ record { state = 0; mark = y })) → IsEnd f e.state e.mark
    to (inl c) = inr ((ip.lasts_are e).0 c)
    to (inr s) = inl (at_start s)

    from : IsEnd f e.state e.mark → Contains p.lasts.items e ⊎ ((y : ℕ) × Contains p.nulls.items y × (e ≡ record { state = 0; mark = y }))
    from (inr l) = inl ((ip.lasts_are e).1 l)
    from (inl n) = inr (e.mark, (ip.nulls_are e.mark).1 n.1, λ i. record { state = n.0 i; mark = e.mark })
