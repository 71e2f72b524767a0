-- The automaton of a formula from its outline.
use Rattle.std.proofs.Common.{◌≡◌, ◌≢◌, ℕ, suc, ◌+◌, ◌-◌, ◌<◌, ◌↔◌, inl, inr, sym, ap, subst, ◌∙◌, arith, Bool, List, [], length, map, Contains, AllPairs, slice_index_or}
use Rattle.span_types.specs.FormulaTree.{FormulaTree, sets, var_bound}
use Rattle.formula_law.specs.Positions.{HasSet, IsEdge, IsEnd}
use Rattle.formula_law.proofs.Ranges.{InRange, first_range, last_range, follow_range}
use Rattle.marker_nfa.specs.Automaton.{Automaton}
use Rattle.marker_nfa.specs.Occurrences.{IsPositionAutomaton}
use Rattle.marker_nfa.specs.declared.nfa.Edge.{Edge}
use Rattle.marker_nfa.specs.declared.nfa.End.{End}
use Rattle.marker_nfa.specs.declared.lists.Hop.{Hop}
use Rattle.marker_nfa.specs.declared.outline.Outline.{Outline}
use Rattle.marker_nfa.specs.Parts.{IsOutline, LeadWithin, edge_of}
use Rattle.marker_nfa.proofs.Making.{letters_length}
use Rattle.marker_nfa.proofs.Mapped.{map_has, has_map, pairs_map}
use Rattle.marker_nfa.proofs.Letters.{set_is, set_at}

-- an edge leads to an occurrence
pub edge_to : (f : FormulaTree) (o m p : ℕ) → IsEdge f o m p → InRange 1 (sets f) p
edge_to f o m p (inl e) = first_range f 1 m p e.1
edge_to f o m p (inr e) = (follow_range f 1 o m p e).to

-- and comes from the start or an occurrence
pub edge_from : (f : FormulaTree) (o m p : ℕ) → IsEdge f o m p → o < suc (sets f)
edge_from f o m p (inl e) = omega (arith, e.0)
edge_from f o m p (inr e) = let r = (follow_range f 1 o m p e).from in omega (arith, r.high)

pub end_state : (f : FormulaTree) (o m : ℕ) → IsEnd f o m → o < suc (sets f)
end_state f o m (inl e) = omega (arith, e.0)
end_state f o m (inr e) = let r = last_range f 1 o m e in omega (arith, r.high)

pub lead_within : (f : FormulaTree) (o : Outline) → IsOutline f o → LeadWithin (length o.letters.items) o.hops.items
lead_within f o i h c =
    let r = edge_to f h.from h.mark h.to ((i.hops h).0 c) in
    let l : length o.letters.items ≡ sets f = ap length i.letters ∙ letters_length f in
    (r.low, omega (arith, r.high, l))

-- exactly the edges of the formula, each with the byte set of the occurrence that it leads to
edge_is : (f : FormulaTree) (o : Outline) → IsOutline f o → (e : Edge) → Contains (map (edge_of o.letters.items) o.hops.items) e ↔ IsEdge f e.from e.mark e.to × HasSet f 1 e.to e.letters
edge_is f o i e = ((λ c. to (map_has (edge_of o.letters.items) (record { from = 0; mark = 0; to = 0 }) o.hops.items e c)), λ s. from s)
  where
    with_set : (h : Hop) → Contains o.hops.items h → IsEdge f h.from h.mark h.to × HasSet f 1 h.to (slice_index_or o.letters.items (h.to - 1) [])
    with_set h c =
        let g = (i.hops h).0 c in
        (g, subst (λ (l : List (List Bool)). HasSet f 1 h.to (slice_index_or l (h.to - 1) [])) (sym i.letters) (set_at f 1 h.to (edge_to f h.from h.mark h.to g)))

    to : (h : Hop) × Contains o.hops.items h × (e ≡ edge_of o.letters.items h) → IsEdge f e.from e.mark e.to × HasSet f 1 e.to e.letters
    to s = subst (λ (x : Edge). IsEdge f x.from x.mark x.to × HasSet f 1 x.to x.letters) (sym s.2) (with_set s.0 s.1)

    from : IsEdge f e.from e.mark e.to × HasSet f 1 e.to e.letters → Contains (map (edge_of o.letters.items) o.hops.items) e
    from s =
        let h : Hop = record { from = e.from; mark = e.mark; to = e.to } in
        let c = has_map (edge_of o.letters.items) o.hops.items h ((i.hops h).1 s.0) in
        let l : slice_index_or o.letters.items (e.to - 1) [] ≡ e.letters = ap (λ (x : List (List Bool)). slice_index_or x (e.to - 1) []) i.letters ∙ sym (set_is f 1 e.to e.letters s.1) in
        let q : edge_of o.letters.items h ≡ e = λ j. record { from = e.from; mark = e.mark; letters = l j; to = e.to } in
        subst (λ (x : Edge). Contains (map (edge_of o.letters.items) o.hops.items) x) q c

same_hop : (letters : List (List Bool)) (g h : Hop) → edge_of letters g ≡ edge_of letters h → g ≡ h
same_hop letters g h e =
    let a : g.from ≡ h.from = ap (λ (x : Edge). x.from) e in
    let b : g.mark ≡ h.mark = ap (λ (x : Edge). x.mark) e in
    let c : g.to ≡ h.to = ap (λ (x : Edge). x.to) e in
    λ j. record { from = a j; mark = b j; to = c j }

pub built : (f : FormulaTree) (o : Outline) (a : Automaton) → IsOutline f o → a.states ≡ length o.letters.items + 1 → a.variables ≡ var_bound f → a.edges ≡ map (edge_of o.letters.items) o.hops.items → a.ends ≡ o.ends.items → IsPositionAutomaton f a
built f o a i s v e n = record {
  states = omega (arith, s, ap length i.letters ∙ letters_length f);
  variables = v;
  edges = subst (λ (l : List Edge). (x : Edge) → Contains l x ↔ IsEdge f x.from x.mark x.to × HasSet f 1 x.to x.letters) (sym e) (edge_is f o i);
  ends = subst (λ (l : List End). (x : End) → Contains l x ↔ IsEnd f x.state x.mark) (sym n) i.ends;
  edges_once = subst (λ (l : List Edge). AllPairs (λ x y. x ≢ y) l) (sym e) (pairs_map (edge_of o.letters.items) (record { from = 0; mark = 0; to = 0 }) o.hops.items (same_hop o.letters.items) i.hops_once);
  ends_once = subst (λ (l : List End). AllPairs (λ x y. x ≢ y) l) (sym n) i.ends_once;
}
