-- The position automaton accepts what the formula does, and keeps what holds of every automaton.
use Rattle.std.proofs.Common.{◌≡◌, ℕ, suc, ◌^◌, ◌<◌, ◌≤◌, ◌↔◌, ◌⊎◌, inl, inr, refl, sym, subst, arith, true, false, List, [], ◌∷◌, length, max, nat_eq}
use Rattle.std.proofs.lemmas.Bool.Decides.{eqb_tells}
use Rattle.span_types.specs.FormulaTree.{FormulaTree, Set, Empty, Cat, Alt, Star, Plus, Opt, Capture, Fun, var_bound, has_var}
use Rattle.formula_law.specs.Accepts.{MarkedText, Reaches, Steps, Accepts}
use Rattle.formula_law.specs.Law.{VarsBelow, IsTupleText, bytes_of}
use Rattle.formula_law.specs.Positions.{HasSet, IsEdge, IsEnd}
use Rattle.formula_law.proofs.Tuples.{accepts-tuples}
use Rattle.marker_nfa.proofs.Mapped.{length_map}
use Rattle.formula_law.proofs.Fault.{plain}
use Rattle.marker_nfa.specs.Automaton.{Automaton, Moves, AcceptsText, IsMarked, IsAutomaton}
use Rattle.marker_nfa.specs.Occurrences.{IsPositionAutomaton, IsWithinLimits, AcceptsAnswersOf}
use Rattle.marker_nfa.specs.declared.nfa.Edge.{Edge}
use Rattle.marker_nfa.proofs.Built.{edge_from, edge_to, end_state}
use Rattle.marker_nfa.proofs.Weights.{weight_below, null_le, border_le, follow_le}

-- the moves of the position automaton are the formula's steps
pub step_to : (f : FormulaTree) (a : Automaton) → IsPositionAutomaton f a → (o m b p : ℕ) → Moves a o m b p → Steps f o m b p
step_to f a i o m b p s =
    let g = (i.edges s.edge).0 s.among in
    let e1 = subst (λ (n : ℕ). IsEdge f n s.edge.mark s.edge.to) s.from g.0 in
    let e2 = subst (λ (n : ℕ). IsEdge f o n s.edge.to) s.mark e1 in
    record {
      edge = subst (λ (n : ℕ). IsEdge f o m n) s.to e2;
      members = s.edge.letters;
      has_set = subst (λ (n : ℕ). HasSet f 1 n s.edge.letters) s.to g.1;
      is_member = s.letter;
    }

pub step_from : (f : FormulaTree) (a : Automaton) → IsPositionAutomaton f a → (o m b p : ℕ) → Steps f o m b p → Moves a o m b p
step_from f a i o m b p s =
    let e : Edge = record { from = o; mark = m; letters = s.members; to = p } in
    record { edge = e; among = (i.edges e).1 (s.edge, s.has_set); from = refl; mark = refl; letter = s.is_member; to = refl }

-- with more steps no less is reached
pub reaches_by : (S T : ℕ → ℕ → ℕ → ℕ → Type 0) → ((o m b p : ℕ) → S o m b p → T o m b p) → (o : ℕ) (w : List (ℕ × ℕ)) (q : ℕ) → Reaches S o w q → Reaches T o w q
reaches_by S T f o [] q r = r
reaches_by S T f o (c ∷ w) q r = (r.0, f o c.0 c.1 r.0 r.1, reaches_by S T f r.0 w q r.2)

-- it accepts by the formula's steps and ends
pub same_texts : (f : FormulaTree) (a : Automaton) → IsPositionAutomaton f a → (w : MarkedText) → AcceptsText a w ↔ Accepts f w
same_texts f a i w = (
  (λ x. record { state = x.state; reaches = reaches_by (Moves a) (Steps f) (step_to f a i) 0 w.pairs x.state x.reaches; ends = (i.ends (record { state = x.state; mark = w.last })).0 x.ends }),
  λ x. record { state = x.state; reaches = reaches_by (Steps f) (Moves a) (step_from f a i) 0 w.pairs x.state x.reaches; ends = (i.ends (record { state = x.state; mark = w.last })).1 x.ends },
)

max_left : (a b v : ℕ) → max a b ≤ v → a ≤ v
max_left a b v l = omega (arith, l)

max_right : (a b v : ℕ) → max a b ≤ v → b ≤ v
max_right a b v l = omega (arith, l)

eqb_apart : (x v : ℕ) → x < v → nat_eq x v ≡ false
eqb_apart x v lt = go (eqb_tells x v)
  where
    go : ((nat_eq x v ≡ true) × (x ≡ v)) ⊎ ((nat_eq x v ≡ false) × (x ≡ v → ⊥)) → nat_eq x v ≡ false
    go (inl e) = absurd (omega (arith, e.1, lt))
    go (inr e) = e.0

pub vars_below : (f : FormulaTree) (v : ℕ) → var_bound f ≤ v → has_var f v ≡ false
vars_below (Set b) v l = refl
vars_below Empty v l = refl
vars_below (Cat a b) v l = let x = vars_below a v (max_left _ _ v l) in let y = vars_below b v (max_right _ _ v l) in rw (x, y) refl
vars_below (Alt a b) v l = let x = vars_below a v (max_left _ _ v l) in let y = vars_below b v (max_right _ _ v l) in rw (x, y) refl
vars_below (Star a) v l = vars_below a v l
vars_below (Plus a) v l = vars_below a v l
vars_below (Opt a) v l = vars_below a v l
vars_below (Capture x a) v l =
    let y = vars_below a v (max_right (suc x) _ v l) in
    let lt : suc x ≤ v = max_left (suc x) (var_bound a) v l in
    let n : nat_eq x v ≡ false = eqb_apart x v (omega (arith, lt)) in
    rw (n, y) refl

pub accepts_answers_of : (f : FormulaTree) (a : Automaton) → Fun f → a.variables ≤ 8 → IsPositionAutomaton f a → AcceptsAnswersOf f a
accepts_answers_of f a fun few i w short =
    let k : VarsBelow a.variables f = subst (λ (n : ℕ). VarsBelow n f) (sym i.variables) (vars_below f) in
    let len : length (bytes_of w.pairs) ≤ 281474976710656 = omega (arith, short, length_map (λ (c : ℕ × ℕ). c.1) w.pairs) in
    let l = accepts-tuples f a.variables (bytes_of w.pairs) w fun k few len refl in
    let s = same_texts f a i w in
    ((λ x. l.0 (s.0 x)), λ x. s.1 (l.1 x))

marked_is : (f : FormulaTree) (k : ℕ) (w : MarkedText) → IsTupleText f k (bytes_of w.pairs) w → IsMarked k w
marked_is f k w x = record { tuple = x.tuple; size = x.size; valid = x.valid; lies = x.lies; marks = x.marks }

edge_mark : (k : ℕ) (f : FormulaTree) (o m p : ℕ) → Fun f → VarsBelow k f → IsEdge f o m p → m < 4 ^ k
edge_mark k f o m p fun below (inl e) = let l = border_le k f 1 m p (plain f fun) below (inl e.1) in omega (arith, l, weight_below k f)
edge_mark k f o m p fun below (inr e) = let l = follow_le k f 1 o m p (plain f fun) below e in omega (arith, l, weight_below k f)

end_mark : (k : ℕ) (f : FormulaTree) (o m : ℕ) → Fun f → VarsBelow k f → IsEnd f o m → m < 4 ^ k
end_mark k f o m fun below (inl e) = let l = null_le k f m (plain f fun) below e.1 in omega (arith, l, weight_below k f)
end_mark k f o m fun below (inr e) = let l = border_le k f 1 m o (plain f fun) below (inr e) in omega (arith, l, weight_below k f)

pub is_automaton : (f : FormulaTree) (a : Automaton) → IsWithinLimits f → IsPositionAutomaton f a → IsAutomaton a
is_automaton f a w i = record {
  has_start = omega (arith, i.states);
  few_variables = omega (arith, i.variables, w.few_variables);
  edges_within = λ e c. (let g = (i.edges e).0 c in (omega (arith, i.states, edge_from f e.from e.mark e.to g.0), (let r = edge_to f e.from e.mark e.to g.0 in omega (arith, i.states, r.high))));
  ends_within = λ e c. (let g = (i.ends e).0 c in omega (arith, i.states, end_state f e.state e.mark g));
  wellmarked = record {
    edge_marks = λ e c. edge_mark a.variables f e.from e.mark e.to w.functional below ((i.edges e).0 c).0;
    end_marks = λ e c. end_mark a.variables f e.state e.mark w.functional below ((i.ends e).0 c);
    accepted = λ t short x. marked_is f a.variables t ((accepts_answers_of f a w.functional few i t short).0 x);
  };
}
  where
    few : a.variables ≤ 8
    few = omega (arith, i.variables, w.few_variables)

    below : VarsBelow a.variables f
    below = subst (λ (n : ℕ). VarsBelow n f) (sym i.variables) (vars_below f)
