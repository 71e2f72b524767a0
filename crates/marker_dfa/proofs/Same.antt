-- Automata with the same parts are made into the same deterministic automata.
use Rattle.std.proofs.Common.{◌≡◌, ℕ, ◌^◌, ◌<◌, ◌↔◌, List, [], ◌∷◌, Contains, Result, Ok, Err, IfOk, refl, sym, subst, ◌∙◌, arith}
use Rattle.formula_law.specs.Accepts.{MarkedText, Reaches}
use Rattle.marker_nfa.specs.Automaton.{Automaton, AcceptsText, AreLettersOf, IsAutomaton, IsMarked, MayEnd, Moves}
use Rattle.marker_nfa.specs.declared.nfa.Edge.{Edge}
use Rattle.marker_nfa.specs.declared.nfa.End.{End}
use Rattle.marker_dfa.specs.Bundles.{edges_in}
use Rattle.marker_dfa.specs.Bundled.{HaveSameParts, automaton_in}
use Rattle.marker_dfa.specs.Making.{AreBundles, AreInOrder, IsBundled}
use Rattle.marker_dfa.specs.declared.bundles.Bundle.{Bundle}
use Rattle.marker_dfa.specs.declared.bundled.BundledNfa.{BundledNfa}
use Rattle.marker_dfa.proofs.Bundling.{are_bundles, same_edges}
use Rattle.marker_dfa.specs.Deterministic.{DeterministicAutomaton, AcceptsSame, AreTooMany, IsAutomatonOf, IsDeterminized}
use Rattle.marker_dfa.specs.Reached.{CountIsAbove, IsMove, IsReached, Subset, next, start}
use Rattle.marker_dfa.specs.Refusals.{IfTooMany}
use Rattle.marker_dfa.specs.declared.refusal.DfaRefusal.{DfaRefusal}
use Rattle.marker_dfa.specs.declared.refusal.DfaRefusal.TheVariants.{TooManyStates, NoMemory}

-- steps that are the same reach the same
module _ (n : ℕ) (S T : ℕ → ℕ → ℕ → ℕ → Type 0) (f : (o m b p : ℕ) → S o m b p → T o m b p) (g : (o m b p : ℕ) → T o m b p → S o m b p) where
  pub move-by : (x : Subset) (m b : ℕ) (y : Subset) → IsMove n S x m b y → IsMove n T x m b y
  move-by x m b y mv = record {
    size = mv.size;
    members = λ p. ((λ i. (let o = (mv.members p).0 i in (o.0, o.1, f o.0 m b p o.2))), λ o. (mv.members p).1 (o.0, o.1, g o.0 m b p o.2));
  }

  pub reached-by : (x : Subset) → IsReached n S x → IsReached n T x
  reached-by _ start = start
  reached-by y (next x _ m b p r mv i) = next x y m b p (reached-by x r) (move-by x m b y mv) i

  pub count-by : (limit : ℕ) → CountIsAbove limit n S → CountIsAbove limit n T
  count-by limit c = record { subsets = c.subsets; many = c.many; sets = record { apart = c.sets.apart; reached = λ q x e. reached-by x (c.sets.reached q x e) } }

pub automaton-by : (n : ℕ) (S T : ℕ → ℕ → ℕ → ℕ → Type 0) (E F : ℕ → ℕ → Type 0) → ((o m b p : ℕ) → S o m b p → T o m b p) → ((o m b p : ℕ) → T o m b p → S o m b p) → ((o m : ℕ) → E o m ↔ F o m) → (d : DeterministicAutomaton) → IsAutomatonOf n S E d → IsAutomatonOf n T F d
automaton-by n S T E F f g ends d h = record {
  subsets = h.subsets;
  states = h.states;
  start = h.start;
  sets = record { apart = h.sets.apart; reached = λ q x e. reached-by n S T f g x (h.sets.reached q x e) };
  all = λ x r. h.all x (reached-by n T S g f x r);
  goes = λ q m b r x e k. (let y = h.goes q m b r x e k in (y.0, y.1, y.2, move-by n S T f g x m b y.0 y.3, y.4));
  stays = λ q m b x e k o p i s. h.stays q m b x e k o p i (g o m b p s);
  ends_are = λ q m x e. (
      let are = h.ends_are q m x e in
      ((λ c. (let o = are.0 c in (o.0, o.1, (ends o.0 m).0 o.2))), λ o. are.1 (o.0, o.1, (ends o.0 m).1 o.2)));
}

pub turned : (a b : Automaton) → HaveSameParts a b → HaveSameParts b a
turned a b h = record { states = sym h.states; variables = sym h.variables; edges = λ e. (let k = h.edges e in (k.1, k.0)); ends = sym h.ends }

pub composed : (a b c : Automaton) → HaveSameParts a b → HaveSameParts b c → HaveSameParts a c
composed a b c h k = record {
  states = h.states ∙ k.states;
  variables = h.variables ∙ k.variables;
  edges = λ e. (let x = h.edges e in let y = k.edges e in ((λ z. y.0 (x.0 z)), λ z. x.1 (y.1 z)));
  ends = h.ends ∙ k.ends;
}

pub moves-same : (a b : Automaton) → HaveSameParts a b → (o m c p : ℕ) → Moves a o m c p → Moves b o m c p
moves-same a b h o m c p mv = record { edge = mv.edge; among = (h.edges mv.edge).0 mv.among; from = mv.from; mark = mv.mark; letter = mv.letter; to = mv.to }

pub ends-same : (a b : Automaton) → HaveSameParts a b → (o m : ℕ) → MayEnd a o m → MayEnd b o m
ends-same a b h o m c = subst (λ (l : List End). Contains l (record { state = o; mark = m })) h.ends c

reaches-same : (a b : Automaton) → HaveSameParts a b → (o : ℕ) (w : List (ℕ × ℕ)) (q : ℕ) → Reaches (Moves a) o w q → Reaches (Moves b) o w q
reaches-same a b h o [] q r = r
reaches-same a b h o (c ∷ w) q r = (r.0, moves-same a b h o c.0 c.1 r.0 r.1, reaches-same a b h r.0 w q r.2)

accepts-text : (a b : Automaton) → HaveSameParts a b → (w : MarkedText) → AcceptsText a w → AcceptsText b w
accepts-text a b h w k = record { state = k.state; reaches = reaches-same a b h 0 w.pairs k.state k.reaches; ends = ends-same a b h k.state w.last k.ends }

pub automaton-same : (a b : Automaton) → HaveSameParts a b → IsAutomaton a → IsAutomaton b
automaton-same a b h is = record {
  has_start = omega (arith, is.has_start, h.states);
  few_variables = omega (arith, is.few_variables, h.variables);
  edges_within = λ e c. (let w = is.edges_within e ((h.edges e).1 c) in (omega (arith, w.0, h.states), omega (arith, w.1, h.states)));
  ends_within = λ e c. (let w = is.ends_within e (subst (λ (l : List End). Contains l e) (sym h.ends) c) in omega (arith, w, h.states));
  wellmarked = record {
    edge_marks = λ e c. subst (λ (k : ℕ). e.mark < 4 ^ k) h.variables (is.wellmarked.edge_marks e ((h.edges e).1 c));
    end_marks = λ e c. subst (λ (k : ℕ). e.mark < 4 ^ k) h.variables (is.wellmarked.end_marks e (subst (λ (l : List End). Contains l e) (sym h.ends) c));
    accepted = λ w short k. subst (λ (v : ℕ). IsMarked v w) h.variables (is.wellmarked.accepted w short (accepts-text b a (turned a b h) w k));
  };
}

pub determinized-same : (a b : Automaton) → HaveSameParts a b → (d : DeterministicAutomaton) → IsDeterminized a d → IsDeterminized b d
determinized-same a b h d is =
    let back = turned a b h in
    let on_a : IsAutomatonOf a.states (Moves b) (MayEnd b) d = automaton-by a.states (Moves a) (Moves b) (MayEnd a) (MayEnd b) (moves-same a b h) (moves-same b a back) (λ o m. (ends-same a b h o m, ends-same b a back o m)) d is in
    subst (λ (n : ℕ). IsAutomatonOf n (Moves b) (MayEnd b) d) h.states on_a

pub accepts-same : (a b : Automaton) → HaveSameParts a b → (d : DeterministicAutomaton) → AcceptsSame a d → AcceptsSame b d
accepts-same a b h d is = record {
  variables = is.variables ∙ h.variables;
  texts = λ w. (let t = is.texts w in ((λ k. accepts-text a b h w (t.0 k)), λ k. t.1 (accepts-text b a (turned a b h) w k)));
}

pub too-many-same : (most : ℕ) (a b : Automaton) → HaveSameParts a b → AreTooMany most a → AreTooMany most b
too-many-same most a b h c = subst (λ (n : ℕ). CountIsAbove most n (Moves b)) h.states (count-by a.states (Moves a) (Moves b) (moves-same a b h) (moves-same b a (turned a b h)) most c)

-- ---- bundles in another order

pub sorted-same : (states variables : ℕ) (edges : List Edge) (ends : List End) (old new : List Bundle) → edges_in old ≡ edges → ((w : Bundle) → Contains new w ↔ Contains old w)
    → HaveSameParts (record { states = states; variables = variables; edges = edges_in new; ends = ends }) (record { states = states; variables = variables; edges = edges; ends = ends })
sorted-same states variables edges ends old new is same = record {
  states = refl;
  variables = refl;
  edges = λ e. subst (λ (l : List Edge). Contains (edges_in new) e ↔ Contains l e) is (same_edges old new same e);
  ends = refl;
}

pub sorted-bundled : (n : BundledNfa) (a : Automaton) (old : List Bundle) → IsAutomaton a → edges_in old ≡ a.edges → HaveSameParts (automaton_in n) a → ((x : Automaton) → IsAutomaton x → AreBundles x old → AreInOrder x n.bundles.items) → AreLettersOf a.edges n.letters.items → IsBundled n
sorted-bundled n a old is view same order letters =
    let on_n : IsAutomaton (automaton_in n) = automaton-same a (automaton_in n) (turned (automaton_in n) a same) is in
    let of_a : AreBundles a old = are_bundles a old is (λ e. ((λ c. subst (λ (l : List Edge). Contains l e) (sym view) c), λ c. subst (λ (l : List Edge). Contains l e) view c)) in
    record {
      automaton = on_n;
      order = record { are = are_bundles (automaton_in n) n.bundles.items on_n (λ e. ((λ c. c), λ c. c)); fall = (order a is of_a).fall };
      letters = λ e c. letters e ((same.edges e).0 c);
    }

pub ok-map : {A E : Type 0} (r : Result A E) (P Q : A → Type 0) → ((x : A) → P x → Q x) → IfOk r P → IfOk r Q
ok-map (Ok x) P Q f h = f x h
ok-map (Err e) P Q f h = tt

pub refused-map : {A : Type 0} (r : Result A DfaRefusal) (P Q : Type 0) → (P → Q) → IfTooMany r P → IfTooMany r Q
refused-map (Ok x) P Q f h = tt
refused-map (Err TooManyStates) P Q f h = f h
refused-map (Err NoMemory) P Q f h = tt
