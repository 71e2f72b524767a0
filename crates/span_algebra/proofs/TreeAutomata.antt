-- The automaton of a tree is one, up to the numbers of its states.
use Rattle.std.proofs.Common.{◌≡◌, ℕ, List, sym, ◌∙◌}
use Rattle.span_types.specs.Query.{Query, Leaf, Union, Join, Project}
use Rattle.span_types.specs.Rel.{names_of}
use Rattle.marker_dfa.specs.Deterministic.{DeterministicAutomaton, IsAutomatonOf}
use Rattle.marker_dfa.proofs.Tracks.{Placed}
use Rattle.span_algebra.specs.Trees.{IsNamedAutomaton, IsTreeAutomaton}
use Rattle.span_algebra.specs.TreeLaws.{CountsByAny, OneAutomaton}
use Rattle.span_algebra.proofs.SetLaws.{AreMatched, automaton-moved, count-moved}
use Rattle.span_algebra.proofs.TreeMatches.{AreSame, renumbered, same-automata}
use Rattle.span_algebra.proofs.TreeCopies.{project-matched, union-matched}
use Rattle.span_algebra.proofs.TreePairs.{join-matched}

-- some pairing of the states
pub record SomeSame (d e : DeterministicAutomaton) : Type 1 where
  pub pairing : ℕ → ℕ → Type 0
  pub same : AreSame d e pairing

same-named : {n : ℕ} {S : ℕ → ℕ → ℕ → ℕ → Type 0} {E : ℕ → ℕ → Type 0} (d e : DeterministicAutomaton) (f : IsAutomatonOf n S E d) (g : IsAutomatonOf n S E e) → d.variables ≡ e.variables → SomeSame d e
same-named d e f g variables = record { pairing = Placed f.subsets g.subsets; same = same-automata d e f g variables }

-- two named automata of matched occurrences
matched-named : {ns : List (List ℕ)} {n k : ℕ} {S T : ℕ → ℕ → ℕ → ℕ → Type 0} {E F : ℕ → ℕ → Type 0} {R : ℕ → ℕ → Type 0} → AreMatched n k S T E F R → (d e : DeterministicAutomaton) → IsNamedAutomaton ns n S E d → IsNamedAutomaton ns k T F e → SomeSame d e
matched-named h d e f g = same-named d e (automaton-moved h d f.automaton) g.automaton (f.variables ∙ sym g.variables)

pub same-trees : (q : Query) (d e : DeterministicAutomaton) → IsTreeAutomaton q d → IsTreeAutomaton q e → SomeSame d e
same-trees (Leaf f ns) d e x y = same-named d e x.automaton y.automaton (x.variables ∙ sym y.variables)
same-trees (Union l r) d e x y =
    let a = same-trees l x.left y.left x.left_is y.left_is in
    let b = same-trees r x.right y.right x.right_is y.right_is in
    matched-named (union-matched (names_of l) (names_of r) x.left y.left x.right y.right a.pairing b.pairing a.same b.same) d e x.holds y.holds
same-trees (Join l r) d e x y =
    let a = same-trees l x.left y.left x.left_is y.left_is in
    let b = same-trees r x.right y.right x.right_is y.right_is in
    matched-named (join-matched (names_of l) (names_of r) x.left y.left x.right y.right a.pairing b.pairing a.same b.same x.holds.0 y.holds.0) d e x.holds.1 y.holds.1
same-trees (Project q keep) d e x y =
    let a = same-trees q x.source y.source x.source_is y.source_is in
    matched-named (project-matched (names_of q) keep x.source y.source a.pairing a.same) d e x.holds y.holds

pub one-automaton : OneAutomaton
one-automaton q d e x y = let s = same-trees q d e x y in renumbered d e s.pairing s.same

pub counts-by-any : CountsByAny
counts-by-any = record {
  union = λ n l r a b x y. (
    (λ c. (
        let s = same-trees l c.left a c.left_is x in
        let t = same-trees r c.right b c.right_is y in
        count-moved (union-matched (names_of l) (names_of r) c.left a c.right b s.pairing t.pairing s.same t.same) n c.holds)),
    (λ h. record { left = a; right = b; left_is = x; right_is = y; holds = h }),
  );
  join = λ n l r a b x y few. (
    (λ c. (
        let s = same-trees l c.left a c.left_is x in
        let t = same-trees r c.right b c.right_is y in
        count-moved (join-matched (names_of l) (names_of r) c.left a c.right b s.pairing t.pairing s.same t.same c.holds.0 few) n c.holds.1)),
    (λ h. record { left = a; right = b; left_is = x; right_is = y; holds = (few, h) }),
  );
  project = λ n q keep a x. (
    (λ c. (let s = same-trees q c.source a c.source_is x in count-moved (project-matched (names_of q) keep c.source a s.pairing s.same) n c.holds)),
    (λ h. record { source = a; source_is = x; holds = h }),
  );
}
