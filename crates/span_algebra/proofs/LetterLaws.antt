-- The byte sets of edges are those of classes.
use Rattle.std.proofs.Common.{◌≡◌, ℕ, ◌⊎◌, inl, inr, List, [], Bool, Option, Contains, sym, ap, subst, ◌∙◌, arith}
use Rattle.marker_nfa.specs.Automaton.{AreLettersOf}
use Rattle.marker_nfa.specs.Parts.{Adds}
use Rattle.marker_nfa.specs.declared.nfa.Edge.{Edge}
use Rattle.marker_dfa.specs.Deterministic.{DeterministicAutomaton}
use Rattle.marker_dfa.proofs.Lists.{length_map, get_map}
use Rattle.span_algebra.specs.declared.classes.Class.{Class}
use Rattle.span_algebra.specs.declared.pairs.Pair.{Pair}
use Rattle.span_algebra.specs.Making.{IsCopiedEdge, letters_of}
use Rattle.span_algebra.specs.Products.{AreFound}
use Rattle.span_algebra.proofs.PartLaws.{two-parts}

class-letters : (classes : List Class) (c : Class) (letters : List Bool) → Contains classes c → letters ≡ c.letters → Contains (letters_of classes) letters
class-letters classes c letters k e =
    let at = get_map (λ (x : Class). x.letters) classes k.0 c letters k.1 in
    (k.0, omega (arith, k.1, length_map (λ (x : Class). x.letters) classes), at ∙ ap (λ (x : Class). x.letters) k.2 ∙ sym e)

copied-letters : (a : DeterministicAutomaton) (places : List (Option ℕ)) (base : ℕ) (classes : List Class) (e : Edge) → IsCopiedEdge a places base classes e → Contains (letters_of classes) e.letters
copied-letters a places base classes e h = let w = h.edge in class-letters classes w.0 e.letters w.1 (ap (λ (x : Edge). x.letters) w.2.1.2)

pub letters-of-one : (a : DeterministicAutomaton) (places : List (Option ℕ)) (base : ℕ) (classes : List Class) (e0 e1 : List Edge) → e0 ≡ [] → Adds e0 e1 (IsCopiedEdge a places base classes) → AreLettersOf e1 (letters_of classes)
letters-of-one a places base classes e0 e1 none h e k = by ((h e).0 k)
  where
    by : Contains e0 e ⊎ IsCopiedEdge a places base classes e → Contains (letters_of classes) e.letters
    by (inl c) = let d = subst (λ (l : List Edge). Contains l e) none c in absurd (omega (arith, d.1))
    by (inr c) = copied-letters a places base classes e c

pub letters-of-two : (a b : DeterministicAutomaton) (left right : List (Option ℕ)) (base : ℕ) (classes : List Class) (e0 e1 e2 : List Edge) → e0 ≡ [] → Adds e0 e1 (IsCopiedEdge a left 1 classes) → Adds e1 e2 (IsCopiedEdge b right base classes) → AreLettersOf e2 (letters_of classes)
letters-of-two a b left right base classes e0 e1 e2 none h g e k = by ((two-parts e0 e1 e2 (IsCopiedEdge a left 1 classes) (IsCopiedEdge b right base classes) none h g e).0 k)
  where
    by : IsCopiedEdge a left 1 classes e ⊎ IsCopiedEdge b right base classes e → Contains (letters_of classes) e.letters
    by (inl c) = copied-letters a left 1 classes e c
    by (inr c) = copied-letters b right base classes e c

pub letters-of-pairs : (most : ℕ) (a b : DeterministicAutomaton) (n : ℕ) (Step : ℕ → ℕ → ℕ → ℕ → Type 0) (classes : List Class) (k : ℕ) (pairs : List Pair) (edges : List Edge) → AreFound most a b n Step classes k pairs edges → AreLettersOf edges (letters_of classes)
letters-of-pairs most a b n Step classes k pairs edges found x c =
    let w = (found.edges_are x).0 c in
    let step = w.1.1 in
    class-letters classes step.class x.letters step.among (w.2.letters ∙ step.letters)
