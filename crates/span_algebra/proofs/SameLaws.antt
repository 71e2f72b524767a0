-- An automaton with the parts of an operation's automaton is one, too.
use Rattle.std.proofs.Common.{ℕ, List, ◌∙◌}
use Rattle.marker_nfa.specs.Automaton.{Automaton}
use Rattle.marker_dfa.specs.Bundled.{HaveSameParts}
use Rattle.marker_dfa.specs.Deterministic.{DeterministicAutomaton}
use Rattle.marker_dfa.proofs.Same.{ends-same, moves-same, turned}
use Rattle.span_algebra.specs.Making.{HasParts, IsProjectNfa, IsUnionNfa}
use Rattle.span_algebra.specs.Products.{HasNumbered, IsJoinNfa}

parts-same : {n : ℕ} {Step : ℕ → ℕ → ℕ → ℕ → Type 0} {End : ℕ → ℕ → Type 0} (x y : Automaton) → HaveSameParts x y → HasParts n Step End y → HasParts n Step End x
parts-same x y h is = let back = turned x y h in record {
  states = h.states ∙ is.states;
  step_to = λ o m b p s. is.step_to o m b p (moves-same x y h o m b p s);
  step_from = λ o m b p s. moves-same y x back o m b p (is.step_from o m b p s);
  end_to = λ o m s. is.end_to o m (ends-same x y h o m s);
  end_from = λ o m s. ends-same y x back o m (is.end_from o m s);
}

numbered-same : {n : ℕ} {Step : ℕ → ℕ → ℕ → ℕ → Type 0} {End : ℕ → ℕ → Type 0} {pairs : List ℕ} (x y : Automaton) → HaveSameParts x y → HasNumbered n Step End pairs y → HasNumbered n Step End pairs x
numbered-same x y h is = let back = turned x y h in record {
  states = h.states ∙ is.states;
  apart = is.apart;
  start = is.start;
  within = is.within;
  step_to = λ i m b j s. is.step_to i m b j (moves-same x y h i m b j s);
  step_from = λ i o m b p at s. (let k = is.step_from i o m b p at s in (k.0, k.1, moves-same y x back i m b k.0 k.2));
  end_to = λ i m s. is.end_to i m (ends-same x y h i m s);
  end_from = λ i o m at s. ends-same y x back i m (is.end_from i o m at s);
}

pub union-same : (a : DeterministicAutomaton) (va : List (List ℕ)) (b : DeterministicAutomaton) (vb : List (List ℕ)) (x y : Automaton) → HaveSameParts x y → IsUnionNfa a va b vb y → IsUnionNfa a va b vb x
union-same a va b vb x y h is = record { variables = h.variables ∙ is.variables; parts = parts-same x y h is.parts }

pub project-same : (a : DeterministicAutomaton) (va keep : List (List ℕ)) (x y : Automaton) → HaveSameParts x y → IsProjectNfa a va keep y → IsProjectNfa a va keep x
project-same a va keep x y h is = record { variables = h.variables ∙ is.variables; parts = parts-same x y h is.parts }

pub join-same : (a : DeterministicAutomaton) (va : List (List ℕ)) (b : DeterministicAutomaton) (vb : List (List ℕ)) (x y : Automaton) → HaveSameParts x y → IsJoinNfa a va b vb y → IsJoinNfa a va b vb x
join-same a va b vb x y h is = record { variables = h.variables ∙ is.variables; pairs = is.pairs; parts = numbered-same x y h is.parts }
