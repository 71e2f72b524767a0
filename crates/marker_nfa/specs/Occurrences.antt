-- The position automaton of a formula.
use Rattle.std.specs.Prelude.{◌≡◌, ◌≢◌, suc, ◌≤◌, ◌↔◌, AllPairs, Contains, length}
use Rattle.span_types.specs.FormulaTree.{FormulaTree, Fun, sets, var_bound}
use Rattle.formula_law.specs.Accepts.{MarkedText}
use Rattle.formula_law.specs.Law.{IsTupleText, bytes_of}
use Rattle.formula_law.specs.Positions.{HasSet, IsEdge, IsEnd}
use Rattle.marker_nfa.specs.Automaton.{Automaton, AcceptsText}
use Rattle.marker_nfa.specs.declared.nfa.Edge.{Edge}
use Rattle.marker_nfa.specs.declared.nfa.End.{End}

-- the formula obeys the rule, and has at most 512 byte sets and at most eight variables, the numbers below 8
pub record IsWithinLimits (f : FormulaTree) : Type 0 where
  pub functional : Fun f
  pub few_sets : sets f ≤ 512
  pub few_variables : var_bound f ≤ 8

-- the states are the start and the occurrences of byte sets from the left, and the edges and ends are exactly the formula's, none twice
pub record IsPositionAutomaton (f : FormulaTree) (a : Automaton) : Type 0 where
  pub states : a.states ≡ suc (sets f)
  pub variables : a.variables ≡ var_bound f
  pub edges : (e : Edge) → Contains a.edges e ↔ IsEdge f e.from e.mark e.to × HasSet f 1 e.to e.letters
  pub ends : (e : End) → Contains a.ends e ↔ IsEnd f e.state e.mark
  pub edges_once : AllPairs (λ x y. x ≢ y) a.edges
  pub ends_once : AllPairs (λ x y. x ≢ y) a.ends

-- of the texts of at most 2^48 bytes the automaton accepts exactly those with the marks of a tuple that the formula fits
abbrev pub AcceptsAnswersOf : FormulaTree → Automaton → Type 0
AcceptsAnswersOf f a = (w : MarkedText) → length w.pairs ≤ 281474976710656 → AcceptsText a w ↔ IsTupleText f a.variables (bytes_of w.pairs) w
