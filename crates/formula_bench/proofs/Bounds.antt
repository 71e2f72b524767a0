-- A formula that was read is within the limits.
use Rattle.std.proofs.Common.{ℕ, ◌≤◌, List, [], length, arith}
use Rattle.span_types.specs.FormulaTree.{FormulaTree, Set, Empty, Cat, Alt, Star, Plus, Opt, Capture, var_bound}
use Rattle.formula_syntax.specs.Grammar.{alt}
use Rattle.formula_syntax.specs.Numbering.{Names}
use Rattle.formula_syntax.specs.FormulaOf.{Formula, FormulaOf}
use Rattle.formula_syntax.specs.Below.{Below}
use Rattle.formula_syntax.proofs.Below.{reads_below}
use Rattle.marker_nfa.specs.Occurrences.{IsWithinLimits}

bound : (k : ℕ) (f : FormulaTree) → Below k f → var_bound f ≤ k
bound k (Set b) h = omega arith
bound k Empty h = omega arith
bound k (Cat a b) h = omega (arith, bound k a h.0, bound k b h.1)
bound k (Alt a b) h = omega (arith, bound k a h.0, bound k b h.1)
bound k (Star a) h = bound k a h
bound k (Plus a) h = bound k a h
bound k (Opt a) h = bound k a h
bound k (Capture x a) h = omega (arith, bound k a h.1, h.0)

pub within : (s : List ℕ) (f : FormulaTree) (names : Names) → FormulaOf s (Formula f names) → IsWithinLimits f
within s f names h =
    let m = h.1 in
    let b = reads_below alt s f h.0 [] names m.reading in
    record { functional = h.2; few_sets = m.positions; few_variables = omega (arith, bound (length names) f b.below, m.variables) }
