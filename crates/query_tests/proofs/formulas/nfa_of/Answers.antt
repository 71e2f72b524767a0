use Rattle.std.proofs.Common.{ℕ, List, [], arith}
use Rattle.span_types.specs.FormulaTree.{FormulaTree}
use Rattle.formula_syntax.specs.Grammar.{alt}
use Rattle.formula_syntax.specs.Numbering.{Names}
use Rattle.formula_syntax.specs.FormulaOf.{Formula, FormulaOf}
use Rattle.marker_nfa.specs.Occurrences.{IsWithinLimits}
use Rattle.query_book.proofs.Numbered.{reads_bound}
use Rattle.query_tests.proofs.formulas.nfa_of.Goals as goal

within : (s : List ℕ) (f : FormulaTree) (names : Names) → FormulaOf s (Formula f names) → IsWithinLimits f
within s f names h =
    let m = h.1 in
    record { functional = h.2; few_sets = m.positions; few_variables = omega (arith, reads_bound alt s f h.0 [] names m.reading, m.variables) }

pub of_formula-requires : goal.of_formula-requires
of_formula-requires c = within _ _ _ c.in-Ok.ensures
