use Rattle.std.proofs.Common.{◌≡◌, [], length, arith}
use Rattle.span_types.specs.FormulaTree.{tree_of, var_bound}
use Rattle.formula_syntax.specs.Grammar.{alt}
use Rattle.query_book.proofs.ByteSets.{reads-bytes}
use Rattle.query_book.proofs.Numbered.{reads_bound}
use Rattle.query_book.proofs.compiled.compile.Goals as goal

pub compile_leaf-requires-clause-read : goal.compile_leaf-requires-clause-read
compile_leaf-requires-clause-read c =
    let d = c.in-Ok.ensures.0 in
    let m = c.in-Ok.ensures.1 in
    let fault = c.in-Ok.ensures.2 in
    let b = reads_bound alt c.args.text.now (tree_of c.in-Ok.formula) d [] c.in-Ok.vars m.reading in
    let numbers : var_bound (tree_of c.in-Ok.formula) ≡ length c.in-Ok.vars = omega (arith, b) in
    record {
      within = record { functional = fault; few_sets = m.positions; few_variables = omega (arith, numbers, m.variables) };
      numbers = numbers;
      bytes = reads-bytes alt c.args.text.now (tree_of c.in-Ok.formula) d [] c.in-Ok.vars m.reading;
    }
