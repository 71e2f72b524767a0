use Rattle.std.proofs.Common.{suc}
use Rattle.span_types.specs.FormulaTree.{sets, tree_of}
use Rattle.formula_law.specs.Accepts.{Steps}
use Rattle.formula_law.specs.Positions.{IsEnd}
use Rattle.span_algebra.proofs.TreeCounts.{leaf-automata}
use Rattle.query_book.proofs.ByteSets.{reads-by, steps-bytes}
use Rattle.query_book.proofs.Leaves.{leaf-defines}
use Rattle.query_book.proofs.compiled.compile_leaf.Goals as goal

pub with_automaton-requires-clause-full : goal.with_automaton-requires-clause-full
with_automaton-requires-clause-full c =
    let a = c.in-Ok.ensures.automaton in
    let f = tree_of c.args.formula in
    let d = c.in-Ok.full in
    let is = leaf-automata.automaton f c.args.vars a.automaton d c.requires.read.numbers a.positions a.states a.same in
    record {
      tree = is;
      defines = leaf-defines f c.args.vars a.automaton d c.requires.read.within c.requires.read.numbers c.count-count.ensures.vars a.positions a.same;
      bytes = reads-by (suc (sets f)) (Steps f) (IsEnd f) d (steps-bytes f c.requires.read.bytes) is.automaton;
    }
