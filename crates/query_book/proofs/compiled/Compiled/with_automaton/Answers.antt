use Rattle.span_types.specs.Query.{query_of}
use Rattle.query_book.proofs.Merged.{alike-defines}
use Rattle.query_book.proofs.compiled.Compiled.with_automaton.Goals as goal

pub returns-clause-compiled : goal.returns-clause-compiled
returns-clause-compiled c = record {
  parts = c.requires.parts;
  few_parts = c.requires.few_parts;
  names = c.requires.names;
  full = c.requires.full;
  defines = alike-defines c.args.full c.in_ok-dfa.dfa c.in_ok-dfa.ensures.accepts (query_of c.args.tree) c.requires.full.defines;
  bytes = c.in_ok-dfa.ensures.bytes;
}
