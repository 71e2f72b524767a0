use Rattle.std.proofs.Common.{sym, subst, arith}
use Rattle.query_book.specs.Combining.{IsAccepted}
use Rattle.query_book.proofs.Operations.{union-accepted, union-automaton, union-names, union-parts}
use Rattle.query_book.proofs.combined.united.Goals as goal

pub with_automaton-requires-clause-parts : goal.with_automaton-requires-clause-parts
with_automaton-requires-clause-parts c = union-parts c.args.left.now c.args.right.now c.requires.left c.requires.right c.in_ok-full.vars c.in_ok-full.ensures.names c.count-count.ensures.vars _ _ c.in_ok-left.ensures c.in_ok-right.ensures

pub with_automaton-requires-clause-names : goal.with_automaton-requires-clause-names
with_automaton-requires-clause-names c = union-names c.args.left.now c.args.right.now c.requires.left c.requires.right c.in_ok-full.vars c.in_ok-full.ensures.names c.count-count.ensures.vars _ _ c.in_ok-left.ensures c.in_ok-right.ensures

pub with_automaton-requires-clause-full : goal.with_automaton-requires-clause-full
with_automaton-requires-clause-full c = union-automaton c.args.left.now c.args.right.now c.requires.left c.requires.right c.in_ok-full.vars c.in_ok-full.ensures.names c.count-count.ensures.vars _ _ c.in_ok-left.ensures c.in_ok-right.ensures c.in_ok-full.full c.in_ok-full.ensures.automaton c.in_ok-full.ensures.answers

pub returns-clause-accepted : goal.returns-clause-accepted
returns-clause-accepted c =
    let accepted = union-accepted c.args.left.now c.args.right.now c.requires.left c.requires.right c.in_ok-full.vars c.in_ok-full.ensures.names c.count-count.ensures.vars _ _ c.in_ok-left.ensures c.in_ok-right.ensures (omega (arith, c.if-parts-gt-MAX_PARTS.false)) c.args.most c.in_ok-full.ensures.few in
    subst (IsAccepted c.args.most) (sym c.in_ok-with_automaton.ensures.tree) accepted
