use Rattle.std.proofs.Common.{sym, subst, arith}
use Rattle.query_book.specs.Combining.{IsAccepted}
use Rattle.query_book.proofs.Operations.{project-accepted, project-automaton, project-parts}
use Rattle.query_book.proofs.combined.projected.Goals as goal

pub with_automaton-requires-clause-parts : goal.with_automaton-requires-clause-parts
with_automaton-requires-clause-parts c = project-parts c.args.source.now c.requires.source c.in_ok-vars.vars c.count-count.ensures.vars _ _ c.in_ok-inner.ensures c.in_ok-names.ensures

pub with_automaton-requires-clause-full : goal.with_automaton-requires-clause-full
with_automaton-requires-clause-full c = project-automaton c.args.source.now c.requires.source c.in_ok-vars.vars c.count-count.ensures.vars _ _ c.in_ok-inner.ensures c.in_ok-names.ensures c.in_ok-full.full c.in_ok-full.ensures.automaton c.in_ok-full.ensures.answers

pub returns-clause-accepted : goal.returns-clause-accepted
returns-clause-accepted c =
    let accepted = project-accepted c.args.source.now c.requires.source c.in_ok-vars.vars c.count-count.ensures.vars _ _ c.in_ok-inner.ensures c.in_ok-names.ensures (omega (arith, c.if-parts-gt-MAX_PARTS.false)) c.args.most c.in_ok-full.ensures.few in
    subst (IsAccepted c.args.most) (sym c.in_ok-with_automaton.ensures.tree) accepted
