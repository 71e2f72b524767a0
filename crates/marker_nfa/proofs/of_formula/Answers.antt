use Rattle.std.proofs.Common.{ap, refl, arith, length, ◌∙◌}
use Rattle.span_types.specs.FormulaTree.{tree_of}
use Rattle.marker_nfa.proofs.Making.{letters_length}
use Rattle.marker_nfa.proofs.Built.{lead_within, built}
use Rattle.marker_nfa.proofs.Accepting.{is_automaton, accepts_answers_of, vars_below}
use Rattle.marker_nfa.proofs.Mapped.{letters_of_hops}
use Rattle.marker_nfa.proofs.of_formula.Goals as goal

pub outline_of-requires-clause-small : goal.outline_of-requires-clause-small
outline_of-requires-clause-small c = record { fun = c.requires.functional; below = λ v le. vars_below (tree_of c.args.formula.now) v (omega (arith, c.requires.few_variables, le)) }

pub edges_of-requires : goal.edges_of-requires
edges_of-requires c = rw (c.deref.ensures.value, c.deref-2.ensures.value) (lead_within (tree_of c.args.formula.now) c.in_ok-outline.outline c.in_ok-outline.ensures)

pub overflow_cast-len : goal.overflow_cast-len
overflow_cast-len c = let l = ap length c.in_ok-outline.ensures.letters ∙ letters_length (tree_of c.args.formula.now) in omega (arith, c.len.ensures, l, c.requires.few_sets)

pub overflow_add-len : goal.overflow_add-len
overflow_add-len c = let l = ap length c.in_ok-outline.ensures.letters ∙ letters_length (tree_of c.args.formula.now) in omega (arith, c.len.ensures, l, c.requires.few_sets)

pub from_lists-requires-clause-automaton : goal.from_lists-requires-clause-automaton
from_lists-requires-clause-automaton c = is_automaton (tree_of c.args.formula.now) _ c.requires (built (tree_of c.args.formula.now) c.in_ok-outline.outline _ c.in_ok-outline.ensures (omega (arith, c.len.ensures, c.in_ok-outline.outline.letters.ok.0)) c.variables_of.ensures (rw (c.deref.ensures.value, c.deref-2.ensures.value) at c.in_ok-edges.ensures) refl)

pub from_lists-requires-clause-letters : goal.from_lists-requires-clause-letters
from_lists-requires-clause-letters c =
    let lead = lead_within (tree_of c.args.formula.now) c.in_ok-outline.outline c.in_ok-outline.ensures in
    let made = rw (c.deref.ensures.value, c.deref-2.ensures.value) at c.in_ok-edges.ensures in
    rw made (letters_of_hops c.in_ok-outline.outline.letters.items c.in_ok-outline.outline.hops.items lead)

pub returns-clause-parts : goal.returns-clause-parts
returns-clause-parts c = rw (c.from_lists.ensures) (built (tree_of c.args.formula.now) c.in_ok-outline.outline _ c.in_ok-outline.ensures (omega (arith, c.len.ensures, c.in_ok-outline.outline.letters.ok.0)) c.variables_of.ensures (rw (c.deref.ensures.value, c.deref-2.ensures.value) at c.in_ok-edges.ensures) refl)

pub returns-clause-accepts : goal.returns-clause-accepts
returns-clause-accepts c = rw (c.from_lists.ensures) (accepts_answers_of (tree_of c.args.formula.now) _ c.requires.functional (omega (arith, c.variables_of.ensures, c.requires.few_variables)) (built (tree_of c.args.formula.now) c.in_ok-outline.outline _ c.in_ok-outline.ensures (omega (arith, c.len.ensures, c.in_ok-outline.outline.letters.ok.0)) c.variables_of.ensures (rw (c.deref.ensures.value, c.deref-2.ensures.value) at c.in_ok-edges.ensures) refl))
