use Rattle.std.proofs.Common.{[], IfOk, Result, Ok, Err}
use Rattle.marker_dfa.specs.declared.refusal.DfaRefusal.{DfaRefusal}
use Rattle.marker_dfa.specs.declared.refusal.DfaRefusal.TheVariants.{TooManyStates, NoMemory}
use Rattle.marker_dfa.specs.Refusals.{IfTooMany}
use Rattle.span_types.specs.FormulaTree.{tree_of}
use Rattle.span_algebra.proofs.TreeCounts.{leaf-automata}
use Rattle.query_book.proofs.compiled.automaton_of.Goals as goal

few_by : {A E : Type 0} (r : Result A E) (P Q : Type 0) → (P → Q) → IfOk r (λ _. Q → ⊥) → IfOk r (λ _. P → ⊥)
few_by (Ok x) P Q f h = λ p. h (f p)
few_by (Err e) P Q f h = tt

many_by : {A : Type 0} (r : Result A DfaRefusal) (P Q : Type 0) → (P → Q) → IfTooMany r P → IfTooMany r Q
many_by (Ok x) P Q f h = tt
many_by (Err TooManyStates) P Q f h = f h
many_by (Err NoMemory) P Q f h = tt

pub returns-clause-few : goal.returns-clause-few
returns-clause-few c = few_by c.determinise_within.result _ _ (leaf-automata.count c.args.most (tree_of c.args.formula.now) [] c.in_ok-nfa.nfa c.in_ok-nfa.ensures.parts).1 c.determinise_within.ensures.few

pub returns-clause-many : goal.returns-clause-many
returns-clause-many c = many_by c.determinise_within.result _ _ (leaf-automata.count c.args.most (tree_of c.args.formula.now) [] c.in_ok-nfa.nfa c.in_ok-nfa.ensures.parts).0 c.determinise_within.ensures.too_many
