-- The automaton of a formula defines its Leaf.
use Rattle.std.proofs.Common.{◌≡◌, ◌≢◌, ℕ, suc, ◌+◌, ◌<◌, ◌||◌, ◌↔◌, Bool, true, false, List, [], ◌∷◌, length, Option, if◌then◌else◌, refl, sym, ap, subst, ◌∙◌, arith, get_or}
use Rattle.std.specs.Prelude.{AllPairs}
use Rattle.span_types.specs.declared.tuple.Span.{Span}
use Rattle.span_types.specs.FormulaTree.{FormulaTree, var_bound}
use Rattle.span_types.specs.Marks.{spans_of}
use Rattle.span_types.specs.Fits.{Fits}
use Rattle.span_types.specs.Query.{Leaf}
use Rattle.span_types.specs.VarList.{AreVars}
use Rattle.span_types.specs.Rel.{same_name, has_name, named}
use Rattle.span_types.proofs.Digits as digits
use Rattle.formula_law.specs.Accepts.{marked_text}
use Rattle.formula_law.specs.Law.{VarsBelow}
use Rattle.formula_law.proofs.Tuples.{fits-accepted}
use Rattle.marker_nfa.specs.Automaton.{Automaton}
use Rattle.marker_nfa.specs.Occurrences.{IsPositionAutomaton, IsWithinLimits}
use Rattle.marker_nfa.proofs.Accepting.{same_texts, vars_below}
use Rattle.marker_dfa.specs.Deterministic.{DeterministicAutomaton, AcceptsSame}
use Rattle.span_enum.specs.Members.{IsMember}
use Rattle.span_types.proofs.NameLaws.{apart, named-tells}
use Rattle.query_book.specs.Answers.{IsAnswer, Defines}

-- the answers of a Leaf are the tuples that fit
leaf-answer : (f : FormulaTree) (names : List (List ℕ)) (s : List ℕ) (t : List (Option Span)) → AreVars names → IsAnswer (Leaf f names) s t ↔ (length t ≡ length names) × Fits f s 1 (length s + 1) (spans_of t)
leaf-answer f names s t vars = (
  (λ h. (h.0, subst (λ u. Fits f s 1 (length s + 1) (spans_of u)) (named-tells names h.1.tuple t (apart names vars.distinct) h.1.size h.0 (λ n. sym (h.1.read n))) h.1.fits)),
  (λ h. (h.0, record { tuple = t; size = h.0; fits = h.1; read = λ n. refl })),
)

pub leaf-defines : (f : FormulaTree) (names : List (List ℕ)) (a : Automaton) (d : DeterministicAutomaton) → IsWithinLimits f → var_bound f ≡ length names → AreVars names → IsPositionAutomaton f a → AcceptsSame a d → Defines (Leaf f names) d
leaf-defines f names a d within count vars is same = record {
  variables = variables;
  answers = λ s t short. ((λ h. to s t ((leaf-answer f names s t vars).0 h)), (λ h. (leaf-answer f names s t vars).1 (from s t h)));
}
  where
    variables : d.variables ≡ length names
    variables = omega (arith, same.variables, is.variables, count)

    below : (t : List (Option Span)) → length t ≡ length names → VarsBelow (length t) f
    below t e = subst (λ (n : ℕ). VarsBelow n f) (count ∙ sym e) (vars_below f)

    to : (s : List ℕ) (t : List (Option Span)) → (length t ≡ length names) × Fits f s 1 (length s + 1) (spans_of t) → IsMember d s t
    to s t h =
        let g = (fits-accepted digits.marks_determine f s t within.functional (below t h.0)).0 h.1 in
        record { size = h.0 ∙ sym variables; lies = g.0; accepted = (same.texts (marked_text s t)).1 ((same_texts f a is (marked_text s t)).1 g.1) }

    from : (s : List ℕ) (t : List (Option Span)) → IsMember d s t → (length t ≡ length names) × Fits f s 1 (length s + 1) (spans_of t)
    from s t h =
        let size : length t ≡ length names = h.size ∙ variables in
        (size, (fits-accepted digits.marks_determine f s t within.functional (below t size)).1 (h.lies, (same_texts f a is (marked_text s t)).0 ((same.texts (marked_text s t)).0 h.accepted)))
