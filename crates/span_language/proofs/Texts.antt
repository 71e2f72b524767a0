-- The text of a query, of a tuple and of kept variables has exactly one meaning.
use Rattle.std.proofs.Common.{◌≡◌, ℕ, List, [], ◌∷◌, refl, sym, ◌∙◌, ap, subst, inl, inr, codes}
use Rattle.span_language.proofs.Names.{AreNames, CountIsAbove, Formula, FormulaOf, FormulaTree, from_test, has-outcome, is-outcome, ListStart, First, After, At}
use Rattle.span_language.proofs.Names.{IsName, IsQueryOf, IsStartRefused, IsTextRefused, IsTupleRefused, IsVarsText, Leaf, name_no_comma, names_of, no_cut, NoByte, not_true, one_cut, one_tuple_of}
use Rattle.span_language.proofs.Names.{Outcome, outcome, Query, Refusal, Tuple, TupleText, with_commas}
use Rattle.formula_syntax.specs.FormulaOf as formula
use Rattle.report_text.specs.declared.refusal.Refusal.TheVariants as why

abbrev Name : Type 0
Name = List ℕ

-- no list of names is a pair of brackets
no_brackets : (name : Name) (names : List Name) → IsName name → codes "()" ≡ with_commas name names → ⊥
no_brackets name [] named e = not_true (subst IsName (sym e) named)
no_brackets name (next ∷ names) named e = no_cut 44 name (with_commas next names) (subst (NoByte 44) e (from_test 44 (codes "()") refl))

one_listed : (n m : Name) (ns ms : List Name) → AreNames (n ∷ ns) → AreNames (m ∷ ms) → with_commas n ns ≡ with_commas m ms → n ∷ ns ≡ m ∷ ms
one_listed n m [] [] h k e = ap (λ (z : Name). z ∷ []) e
one_listed n m [] (y ∷ ms) h k e = absurd (no_cut 44 m (with_commas y ms) (subst (NoByte 44) e (name_no_comma n h.0)))
one_listed n m (x ∷ ns) [] h k e = absurd (no_cut 44 n (with_commas x ns) (subst (NoByte 44) (sym e) (name_no_comma m k.0)))
one_listed n m (x ∷ ns) (y ∷ ms) h k e =
    let cut = one_cut 44 n (with_commas x ns) m (with_commas y ms) (name_no_comma n h.0) (name_no_comma m k.0) e in
    let rest = one_listed x y ns ms h.1 k.1 cut.1 in
    λ i. cut.0 i ∷ rest i

pub one_names : (text : List ℕ) (ns ms : List Name) → IsVarsText text ns → IsVarsText text ms → ns ≡ ms
one_names text [] [] h k = refl
one_names text [] (m ∷ ms) h k = absurd (no_brackets m ms k.0.0 (sym h ∙ k.1))
one_names text (n ∷ ns) [] h k = absurd (no_brackets n ns h.0.0 (sym k ∙ h.1))
one_names text (n ∷ ns) (m ∷ ms) h k = one_listed n m ns ms h.0 k.0 (sym h.1 ∙ k.1)

pub one_tuple : (q : Query) (word : List ℕ) (t u : Tuple) → TupleText word (names_of q) t → TupleText word (names_of q) u → t ≡ u
one_tuple q word t u h k = (one_tuple_of word (names_of q) (names_of q) t u h k).1

-- the text has names other than its own, or is no such text
pub tuple_once : (q : Query) (word : List ℕ) (t : Tuple) (r : Refusal) → TupleText word (names_of q) t → IsTupleRefused q word r → ⊥
tuple_once q word t r h (inl k) = k.0 (names_of q, t, h)
tuple_once q word t r h (inr ((names, values, text, other), is)) = other (one_tuple_of word names (names_of q) values t text h).0

pub one_tuple_refusal : (q : Query) (word : List ℕ) (r s : Refusal) → IsTupleRefused q word r → IsTupleRefused q word s → r ≡ s
one_tuple_refusal q word r s (inl h) (inl k) = h.1 ∙ sym k.1
one_tuple_refusal q word r s (inl h) (inr ((names, values, text, other), is)) = absurd (h.0 (names, values, text))
one_tuple_refusal q word r s (inr ((names, values, text, other), is)) (inl k) = absurd (k.0 (names, values, text))
one_tuple_refusal q word r s (inr h) (inr k) = h.1 ∙ sym k.1

pub one_start_refusal : (q : Query) (start : ListStart) (r s : Refusal) → IsStartRefused q start r → IsStartRefused q start s → r ≡ s
one_start_refusal q First r s h k = absurd h
one_start_refusal q (After word) r s h k = one_tuple_refusal q word r s h k
one_start_refusal q (At m) r s h k = absurd h

one_outcome : (s : List ℕ) (o p : Outcome) → FormulaOf s o → FormulaOf s p → o ≡ p
one_outcome s o p h k = is-outcome s o h ∙ sym (is-outcome s p k)

same_formulas : (f g : FormulaTree) (n m : List Name) → Formula f n ≡ Formula g m → (f ≡ g) × (n ≡ m)
same_formulas f g n m e = (cc, cc)

pub one_query : (most : ℕ) (s : List ℕ) (q p : Query) → IsQueryOf most s q → IsQueryOf most s p → q ≡ p
one_query most s q p h k =
    let same = same_formulas h.formula k.formula h.names k.names (one_outcome s (Formula h.formula h.names) (Formula k.formula k.names) h.outcome k.outcome) in
    h.query ∙ (λ i. Leaf (same.0 i) (same.1 i)) ∙ sym k.query

-- the rejection in an outcome; that of a formula is about its reachable sets
abbrev Tells : ℕ → Outcome → Refusal → Type 0
Tells most (formula.TooLong len) r = r ≡ why.FormulaTooLong len
Tells most formula.BadText r = r ≡ why.BadFormula
Tells most formula.TooDeep r = r ≡ why.TooDeep
Tells most formula.TooManyPositions r = r ≡ why.TooManyPositions
Tells most formula.TooManyVariables r = r ≡ why.TooManyVariables
Tells most (formula.NotFunctional name) r = r ≡ why.NotFunctional name
Tells most (Formula f names) r = CountIsAbove most f × (r ≡ why.TooManyStates)

tells_one : (most : ℕ) (o : Outcome) (r s : Refusal) → Tells most o r → Tells most o s → r ≡ s
tells_one most (Formula f names) r s h k = h.1 ∙ sym k.1
tells_one most _ r s h k = h ∙ sym k

-- each outcome of a text determines its rejection
tells : (most : ℕ) (s : List ℕ) (p : Outcome) (r : Refusal) → FormulaOf s p → IsTextRefused most s r → Tells most p r
tells most s p r of h = by r h
  where
    at : (o : Outcome) (r : Refusal) → FormulaOf s o → Tells most o r → Tells most p r
    at o r h is = subst (λ z. Tells most z r) (one_outcome s o p h of) is

    by : (r : Refusal) → IsTextRefused most s r → Tells most p r
    by (why.FormulaTooLong len) h = at (formula.TooLong len) (why.FormulaTooLong len) h refl
    by why.BadFormula h = at formula.BadText why.BadFormula h refl
    by why.TooDeep h = at formula.TooDeep why.TooDeep h refl
    by why.TooManyPositions h = at formula.TooManyPositions why.TooManyPositions h refl
    by why.TooManyVariables h = at formula.TooManyVariables why.TooManyVariables h refl
    by (why.NotFunctional name) h = at (formula.NotFunctional name) (why.NotFunctional name) h refl
    by why.TooManyStates h = at (Formula h.formula h.names) why.TooManyStates h.outcome (h.many, refl)
    by _ h = absurd h

pub text_once : (most : ℕ) (s : List ℕ) (q : Query) (r : Refusal) → IsQueryOf most s q → IsTextRefused most s r → ⊥
text_once most s q r h k = h.few (tells most s (Formula h.formula h.names) r h.outcome k).0

pub one_text_refusal : (most : ℕ) (s : List ℕ) (r t : Refusal) → IsTextRefused most s r → IsTextRefused most s t → r ≡ t
one_text_refusal most s r t h k = tells_one most (outcome s) r t (tells most s (outcome s) r (has-outcome s) h) (tells most s (outcome s) t (has-outcome s) k)
