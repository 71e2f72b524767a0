-- Codes of formulas and queries, by which a proof distinguishes their values: a tree as the list of its parts, each
-- after its own parts.
use Rattle.std.specs.Prelude.{◌≡◌, ◌⊎◌, ℕ, zero, suc, Bool, true, false, List, [], ◌∷◌, refl}
use Rattle.std.specs.Coded.{Coded, code_by, coded_ℕ, coded_bool, coded_list, coded×, coded⊎}
use Rattle.std.proofs.Common.{inl, inr, ◌∙◌, ap}
use Rattle.span_types.specs.FormulaTree.{FormulaTree, Set, Empty, Cat, Alt, Star, Plus, Opt, Capture}
use Rattle.span_types.specs.Query.{Query, Leaf, Union, Join, Project}

-- a set, a capture of a variable, or one of the other forms by its index in their list
abbrev FormulaPart : Type 0
FormulaPart = List Bool ⊎ (ℕ ⊎ ℕ)

-- the parts of a formula, before further ones
abbrev formula_parts : FormulaTree → List FormulaPart → List FormulaPart
formula_parts (Set b) rest = inl b ∷ rest
formula_parts Empty rest = inr (inr 0) ∷ rest
formula_parts (Cat a b) rest = formula_parts a (formula_parts b (inr (inr 1) ∷ rest))
formula_parts (Alt a b) rest = formula_parts a (formula_parts b (inr (inr 2) ∷ rest))
formula_parts (Star a) rest = formula_parts a (inr (inr 3) ∷ rest)
formula_parts (Plus a) rest = formula_parts a (inr (inr 4) ∷ rest)
formula_parts (Opt a) rest = formula_parts a (inr (inr 5) ∷ rest)
formula_parts (Capture x a) rest = formula_parts a (inr (inl x) ∷ rest)

-- one more part, on the formulas that are done, the last one first
abbrev with_sign : ℕ → List FormulaTree → List FormulaTree
with_sign zero done = Empty ∷ done
with_sign (suc zero) (b ∷ a ∷ done) = Cat a b ∷ done
with_sign (suc (suc zero)) (b ∷ a ∷ done) = Alt a b ∷ done
with_sign (suc (suc (suc zero))) (a ∷ done) = Star a ∷ done
with_sign (suc (suc (suc (suc zero)))) (a ∷ done) = Plus a ∷ done
with_sign (suc (suc (suc (suc (suc n))))) (a ∷ done) = Opt a ∷ done
with_sign _ done = done

abbrev with_capture : ℕ → List FormulaTree → List FormulaTree
with_capture x [] = []
with_capture x (a ∷ done) = Capture x a ∷ done

abbrev with_part : FormulaPart → List FormulaTree → List FormulaTree
with_part (inl b) done = Set b ∷ done
with_part (inr (inl x)) done = with_capture x done
with_part (inr (inr n)) done = with_sign n done

abbrev formulas_of : List FormulaPart → List FormulaTree → List FormulaTree
formulas_of [] done = done
formulas_of (p ∷ ps) done = formulas_of ps (with_part p done)

abbrev first_formula : List FormulaTree → FormulaTree
first_formula [] = Empty
first_formula (a ∷ done) = a

pub formulas_of-parts : (f : FormulaTree) (rest : List FormulaPart) (done : List FormulaTree) → formulas_of (formula_parts f rest) done ≡ formulas_of rest (f ∷ done)
formulas_of-parts (Set b) rest done = refl
formulas_of-parts Empty rest done = refl
formulas_of-parts (Cat a b) rest done = formulas_of-parts a (formula_parts b (inr (inr 1) ∷ rest)) done ∙ formulas_of-parts b (inr (inr 1) ∷ rest) (a ∷ done)
formulas_of-parts (Alt a b) rest done = formulas_of-parts a (formula_parts b (inr (inr 2) ∷ rest)) done ∙ formulas_of-parts b (inr (inr 2) ∷ rest) (a ∷ done)
formulas_of-parts (Star a) rest done = formulas_of-parts a (inr (inr 3) ∷ rest) done
formulas_of-parts (Plus a) rest done = formulas_of-parts a (inr (inr 4) ∷ rest) done
formulas_of-parts (Opt a) rest done = formulas_of-parts a (inr (inr 5) ∷ rest) done
formulas_of-parts (Capture x a) rest done = formulas_of-parts a (inr (inl x) ∷ rest) done

abbrev pub formula_code : Coded FormulaTree
formula_code = code_by (List FormulaPart) (coded_list (coded⊎ (coded_list coded_bool) (coded⊎ coded_ℕ coded_ℕ)))
    (λ f. formula_parts f []) (λ ps. first_formula (formulas_of ps [])) (λ f. ap first_formula (formulas_of-parts f [] []))

-- a formula with its names, a projection to names, a union or a join
abbrev QueryPart : Type 0
QueryPart = (FormulaTree × List (List ℕ)) ⊎ (List (List ℕ) ⊎ Bool)

abbrev query_parts : Query → List QueryPart → List QueryPart
query_parts (Leaf f names) rest = inl (f, names) ∷ rest
query_parts (Union a b) rest = query_parts a (query_parts b (inr (inr true) ∷ rest))
query_parts (Join a b) rest = query_parts a (query_parts b (inr (inr false) ∷ rest))
query_parts (Project a names) rest = query_parts a (inr (inl names) ∷ rest)

abbrev with_query : QueryPart → List Query → List Query
with_query (inl p) done = Leaf p.0 p.1 ∷ done
with_query (inr (inl names)) (a ∷ done) = Project a names ∷ done
with_query (inr (inr true)) (b ∷ a ∷ done) = Union a b ∷ done
with_query (inr (inr false)) (b ∷ a ∷ done) = Join a b ∷ done
with_query _ done = done

abbrev queries_of : List QueryPart → List Query → List Query
queries_of [] done = done
queries_of (p ∷ ps) done = queries_of ps (with_query p done)

abbrev first_query : List Query → Query
first_query [] = Leaf Empty []
first_query (a ∷ done) = a

pub queries_of-parts : (q : Query) (rest : List QueryPart) (done : List Query) → queries_of (query_parts q rest) done ≡ queries_of rest (q ∷ done)
queries_of-parts (Leaf f names) rest done = refl
queries_of-parts (Union a b) rest done = queries_of-parts a (query_parts b (inr (inr true) ∷ rest)) done ∙ queries_of-parts b (inr (inr true) ∷ rest) (a ∷ done)
queries_of-parts (Join a b) rest done = queries_of-parts a (query_parts b (inr (inr false) ∷ rest)) done ∙ queries_of-parts b (inr (inr false) ∷ rest) (a ∷ done)
queries_of-parts (Project a names) rest done = queries_of-parts a (inr (inl names) ∷ rest) done

abbrev pub query_code : Coded Query
query_code = code_by (List QueryPart) (coded_list (coded⊎ (coded× formula_code (coded_list (coded_list coded_ℕ))) (coded⊎ (coded_list (coded_list coded_ℕ)) coded_bool)))
    (λ q. query_parts q []) (λ ps. first_query (queries_of ps [])) (λ q. ap first_query (queries_of-parts q [] []))
