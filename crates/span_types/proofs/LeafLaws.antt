-- The answers of a Leaf, and of a query.
use Rattle.std.proofs.Common.{◌≡◌, ◌≢◌, ℕ, suc, ◌+◌, ◌<◌, ◌==◌, ◌&&◌, ◌||◌, Bool, true, false, List, [], ◌∷◌, length, Option, None, if◌then◌else◌, refl, sym, ap, subst, ◌∙◌, arith, eq-eqb, get_or}
use Rattle.std.specs.Prelude.{AllPairs, ◌↔◌}
use Rattle.std.proofs.lemmas.Bool.{eqb-true}
use Rattle.span_types.specs.declared.tuple.Span.{Span}
use Rattle.span_types.specs.FormulaTree.{FormulaTree}
use Rattle.span_types.specs.Marks.{spans_of}
use Rattle.span_types.specs.Fits.{Fits}
use Rattle.span_types.specs.Query.{Query, Leaf}
use Rattle.span_types.specs.VarList.{AreVars}
use Rattle.span_types.specs.Answers.{IsAnswers}
use Rattle.span_types.specs.Rel.{same_name, has_name, named, names_of, IsNamedAnswer, IsAnswersOf}
use Rattle.span_types.proofs.AnswerLaws.{one-rising}
use Rattle.span_types.proofs.NameLaws.{apart, named-tells}

pub leaf-answers : (f : FormulaTree) (names : List (List ℕ)) (s : List ℕ) (ts : List (List (Option Span))) → AreVars names → IsAnswersOf (Leaf f names) s ts ↔ IsAnswers f (length names) s ts
leaf-answers f names s ts vars = (
  (λ a. record { rising = a.rising; members = λ t. ((λ h. from t ((a.members t).0 h)), (λ h. (a.members t).1 (to t h))) }),
  (λ a. record { rising = a.rising; members = λ t. ((λ h. to t ((a.members t).0 h)), (λ h. (a.members t).1 (from t h))) }),
)
  where
    to : (t : List (Option Span)) → (length t ≡ length names) × Fits f s 1 (length s + 1) (spans_of t) → (length t ≡ length names) × IsNamedAnswer names (λ t. Fits f s 1 (length s + 1) (spans_of t)) (named names t)
    to t h = (h.0, record { tuple = t; size = h.0; fits = h.1; read = λ n. refl })

    from : (t : List (Option Span)) → (length t ≡ length names) × IsNamedAnswer names (λ t. Fits f s 1 (length s + 1) (spans_of t)) (named names t) → (length t ≡ length names) × Fits f s 1 (length s + 1) (spans_of t)
    from t h = (h.0, subst (λ u. Fits f s 1 (length s + 1) (spans_of u)) (named-tells names h.1.tuple t (apart names vars.distinct) h.1.size h.0 (λ n. sym (h.1.read n))) h.1.fits)

pub one-query-list : (q : Query) (s : List ℕ) (ts us : List (List (Option Span))) → IsAnswersOf q s ts → IsAnswersOf q s us → ts ≡ us
one-query-list q s ts us a b = one-rising (length (names_of q)) ts us a.rising b.rising (λ t h. ((a.members t).0 h).0) (λ t h. (b.members t).1 ((a.members t).0 h)) (λ t h. (a.members t).1 ((b.members t).0 h))
