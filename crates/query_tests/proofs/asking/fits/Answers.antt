use Rattle.std.proofs.Common.{◌≡◌, ℕ, ap, ◌∙◌, sym, length, List, Option, Some, option_map, unwrap_or}
use Rattle.std.proofs.lemmas.Bool.{eqb-true}
use Rattle.span_types.specs.Query.{Query}
use Rattle.span_types.specs.Rel.{names_of}
use Rattle.query_tests.proofs.asking.fits.Goals as goal

some_is : {X : Type 0} {x y : X} → Some x ≡ Some y → x ≡ y
some_is {X} {x} p = ap (λ o. unwrap_or o x) p

same-size : (o : Option Query) (names : List (List ℕ)) (n m k : ℕ) → option_map names_of o ≡ Some names → n ≡ length names → m ≡ k → n ≡ m → (q : Query) → o ≡ Some q → k ≡ length (names_of q)
same-size o names n m k e en em same q i =
    let f : names_of q ≡ names = some_is (sym (ap (λ x. option_map names_of x) i) ∙ e) in
    sym em ∙ (sym same ∙ (en ∙ ap length (sym f)))

pub returns-in-Ok : goal.returns-in-Ok
returns-in-Ok c = λ yes. same-size _ c.in-Ok.vars.now c.count.result c.count-in-Ok.result (length c.args.tuple.now) c.in-Ok.ensures c.count.ensures.count c.count-in-Ok.ensures.value (eqb-true c.count.result c.count-in-Ok.result yes)
