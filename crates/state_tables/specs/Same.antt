-- How tables are compared.
use Rattle.std.proofs.Common.{◌≡◌, ℕ, Bool, true, false, ◌&&◌, nat_eq, refl, ap, ◌∙◌, List, [], ◌∷◌, Option, Some, None}
use Rattle.std.specs.Option.{option_eq}
use Rattle.std.specs.Ordering.{on, eq_of_both}
use Rattle.std.specs.Cmp.Lexicographic.{pointwise}
use Rattle.std.proofs.lemmas.Bool.{eqb-true}
use Rattle.state_tables.specs.Table.{Row}

abbrev pub row_eq : Row → Row → Bool
row_eq = eq_of_both (on (λ r. r.unmarked) (option_eq nat_eq)) (on (λ r. r.marked) nat_eq)

abbrev pub table_eq : List Row → List Row → Bool
table_eq = pointwise row_eq

and-both : (x y : Bool) → (x && y) ≡ true → (x ≡ true) × (y ≡ true)
and-both true y h = (refl, h)
and-both false y h = cc

option-same : (x y : Option ℕ) → option_eq nat_eq x y ≡ true → x ≡ y
option-same None None h = refl
option-same None (Some y) h = cc
option-same (Some x) None h = cc
option-same (Some x) (Some y) h = ap Some (eqb-true x y h)

row-same : (x y : Row) → row_eq x y ≡ true → x ≡ y
row-same x y h =
    let both = and-both (option_eq nat_eq x.unmarked y.unmarked) (nat_eq x.marked y.marked) h in
    let u : x.unmarked ≡ y.unmarked = option-same x.unmarked y.unmarked both.0 in
    let m : x.marked ≡ y.marked = eqb-true x.marked y.marked both.1 in
    let make : Option ℕ → ℕ → Row = λ u n. record { unmarked = u; marked = n } in
    ap (λ z. make z x.marked) u ∙ ap (make y.unmarked) m

-- tables that compare as equal are the same
pub table_same : (xs ys : List Row) → table_eq xs ys ≡ true → xs ≡ ys
table_same [] [] h = refl
table_same [] (y ∷ ys) h = cc
table_same (x ∷ xs) [] h = cc
table_same (x ∷ xs) (y ∷ ys) h =
    let both = and-both (row_eq x y) (table_eq xs ys) h in
    let e : x ≡ y = row-same x y both.0 in
    let es : xs ≡ ys = table_same xs ys both.1 in
    cc
