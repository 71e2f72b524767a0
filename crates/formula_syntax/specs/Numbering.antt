-- The numbers of variables, by the first appearance of their names.
use Rattle.std.specs.Prelude.{ℕ, suc, List, [], ◌∷◌, if◌then◌else◌}
use Rattle.std.specs.Str.{bytes_eq}

-- names of variables in number order
abbrev pub Names : Type 0
Names = List (List ℕ)

-- the number of a name: its index, or the next one if it is new
abbrev pub number_in : Names → List ℕ → ℕ
number_in [] x = 0
number_in (y ∷ ys) x = if bytes_eq y x then 0 else suc (number_in ys x)

-- the names, with one that is added last if it is new
abbrev pub seen : Names → List ℕ → Names
seen [] x = x ∷ []
seen (y ∷ ys) x = if bytes_eq y x then y ∷ ys else y ∷ seen ys x
