-- A read from a list at an index.
use Rattle.std.proofs.Common.{◌≡◌, ℕ, ◌+◌, ◌≤◌, List, [], ◌++◌, length, take, drop, sym, ◌∙◌, ap, take-append-drop}
use Rattle.std.proofs.lemmas.List.{drop_all, drop-drop}

-- what was copied from the place on, and then the rest from the new place on
pub moved : (all into : List ℕ) (position n : ℕ) → take n into ≡ take n (drop position all) → drop position all ≡ take n into ++ drop (position + n) all
moved all into position n is =
    sym (take-append-drop n (drop position all))
    ∙ ap (λ (l : List ℕ). l ++ drop n (drop position all)) (sym is)
    ∙ ap (λ (l : List ℕ). take n into ++ l) (drop-drop n position all)

pub ended : (all : List ℕ) (position n : ℕ) → length all ≤ position + n → drop (position + n) all ≡ []
ended all position n past = drop_all (position + n) all past
