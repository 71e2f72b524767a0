-- Lists of variables to keep.
use Rattle.std.specs.Prelude.{◌≡◌, ◌⊎◌, ℕ, List, [], ◌∷◌, codes, Contains}
use Rattle.line_parts.specs.NameList.{AreNames, with_commas}
use Rattle.query_book.specs.declared.refusal.CombineRefusal.{CombineRefusal}
use Rattle.query_book.specs.declared.refusal.CombineRefusal.TheVariants.{NoSuchQuery, QueryTooLarge, OtherVariables, TooManyVariables, TooManyStates, NoMemory}

-- VARS: `()` for no names, otherwise the names separated by commas
abbrev pub IsVarsText : List ℕ → List (List ℕ) → Type 0
IsVarsText text [] = text ≡ codes "()"
IsVarsText text (name ∷ names) = AreNames (name ∷ names) × (text ≡ with_commas name names)

-- a name of the list isn't a variable or occurs twice
abbrev pub HasOther : List (List ℕ) → List (List ℕ) → Type 0
HasOther vars [] = ⊥
HasOther vars (name ∷ names) = (Contains vars name → ⊥) ⊎ (Contains names name ⊎ HasOther vars names)

-- why a name isn't appended to others
abbrev pub IsOther : List (List ℕ) → List (List ℕ) → List ℕ → CombineRefusal → Type 0
IsOther vars names name why = (why ≡ NoMemory) ⊎ ((why ≡ OtherVariables) × ((Contains vars name → ⊥) ⊎ Contains names name))

-- why the variables of a text aren't kept
abbrev pub IsKeepRefused : List (List ℕ) → List ℕ → CombineRefusal → Type 0
IsKeepRefused vars keep (NoSuchQuery name) = ⊥
IsKeepRefused vars keep (QueryTooLarge parts) = ⊥
IsKeepRefused vars keep OtherVariables = (names : List (List ℕ)) × IsVarsText keep names × HasOther vars names
IsKeepRefused vars keep TooManyVariables = ⊥
IsKeepRefused vars keep TooManyStates = ⊥
IsKeepRefused vars keep NoMemory = Unit {0}
