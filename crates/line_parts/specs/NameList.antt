-- Lists of names as lines write them.
use Rattle.std.specs.Prelude.{◌≡◌, ◌⊎◌, ℕ, true, List, [], ◌∷◌, ◌++◌, codes}
use Rattle.span_types.specs.Names.{is_name}

-- 1 to 64 bytes: a letter or `_`, then letters, digits, `_`, `.` or `-`
abbrev pub IsName : List ℕ → Type 0
IsName text = is_name text ≡ true

-- each of these is a name
abbrev pub AreNames : List (List ℕ) → Type 0
AreNames [] = Unit {0}
AreNames (name ∷ names) = IsName name × AreNames names

-- words with a comma between each two
abbrev pub with_commas : List ℕ → List (List ℕ) → List ℕ
with_commas word [] = word
with_commas word (next ∷ words) = word ++ 44 ∷ with_commas next words

-- one or more names with a comma between each two
abbrev pub AreListed : List ℕ → Type 0
AreListed text = (name : List ℕ) × (names : List (List ℕ)) × AreNames (name ∷ names) × (text ≡ with_commas name names)

-- `()`, or one or more names with a comma between each two
abbrev pub IsNameList : List ℕ → Type 0
IsNameList text = (text ≡ codes "()") ⊎ AreListed text
