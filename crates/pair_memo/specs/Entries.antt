-- The entries of a memo table: two numbers, and a number for them.
use Rattle.std.specs.Prelude.{ℕ, List, [], ◌∷◌, Option, Some, None}

abbrev pub Entry : Type 0
Entry = (ℕ × ℕ) × ℕ

-- the entries of slots, in their order
abbrev pub entries_of : List (Option Entry) → List Entry
entries_of [] = []
entries_of (None ∷ slots) = entries_of slots
entries_of (Some e ∷ slots) = e ∷ entries_of slots
