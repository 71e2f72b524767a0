-- The lines of a script.
use Rattle.std.specs.Prelude.{◌≡◌, ◌≢◌, ℕ, ◌==◌, List, [], ◌∷◌, ◌++◌, if◌then◌else◌}

-- the byte becomes the first of the first line, or a line of its own if there is none
abbrev pub onto_first : ℕ → List (List ℕ) → List (List ℕ)
onto_first b [] = (b ∷ []) ∷ []
onto_first b (line ∷ lines) = (b ∷ line) ∷ lines

-- each newline ends a line, and the bytes after the last newline are a line unless there are none
abbrev pub lines_of : List ℕ → List (List ℕ)
lines_of [] = []
lines_of (b ∷ rest) = if b == 10 then [] ∷ lines_of rest else onto_first b (lines_of rest)

-- the byte becomes the first of the first line, if there is one
abbrev pub onto_whole : ℕ → List (List ℕ) → List (List ℕ)
onto_whole b [] = []
onto_whole b (line ∷ lines) = (b ∷ line) ∷ lines

-- the lines that end with a newline
abbrev pub whole_lines : List ℕ → List (List ℕ)
whole_lines [] = []
whole_lines (b ∷ rest) = if b == 10 then [] ∷ whole_lines rest else onto_whole b (whole_lines rest)

-- no byte is a newline
abbrev pub NoNewline : List ℕ → Type 0
NoNewline [] = Unit {0}
NoNewline (b ∷ bs) = (b ≢ 10) × NoNewline bs

-- these bytes are those lines and the beginning of one more
pub record IsCut (bytes : List ℕ) (done : List (List ℕ)) (begun : List ℕ) : Type 0 where
  pub lines : (tail : List ℕ) → lines_of (bytes ++ tail) ≡ done ++ lines_of (begun ++ tail)
  pub whole : (tail : List ℕ) → whole_lines (bytes ++ tail) ≡ done ++ whole_lines (begun ++ tail)
  pub plain : NoNewline begun
