-- Which spans a formula assigns on a text (Fagin et al., Document Spanners, JACM 2015).
use Rattle.std.specs.Prelude.{◌≡◌, ℕ, ◌+◌, ◌-◌, ◌<◌, ◌≤◌, Bool, true, false, ◌==◌, ◌⊎◌, List, Some, None, if◌then◌else◌, slice_get, slice_index_or}
use Rattle.span_types.specs.FormulaTree.{FormulaTree, Set, Empty, Cat, Alt, Star, Plus, Opt, Capture, has_var}
use Rattle.span_types.specs.Marks.{Spans}

-- the byte at a position of the text is a member
pub record ByteIn (s : List ℕ) (i : ℕ) (members : List Bool) : Type 0 where
  pub byte : ℕ
  pub positive : 1 ≤ i
  pub there : slice_get s (i - 1) ≡ Some byte
  pub is_member : slice_index_or members byte false ≡ true

-- any number of parts in a row, none of them empty
pub data Turns (P : ℕ → ℕ → Type 0) : ℕ → ℕ → Type 0 where
  done : (i j : ℕ) → i ≡ j → Turns P i j
  more : (i m j : ℕ) → i < m → m ≤ j → P i m → Turns P m j → Turns P i j

-- assigns no span
abbrev pub NoSpans : Spans → Type 0
NoSpans t = (v : ℕ) → t v ≡ None

-- assigns spans to variables of the formula alone
abbrev pub IsWithin : FormulaTree → Spans → Type 0
IsWithin f t = (v : ℕ) → has_var f v ≡ false → t v ≡ None

-- the spans of the variables of a formula
abbrev pub on_vars : FormulaTree → Spans → Spans
on_vars f t v = if has_var f v then t v else None

-- without one variable
abbrev pub without : ℕ → Spans → Spans
without x t v = if x == v then None else t v

-- Fits by recursion on the formula, for spans of its own variables alone
abbrev pub FitsIn : FormulaTree → List ℕ → ℕ → ℕ → Spans → Type 0
FitsIn (Set b) s i j t = (j ≡ i + 1) × ByteIn s i b
FitsIn Empty s i j t = i ≡ j
FitsIn (Cat a b) s i j t =
    (m : ℕ) × (i ≤ m) × (m ≤ j) × FitsIn a s i m (on_vars a t) × FitsIn b s m j (on_vars b t)
FitsIn (Alt a b) s i j t = (IsWithin a t × FitsIn a s i j t) ⊎ (IsWithin b t × FitsIn b s i j t)
FitsIn (Star a) s i j t = Turns (λ g h. FitsIn a s g h t) i j
FitsIn (Plus a) s i j t =
    (m : ℕ) × (i ≤ m) × (m ≤ j) × FitsIn a s i m t × Turns (λ g h. FitsIn a s g h t) m j
FitsIn (Opt a) s i j t = ((i ≡ j) × NoSpans t) ⊎ FitsIn a s i j t
FitsIn (Capture x a) s i j t = (t x ≡ Some (record { start = i; end = j })) × FitsIn a s i j (without x t)

-- Fits: the formula matches the text s from position i to position j and assigns exactly the spans t
abbrev pub Fits : FormulaTree → List ℕ → ℕ → ℕ → Spans → Type 0
Fits f s i j t = IsWithin f t × FitsIn f s i j t
