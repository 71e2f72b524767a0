-- The position automaton of a formula: its occurrences of byte sets, numbered from the left, and how they follow one another. The first occurrence of the formula has the number n.
use Rattle.std.specs.Prelude.{◌≡◌, ℕ, ◌+◌, Bool, List, ◌⊎◌}
use Rattle.span_types.specs.FormulaTree.{FormulaTree, Set, Empty, Cat, Alt, Star, Plus, Opt, Capture, sets}
use Rattle.span_types.specs.Marks.{opening, closing}

-- occurrence o has the byte set c
abbrev pub HasSet : FormulaTree → ℕ → ℕ → List Bool → Type 0
HasSet (Set b) n o c = (o ≡ n) × (c ≡ b)
HasSet Empty n o c = ⊥
HasSet (Cat a b) n o c = HasSet a n o c ⊎ HasSet b (n + sets a) o c
HasSet (Alt a b) n o c = HasSet a n o c ⊎ HasSet b (n + sets a) o c
HasSet (Star a) n o c = HasSet a n o c
HasSet (Plus a) n o c = HasSet a n o c
HasSet (Opt a) n o c = HasSet a n o c
HasSet (Capture x a) n o c = HasSet a n o c

-- two numbers from two sets, and their sum
pub record SumOf (P Q : ℕ → Type 0) (m : ℕ) : Type 0 where
  pub left : ℕ
  pub right : ℕ
  pub in_left : P left
  pub in_right : Q right
  pub sum : m ≡ left + right

-- Null: a mark with which the formula matches the empty word
abbrev pub IsNull : FormulaTree → ℕ → Type 0
IsNull (Set b) m = ⊥
IsNull Empty m = m ≡ 0
IsNull (Cat a b) m = SumOf (IsNull a) (IsNull b) m
IsNull (Alt a b) m = IsNull a m ⊎ IsNull b m
IsNull (Star a) m = (m ≡ 0) ⊎ IsNull a m
IsNull (Plus a) m = IsNull a m
IsNull (Opt a) m = (m ≡ 0) ⊎ IsNull a m
IsNull (Capture x a) m = (y : ℕ) × IsNull a y × (m ≡ opening x + closing x + y)

-- First: a mark, and the occurrence that reads the first byte after it
abbrev pub IsFirst : FormulaTree → ℕ → ℕ → ℕ → Type 0
IsFirst (Set b) n m o = (m ≡ 0) × (o ≡ n)
IsFirst Empty n m o = ⊥
IsFirst (Cat a b) n m o = IsFirst a n m o ⊎ SumOf (IsNull a) (λ y. IsFirst b (n + sets a) y o) m
IsFirst (Alt a b) n m o = IsFirst a n m o ⊎ IsFirst b (n + sets a) m o
IsFirst (Star a) n m o = IsFirst a n m o
IsFirst (Plus a) n m o = IsFirst a n m o
IsFirst (Opt a) n m o = IsFirst a n m o
IsFirst (Capture x a) n m o = (y : ℕ) × IsFirst a n y o × (m ≡ opening x + y)

-- Last: the occurrence that reads the last byte, and a mark after it
abbrev pub IsLast : FormulaTree → ℕ → ℕ → ℕ → Type 0
IsLast (Set b) n o m = (o ≡ n) × (m ≡ 0)
IsLast Empty n o m = ⊥
IsLast (Cat a b) n o m = IsLast b (n + sets a) o m ⊎ SumOf (λ y. IsLast a n o y) (IsNull b) m
IsLast (Alt a b) n o m = IsLast a n o m ⊎ IsLast b (n + sets a) o m
IsLast (Star a) n o m = IsLast a n o m
IsLast (Plus a) n o m = IsLast a n o m
IsLast (Opt a) n o m = IsLast a n o m
IsLast (Capture x a) n o m = (y : ℕ) × IsLast a n o y × (m ≡ y + closing x)

-- the last occurrence of one part and the first of the next, with the marks of both between them
abbrev pub Joins : (ℕ → ℕ → Type 0) → (ℕ → ℕ → Type 0) → ℕ → ℕ → ℕ → Type 0
Joins Last First o m p = SumOf (λ y. Last o y) (λ y. First y p) m

-- Follow: an occurrence, a mark, and the occurrence that reads the next byte
abbrev pub IsFollow : FormulaTree → ℕ → ℕ → ℕ → ℕ → Type 0
IsFollow (Set b) n o m p = ⊥
IsFollow Empty n o m p = ⊥
IsFollow (Cat a b) n o m p =
    IsFollow a n o m p ⊎ IsFollow b (n + sets a) o m p ⊎ Joins (IsLast a n) (IsFirst b (n + sets a)) o m p
IsFollow (Alt a b) n o m p = IsFollow a n o m p ⊎ IsFollow b (n + sets a) o m p
IsFollow (Star a) n o m p = IsFollow a n o m p ⊎ Joins (IsLast a n) (IsFirst a n) o m p
IsFollow (Plus a) n o m p = IsFollow a n o m p ⊎ Joins (IsLast a n) (IsFirst a n) o m p
IsFollow (Opt a) n o m p = IsFollow a n o m p
IsFollow (Capture x a) n o m p = IsFollow a n o m p

-- Edges: from state 0, the start, or from an occurrence, over a mark, to an occurrence; they are numbered from 1
abbrev pub IsEdge : FormulaTree → ℕ → ℕ → ℕ → Type 0
IsEdge f o m p = ((o ≡ 0) × IsFirst f 1 m p) ⊎ IsFollow f 1 o m p

-- Ends: a state in which a text may end, and the last mark
abbrev pub IsEnd : FormulaTree → ℕ → ℕ → Type 0
IsEnd f o m = ((o ≡ 0) × IsNull f m) ⊎ IsLast f 1 o m
