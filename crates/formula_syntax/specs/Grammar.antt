-- The grammar of formula texts, by cases over the ways to cut the bytes.
use Rattle.std.specs.Prelude.{◌≡◌, ℕ, suc, max, Bool, true, false, ◌==◌, List, [], ◌∷◌, ◌++◌}
use Rattle.span_types.specs.FormulaTree.{FormulaTree, Set, Empty, Cat, Alt, Star, Plus, Opt, Capture}
use Rattle.formula_syntax.specs.Lexis.{is_special, Escape, Items, in_ranges, bytes_where, negated, sign}
use Rattle.span_types.specs.Names.{is_name}
use Rattle.formula_syntax.specs.Numbering.{Names, number_in, seen}

-- the parts of the grammar
pub data Part : Type 0 where
  alt : Part
  cat : Part
  reps : Part
  rep : Part
  atom : Part

-- Reads part s f d n m: the bytes s are this part of the grammar and mean f. At most d groups and captures are open at
-- once. The names n appeared before this part, and the names m have appeared after it.
pub data Reads : Part → List ℕ → FormulaTree → ℕ → Names → Names → Type 0 where
  -- ALT is one or more CAT, separated by | (124)
  one_branch : (s : List ℕ) (f : FormulaTree) (d : ℕ) (n m : Names) → Reads cat s f d n m → Reads alt s f d n m
  more_branches : (s a b : List ℕ) (f g h : FormulaTree) (d c e : ℕ) (n k m : Names) → s ≡ a ++ 124 ∷ b → Reads cat a g c n k → Reads alt b h e k m → f ≡ Alt g h → d ≡ max c e → Reads alt s f d n m
  -- CAT is nothing, or one or more REP
  nothing : (s : List ℕ) (f : FormulaTree) (d : ℕ) (n m : Names) → s ≡ [] → f ≡ Empty → d ≡ 0 → m ≡ n → Reads cat s f d n m
  something : (s : List ℕ) (f : FormulaTree) (d : ℕ) (n m : Names) → Reads reps s f d n m → Reads cat s f d n m
  last_rep : (s : List ℕ) (f : FormulaTree) (d : ℕ) (n m : Names) → Reads rep s f d n m → Reads reps s f d n m
  more_reps : (s a b : List ℕ) (f g h : FormulaTree) (d c e : ℕ) (n k m : Names) → s ≡ a ++ b → Reads rep a g c n k → Reads reps b h e k m → f ≡ Cat g h → d ≡ max c e → Reads reps s f d n m
  -- REP is an ATOM and any number of the signs * (42), + (43) and ? (63)
  plain : (s : List ℕ) (f : FormulaTree) (d : ℕ) (n m : Names) → Reads atom s f d n m → Reads rep s f d n m
  star : (s a : List ℕ) (f g : FormulaTree) (d : ℕ) (n m : Names) → s ≡ a ++ 42 ∷ [] → Reads rep a g d n m → f ≡ Star g → Reads rep s f d n m
  plus : (s a : List ℕ) (f g : FormulaTree) (d : ℕ) (n m : Names) → s ≡ a ++ 43 ∷ [] → Reads rep a g d n m → f ≡ Plus g → Reads rep s f d n m
  option : (s a : List ℕ) (f g : FormulaTree) (d : ℕ) (n m : Names) → s ≡ a ++ 63 ∷ [] → Reads rep a g d n m → f ≡ Opt g → Reads rep s f d n m
  -- ATOM is a LETTER, `.` (46), a set in brackets (91, 93), an ALT in parentheses (40, 41), or $ (36), a NAME and an ALT in braces (123, 125)
  letter : (s : List ℕ) (f : FormulaTree) (d b : ℕ) (n m : Names) → s ≡ b ∷ [] → is_special b ≡ false → f ≡ Set (bytes_where (λ c. c == b)) → d ≡ 0 → m ≡ n → Reads atom s f d n m
  escape : (s : List ℕ) (f : FormulaTree) (d b : ℕ) (n m : Names) → Escape s b → f ≡ Set (bytes_where (λ c. c == b)) → d ≡ 0 → m ≡ n → Reads atom s f d n m
  dot : (s : List ℕ) (f : FormulaTree) (d : ℕ) (n m : Names) → s ≡ 46 ∷ [] → f ≡ Set (bytes_where (λ c. true)) → d ≡ 0 → m ≡ n → Reads atom s f d n m
  set : (s a : List ℕ) (f : FormulaTree) (d : ℕ) (n m : Names) (neg : Bool) (rs : List (ℕ × ℕ)) → s ≡ 91 ∷ (sign neg ++ (a ++ 93 ∷ [])) → Items a rs → f ≡ Set (bytes_where (negated neg (in_ranges rs))) → d ≡ 0 → m ≡ n → Reads atom s f d n m
  group : (s a : List ℕ) (f : FormulaTree) (d e : ℕ) (n m : Names) → s ≡ 40 ∷ (a ++ 41 ∷ []) → Reads alt a f e n m → d ≡ suc e → Reads atom s f d n m
  capture : (s x a : List ℕ) (f g : FormulaTree) (d e : ℕ) (n m : Names) → s ≡ 36 ∷ (x ++ 123 ∷ (a ++ 125 ∷ [])) → is_name x ≡ true → Reads alt a g e (seen n x) m → f ≡ Capture (number_in n x) g → d ≡ suc e → Reads atom s f d n m
