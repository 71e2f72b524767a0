-- Laws of the grammar, and the examples.
use Rattle.std.specs.Prelude.{◌≡◌, ◌==◌, ℕ, List, [], ◌∷◌, codes}
use Rattle.formula_syntax.specs.Numbering.{Names}
use Rattle.span_types.specs.FormulaTree.{FormulaTree, Set, Empty, Cat, Alt, Star, Opt, Capture}
use Rattle.formula_syntax.specs.Lexis.{bytes_where}
use Rattle.formula_syntax.specs.FormulaOf.{IsReading, Outcome, FormulaOf}

-- a text has at most one reading
abbrev pub OneReading : Type 0
OneReading = (s : List ℕ) (f g : FormulaTree) (n m : Names) (d e : ℕ) → IsReading s f n d → IsReading s g m e → (f ≡ g) × (n ≡ m) × (d ≡ e)

-- a text has exactly one outcome
pub record OneOutcome : Type 0 where
  pub some : (s : List ℕ) → (o : Outcome) × FormulaOf s o
  pub one : (s : List ℕ) (o p : Outcome) → FormulaOf s o → FormulaOf s p → o ≡ p

-- the set of one byte
abbrev pub one_byte : ℕ → FormulaTree
one_byte b = Set (bytes_where (λ c. c == b))

abbrev pub NoReading : List ℕ → Type 0
NoReading s = (f : FormulaTree) (names : Names) (d : ℕ) → IsReading s f names d → ⊥

-- readings of some texts, and texts that have none
pub record Rows : Type 0 where
  pub empty : IsReading [] Empty [] 0
  pub group : IsReading (codes "()") Empty [] 1
  pub branches : IsReading (codes "a|b|") (Alt (one_byte 97) (Alt (one_byte 98) Empty)) [] 0
  pub capture : IsReading (codes "($x{a}|b)") (Alt (Capture 0 (one_byte 97)) (one_byte 98)) (codes "x" ∷ []) 2
  pub twice : IsReading (codes "$x{a}$x{b}") (Cat (Capture 0 (one_byte 97)) (Capture 0 (one_byte 98))) (codes "x" ∷ []) 1
  pub signs : IsReading (codes "a*?bc") (Cat (Opt (Star (one_byte 97))) (Cat (one_byte 98) (one_byte 99))) [] 0
  pub backwards : NoReading (codes "[b-a]")
  pub unopened : NoReading (codes "a)")
  pub crossed : NoReading (codes "$x{a)")
  pub sign_alone : NoReading (codes "*")
