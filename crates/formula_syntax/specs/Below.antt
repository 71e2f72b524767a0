-- Formulas whose variables are small.
use Rattle.std.specs.Prelude.{◌≡◌, ℕ, ◌<◌, false, slice_index_or}
use Rattle.span_types.specs.FormulaTree.{FormulaTree, Set, Empty, Cat, Alt, Star, Plus, Opt, Capture, has_var, fault}
use Rattle.formula_syntax.specs.declared.fault.Verdict.{Verdict}

-- every variable is below k
abbrev pub Below : ℕ → FormulaTree → Type 0
Below k (Set b) = Unit {0}
Below k Empty = Unit {0}
Below k (Cat a b) = Below k a × Below k b
Below k (Alt a b) = Below k a × Below k b
Below k (Star a) = Below k a
Below k (Plus a) = Below k a
Below k (Opt a) = Below k a
Below k (Capture x a) = (x < k) × Below k a

-- what the check of the rule found
pub record IsVerdict (r : Verdict) (f : FormulaTree) : Type 0 where
  pub held : (v : ℕ) → v < 8 → slice_index_or r.held v false ≡ has_var f v
  pub fault : r.fault ≡ fault f
