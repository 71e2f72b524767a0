-- A formula as a plain tree, its variables, and the rule that it obeys.
use Rattle.std.specs.Prelude.{◌≡◌, ℕ, zero, suc, ◌+◌, max, Bool, false, ◌||◌, ◌&&◌, ◌==◌, List, Option, Some, None, if◌then◌else◌}
use Rattle.span_types.specs.declared.formula.Formula.{Formula}
use Rattle.span_types.specs.declared.formula.Formula.TheVariants.{Set as SetNode, Empty as EmptyNode, Cat' as CatNode, Alt' as AltNode, Star' as StarNode, Plus' as PlusNode, Opt' as OptNode, Capture' as CaptureNode}

-- a formula without pointers, so that two formulas of one form are equal
pub data FormulaTree : Type 0 where
  Set : (members : List Bool) → FormulaTree
  Empty : FormulaTree
  Cat : (a b : FormulaTree) → FormulaTree
  Alt : (a b : FormulaTree) → FormulaTree
  Star : (a : FormulaTree) → FormulaTree
  Plus : (a : FormulaTree) → FormulaTree
  Opt : (a : FormulaTree) → FormulaTree
  Capture : (x : ℕ) (a : FormulaTree) → FormulaTree

-- the tree of a formula in the code
abbrev pub tree_of : Formula → FormulaTree
tree_of (SetNode members) = Set members
tree_of EmptyNode = Empty
tree_of (CatNode p a q b) = Cat (tree_of a) (tree_of b)
tree_of (AltNode p a q b) = Alt (tree_of a) (tree_of b)
tree_of (StarNode p a) = Star (tree_of a)
tree_of (PlusNode p a) = Plus (tree_of a)
tree_of (OptNode p a) = Opt (tree_of a)
tree_of (CaptureNode x p a) = Capture x (tree_of a)

-- Vars: whether variable number v occurs in the formula
abbrev pub has_var : FormulaTree → ℕ → Bool
has_var (Set b) v = false
has_var Empty v = false
has_var (Cat a b) v = has_var a v || has_var b v
has_var (Alt a b) v = has_var a v || has_var b v
has_var (Star a) v = has_var a v
has_var (Plus a) v = has_var a v
has_var (Opt a) v = has_var a v
has_var (Capture x a) v = (x == v) || has_var a v

-- a number above every variable
abbrev pub var_bound : FormulaTree → ℕ
var_bound (Set b) = 0
var_bound Empty = 0
var_bound (Cat a b) = max (var_bound a) (var_bound b)
var_bound (Alt a b) = max (var_bound a) (var_bound b)
var_bound (Star a) = var_bound a
var_bound (Plus a) = var_bound a
var_bound (Opt a) = var_bound a
var_bound (Capture x a) = max (suc x) (var_bound a)

-- Sets: the number of byte sets, each occurrence counted
abbrev pub sets : FormulaTree → ℕ
sets (Set b) = 1
sets Empty = 0
sets (Cat a b) = sets a + sets b
sets (Alt a b) = sets a + sets b
sets (Star a) = sets a
sets (Plus a) = sets a
sets (Opt a) = sets a
sets (Capture x a) = sets a

-- the first of two that isn't None
abbrev pub first_of : Option ℕ → Option ℕ → Option ℕ
first_of (Some v) o = Some v
first_of None o = o

-- the least number below a bound that passes a test
abbrev pub least_below : ℕ → (ℕ → Bool) → Option ℕ
least_below zero p = None
least_below (suc n) p = first_of (least_below n p) (if p n then Some n else None)

-- Fault: the variable at which the formula first breaks the rule below
abbrev pub fault : FormulaTree → Option ℕ
fault (Set b) = None
fault Empty = None
fault (Cat a b) = first_of (fault a) (first_of (fault b) (least_below (var_bound a) (λ v. has_var a v && has_var b v)))
fault (Alt a b) = first_of (fault a) (fault b)
fault (Star a) = first_of (fault a) (least_below (var_bound a) (has_var a))
fault (Plus a) = first_of (fault a) (least_below (var_bound a) (has_var a))
fault (Opt a) = fault a
fault (Capture x a) = first_of (fault a) (if has_var a x then Some x else None)

-- Fun: the parts of a Cat share no variable, nothing under a Star or Plus has one, and a capture of x has no x inside
abbrev pub Fun : FormulaTree → Type 0
Fun f = fault f ≡ None
