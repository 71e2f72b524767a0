-- The reader as a machine that takes one byte at a time.
use Rattle.std.specs.Prelude.{ℕ, suc, ◌+◌, ◌*◌, Bool, true, false, List, [], ◌∷◌, ◌++◌, length, Option, Some, None}
use Rattle.std.specs.Prelude.{max, ◌==◌, nat_le, if◌then◌else◌}
use Rattle.std.specs.Option.{option_and_then, option_map}
use Rattle.span_types.specs.Names.{is_name}
use Rattle.formula_syntax.specs.Numbering.{Names, number_in, seen}
use Rattle.span_types.specs.FormulaTree.{FormulaTree, Set, Empty, Cat, Alt, Star, Plus, Opt, Capture}
use Rattle.formula_syntax.specs.Lexis.{is_special, can_escape, hex_value, is_plain_member, in_ranges, bytes_where, negated}

-- the ALT that is being read: its finished branches, and the parts of the last one
pub record Level : Type 0 where
  pub branches : List FormulaTree
  pub parts : List FormulaTree

-- a group or a capture that is open, and the ALT around it
pub record Group : Type 0 where
  pub variable : Option ℕ
  pub around : Level

pub record Stack : Type 0 where
  pub level : Level
  pub groups : List Group
  pub names : Names
  pub deepest : ℕ

-- how far an item of a set is read
pub data Pending : Type 0 where
  empty : Pending
  low : (a : ℕ) → Pending
  dash : (a : ℕ) → Pending

-- what is being read, apart from the stack
pub data Mode : Type 0 where
  text : Mode
  set_start : Mode
  in_set : (neg : Bool) (rs : List (ℕ × ℕ)) (p : Pending) → Mode
  in_name : (x : List ℕ) → Mode

-- what is left of an escape
pub data Slash : Type 0 where
  no_slash : Slash
  slash : Slash
  hex : Slash
  hex_low : (x : ℕ) → Slash

pub record Machine : Type 0 where
  pub escape : Slash
  pub mode : Mode
  pub stack : Stack

abbrev pub at : Mode → Stack → Machine
at m k = record { escape = no_slash; mode = m; stack = k }

abbrev pub fresh : Level
fresh = record { branches = []; parts = [] }

abbrev pub cat_of : List FormulaTree → FormulaTree
cat_of [] = Empty
cat_of (f ∷ []) = f
cat_of (f ∷ g ∷ fs) = Cat f (cat_of (g ∷ fs))

abbrev pub alt_of : List FormulaTree → FormulaTree → FormulaTree
alt_of [] f = f
alt_of (g ∷ gs) f = Alt g (alt_of gs f)

abbrev pub whole : Level → FormulaTree
whole l = alt_of l.branches (cat_of l.parts)

abbrev pub with_part : Level → FormulaTree → Level
with_part l f = record { branches = l.branches; parts = l.parts ++ f ∷ [] }

abbrev pub with_branch : Level → Level
with_branch l = record { branches = l.branches ++ cat_of l.parts ∷ []; parts = [] }

abbrev pub add : Stack → FormulaTree → Stack
add k f = record { level = with_part k.level f; groups = k.groups; names = k.names; deepest = k.deepest }

abbrev pub add_set : Stack → (ℕ → Bool) → Option Machine
add_set k p = Some (at text (add k (Set (bytes_where p))))

-- the last part changed, if there is one
abbrev pub change_last : (FormulaTree → FormulaTree) → List FormulaTree → Option (List FormulaTree)
change_last g [] = None
change_last g (f ∷ []) = Some (g f ∷ [])
change_last g (f ∷ h ∷ fs) = option_map (λ x. f ∷ x) (change_last g (h ∷ fs))

abbrev pub postfix_of : Stack → Option (List FormulaTree) → Option Machine
postfix_of k None = None
postfix_of k (Some ps) = Some (at text (record { level = record { branches = k.level.branches; parts = ps }; groups = k.groups; names = k.names; deepest = k.deepest }))

abbrev pub postfix : (FormulaTree → FormulaTree) → Stack → Option Machine
postfix g k = postfix_of k (change_last g k.level.parts)

abbrev pub open_group : Stack → Option ℕ → Names → Stack
open_group k v names = record {
  level = fresh;
  groups = record { variable = v; around = k.level } ∷ k.groups;
  names = names;
  deepest = max k.deepest (suc (length k.groups));
}

-- whether a closing sign fits, and the part that it ends
abbrev pub closed : Bool → Option ℕ → FormulaTree → Option FormulaTree
closed false None f = Some f
closed false (Some v) f = None
closed true None f = None
closed true (Some v) f = Some (Capture v f)

abbrev pub close_onto : Stack → List Group → Level → Option FormulaTree → Option Machine
close_onto k gs l None = None
close_onto k gs l (Some f) = Some (at text (record { level = with_part l f; groups = gs; names = k.names; deepest = k.deepest }))

abbrev pub close_in : Bool → Stack → List Group → Option Machine
close_in b k [] = None
close_in b k (g ∷ gs) = close_onto k gs g.around (closed b g.variable (whole k.level))

abbrev pub close : Bool → Stack → Option Machine
close b k = close_in b k k.groups

abbrev pub bar : Stack → Stack
bar k = record { level = with_branch k.level; groups = k.groups; names = k.names; deepest = k.deepest }

abbrev pub special_step : Stack → ℕ → Option Machine
special_step k b =
    if b == 46 then add_set k (λ c. true) else
    if b == 91 then Some (at set_start k) else
    if b == 40 then Some (at text (open_group k None k.names)) else
    if b == 41 then close false k else
    if b == 125 then close true k else
    if b == 124 then Some (at text (bar k)) else
    if b == 42 then postfix Star k else
    if b == 43 then postfix Plus k else
    if b == 63 then postfix Opt k else
    if b == 36 then Some (at (in_name []) k) else
    if b == 92 then Some (record { escape = slash; mode = text; stack = k }) else None

-- the ranges with the one that is pending
abbrev pub flush : List (ℕ × ℕ) → Pending → List (ℕ × ℕ)
flush rs empty = rs
flush rs (low a) = rs ++ (a, a) ∷ []
flush rs (dash a) = rs

abbrev pub member : Stack → Bool → List (ℕ × ℕ) → Pending → ℕ → Option Machine
member k neg rs empty b = Some (at (in_set neg rs (low b)) k)
member k neg rs (low a) b = Some (at (in_set neg (rs ++ (a, a) ∷ []) (low b)) k)
member k neg rs (dash a) b = if nat_le a b then Some (at (in_set neg (rs ++ (a, b) ∷ []) empty) k) else None

abbrev pub to_dash : Stack → Bool → List (ℕ × ℕ) → Pending → Option Machine
to_dash k neg rs empty = None
to_dash k neg rs (low a) = Some (at (in_set neg rs (dash a)) k)
to_dash k neg rs (dash a) = None

abbrev pub end_set : Stack → Bool → List (ℕ × ℕ) → Pending → Option Machine
end_set k neg rs empty = add_set k (negated neg (in_ranges rs))
end_set k neg rs (low a) = add_set k (negated neg (in_ranges (rs ++ (a, a) ∷ [])))
end_set k neg rs (dash a) = None

abbrev pub set_step : Stack → Bool → List (ℕ × ℕ) → Pending → ℕ → Option Machine
set_step k neg rs p b =
    if is_plain_member b then member k neg rs p b else
    if b == 93 then end_set k neg rs p else
    if b == 45 then to_dash k neg rs p else
    if b == 92 then Some (record { escape = slash; mode = in_set neg rs p; stack = k }) else None

abbrev pub mode_step : Mode → Stack → ℕ → Option Machine
mode_step text k b = if is_special b then special_step k b else add_set k (λ c. c == b)
mode_step set_start k b = if b == 94 then Some (at (in_set true [] empty) k) else set_step k false [] empty b
mode_step (in_set neg rs p) k b = set_step k neg rs p b
mode_step (in_name x) k b =
    if b == 123 then (if is_name x then Some (at text (open_group k (Some (number_in k.names x)) (seen k.names x))) else None)
    else Some (at (in_name (x ++ b ∷ [])) k)

-- a byte that was escaped
abbrev pub escaped : Mode → Stack → ℕ → Option Machine
escaped text k b = add_set k (λ c. c == b)
escaped set_start k b = None
escaped (in_set neg rs p) k b = member k neg rs p b
escaped (in_name x) k b = None

abbrev pub hex_step : Mode → Stack → Option ℕ → Option Machine
hex_step m k None = None
hex_step m k (Some x) = Some (record { escape = hex_low x; mode = m; stack = k })

abbrev pub hex_end : Mode → Stack → ℕ → Option ℕ → Option Machine
hex_end m k x None = None
hex_end m k x (Some y) = escaped m k (16 * x + y)

abbrev pub step_in : Slash → Mode → Stack → ℕ → Option Machine
step_in no_slash m k b = mode_step m k b
step_in slash m k b =
    if can_escape b then escaped m k b else
    if b == 110 then escaped m k 10 else
    if b == 116 then escaped m k 9 else
    if b == 114 then escaped m k 13 else
    if b == 120 then Some (record { escape = hex; mode = m; stack = k }) else None
step_in hex m k b = hex_step m k (hex_value b)
step_in (hex_low x) m k b = hex_end m k x (hex_value b)

abbrev pub step : Machine → ℕ → Option Machine
step m b = step_in m.escape m.mode m.stack b

abbrev pub steps : Machine → List ℕ → Option Machine
steps m [] = Some m
steps m (b ∷ s) = option_and_then (λ n. steps n s) (step m b)

abbrev pub start : Machine
start = at text (record { level = fresh; groups = []; names = []; deepest = 0 })

pub record Found : Type 0 where
  pub formula : FormulaTree
  pub names : Names
  pub depth : ℕ

abbrev pub end_of : Slash → Mode → Stack → List Group → Option Found
end_of no_slash text k [] = Some (record { formula = whole k.level; names = k.names; depth = k.deepest })
end_of no_slash text k (g ∷ gs) = None
end_of no_slash set_start k gs = None
end_of no_slash (in_set neg rs p) k gs = None
end_of no_slash (in_name x) k gs = None
end_of slash m k gs = None
end_of hex m k gs = None
end_of (hex_low x) m k gs = None

abbrev pub finish : Machine → Option Found
finish m = end_of m.escape m.mode m.stack m.stack.groups

abbrev pub read : List ℕ → Option Found
read s = option_and_then finish (steps start s)

-- other names, for clauses of code that has types of these names
abbrev pub MachineMode : Type 0
MachineMode = Mode

abbrev pub MachinePending : Type 0
MachinePending = Pending
