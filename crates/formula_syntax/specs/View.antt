-- Which state of the machine a reader of the code is in.
use Rattle.std.specs.Prelude.{◌≡◌, ℕ, Bool, List, [], ◌∷◌, ◌++◌, length, map, take, nat_lt, min, Option, Some, None, Result, Ok, Err}
use Rattle.formula_syntax.specs.Numbering.{Names}
use Rattle.span_types.specs.FormulaTree.{FormulaTree, Set, Empty, Cat, Alt, Star, Plus, Opt, Capture, tree_of}
use Rattle.span_types.specs.declared.formula.Formula.{Formula}
use Rattle.span_types.specs.declared.bytes.ByteSet.{ByteSet}
use Rattle.formula_syntax.specs.Lexis.{in_ranges, bytes_where}
use Rattle.formula_syntax.specs.Machine.{Level, Group, Stack, Pending, Mode, Slash, Machine, cat_of, alt_of, whole, Found}
use Rattle.formula_syntax.specs.Machine as machine
use Rattle.formula_syntax.specs.declared.set.SetReader.{SetReader}
use Rattle.formula_syntax.specs.declared.set.Pending as pending
use Rattle.formula_syntax.specs.declared.reader.Reader as reader
use Rattle.formula_syntax.specs.declared.build.Level as level
use Rattle.formula_syntax.specs.declared.reader.Group as group
use Rattle.formula_syntax.specs.declared.reader.Opener as opener
use Rattle.formula_syntax.specs.declared.reader.Mode as mode
use Rattle.formula_syntax.specs.declared.reader.Slash as slash
use Rattle.formula_syntax.specs.declared.reader.Stop as stop
use Rattle.formula_syntax.specs.declared.build.Sign as sign
use Rattle.formula_syntax.specs.declared.reader.Found as found
use Rattle.formula_syntax.specs.declared.refusal.FormulaRefusal as refusal

-- each variable after the eighth has the number 8
abbrev pub capped : FormulaTree → FormulaTree
capped (Set b) = Set b
capped Empty = Empty
capped (Cat a b) = Cat (capped a) (capped b)
capped (Alt a b) = Alt (capped a) (capped b)
capped (Star a) = Star (capped a)
capped (Plus a) = Plus (capped a)
capped (Opt a) = Opt (capped a)
capped (Capture x a) = Capture (min x 8) (capped a)

abbrev pub trees : List Formula → List FormulaTree
trees fs = map tree_of fs

abbrev pub pending_of : pending.Pending → Pending
pending_of pending.TheVariants.Empty = machine.empty
pending_of (pending.TheVariants.Low a) = machine.low a
pending_of (pending.TheVariants.Dash a) = machine.dash a

pub record ShowsSet (s : SetReader) (neg : Bool) (rs : List (ℕ × ℕ)) (p : Pending) : Type 0 where
  pub sign : s.negated ≡ neg
  pub ranges : s.members ≡ bytes_where (in_ranges rs)
  pub pending : pending_of s.pending ≡ p

abbrev pub ShowsMode : mode.Mode → List ℕ → Mode → Type 0
ShowsMode mode.TheVariants.Text x m = m ≡ machine.text
ShowsMode mode.TheVariants.SetStart x m = m ≡ machine.set_start
ShowsMode (mode.TheVariants.InSet s) x m = (neg : Bool) × (rs : List (ℕ × ℕ)) × (p : Pending) × (m ≡ machine.in_set neg rs p) × ShowsSet s neg rs p
ShowsMode mode.TheVariants.InName x m = m ≡ machine.in_name x

abbrev pub ShowsSlash : slash.Slash → Slash → Type 0
ShowsSlash slash.TheVariants.Nothing m = m ≡ machine.no_slash
ShowsSlash slash.TheVariants.Begun m = m ≡ machine.slash
ShowsSlash slash.TheVariants.Hex m = m ≡ machine.hex
ShowsSlash (slash.TheVariants.HexLow digit) m = m ≡ machine.hex_low digit.value

pub record ShowsLevel (l : level.Level) (m : Level) : Type 0 where
  pub branches : trees l.branches.items ≡ map capped m.branches
  pub parts : trees l.parts.items ≡ map capped m.parts

abbrev pub ShowsOpener : opener.Opener → Option ℕ → Type 0
ShowsOpener opener.TheVariants.Group v = v ≡ None
ShowsOpener (opener.TheVariants.Capture x) v = (n : ℕ) × (v ≡ Some n) × (x ≡ min n 8)

pub record ShowsGroup (g : group.Group) (m : Group) : Type 0 where
  pub opener : ShowsOpener g.opener m.variable
  pub around : ShowsLevel g.around m.around

-- the last group of the code is the first one of the machine
pub data ShowsGroups : List group.Group → List Group → Type 0 where
  outermost : (gs : List group.Group) (ms : List Group) → gs ≡ [] → ms ≡ [] → ShowsGroups gs ms
  inside : (gs hs : List group.Group) (ms ns : List Group) (g : group.Group) (m : Group) → gs ≡ hs ++ g ∷ [] → ms ≡ m ∷ ns → ShowsGroup g m → ShowsGroups hs ns → ShowsGroups gs ms

pub record ShowsStack (r : reader.Reader) (k : Stack) : Type 0 where
  pub level : ShowsLevel r.level k.level
  pub groups : ShowsGroups r.groups.items k.groups
  pub vars : r.vars ≡ take 8 k.names
  pub crowded : r.crowded ≡ nat_lt 8 (length k.names)
  pub deepest : r.deepest ≡ k.deepest

pub record Shows (r : reader.Reader) (m : Machine) : Type 0 where
  pub slash : ShowsSlash r.slash m.escape
  pub mode : ShowsMode r.mode r.name.items m.mode
  pub stack : ShowsStack r m.stack

-- what a step returned, if the machine reaches this
abbrev pub Answers : {A : Type 0} → Result A stop.Stop → reader.Reader → Option Machine → Type 0
Answers (Ok x) r o = (n : Machine) × (o ≡ Some n) × Shows r n
Answers (Err stop.TheVariants.Bad) r o = o ≡ None
Answers (Err stop.TheVariants.OutOfMemory) r o = Unit {0}

abbrev pub sign_of : sign.Sign → FormulaTree → FormulaTree
sign_of sign.TheVariants.Star = Star
sign_of sign.TheVariants.Plus = Plus
sign_of sign.TheVariants.Opt = Opt

-- the stack after other names
abbrev pub with_names : Stack → Names → Stack
with_names k n = record { level = k.level; groups = k.groups; names = n; deepest = k.deepest }

-- what an operation on a set returned, if the machine reaches this
abbrev pub GivesSet : Option SetReader → Stack → Option Machine → Type 0
GivesSet None k o = o ≡ None
GivesSet (Some s) k o = (neg : Bool) × (rs : List (ℕ × ℕ)) × (p : Pending) × (o ≡ Some (machine.at (machine.in_set neg rs p) k)) × ShowsSet s neg rs p

-- what was found, with variables up to 8
pub record ShowsFound (f : found.Found) (g : Found) : Type 0 where
  pub formula : tree_of f.formula ≡ capped g.formula
  pub vars : f.vars ≡ take 8 g.names
  pub crowded : f.crowded ≡ nat_lt 8 (length g.names)
  pub deepest : f.deepest ≡ g.depth

abbrev pub Finds : Result found.Found stop.Stop → Option Found → Type 0
Finds (Ok f) o = (g : Found) × (o ≡ Some g) × ShowsFound f g
Finds (Err stop.TheVariants.Bad) o = o ≡ None
Finds (Err stop.TheVariants.OutOfMemory) o = Unit {0}

-- found in this text, or in some text
abbrev pub IsReadIn : List ℕ → found.Found → Type 0
IsReadIn s f = Finds (Ok f) (machine.read s)

abbrev pub IsRead : found.Found → Type 0
IsRead f = (s : List ℕ) × IsReadIn s f

-- a whole set, if the machine reaches this
abbrev pub IsWhole : Option ByteSet → Stack → Option Machine → Type 0
IsWhole None k o = o ≡ None
IsWhole (Some b) k o = (p : ℕ → Bool) × (o ≡ machine.add_set k p) × (b ≡ bytes_where p)

abbrev pub ReadFound : Type 0
ReadFound = Found

-- the error with the name, or out of memory
abbrev pub IsCopy : refusal.FormulaRefusal → List ℕ → Type 0
IsCopy (refusal.TheVariants.NotFunctional x) name = x ≡ name
IsCopy refusal.TheVariants.NoMemory name = Unit {0}
IsCopy _ name = ⊥
