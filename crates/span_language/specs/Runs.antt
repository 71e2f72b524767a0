-- The effect of a list of lines.
use Rattle.std.specs.Prelude.{◌≡◌, ◌⊎◌, ℕ, ◌+◌, ◌-◌, ◌*◌, ◌≤◌, ◌||◌, if◌then◌else◌, Bool, true, false, List, [], ◌∷◌, ◌++◌, Option, None, length, take}
use Rattle.std.specs.Io.KnownBytes.{Appends}
use Rattle.edge_io.specs.Files.{Files}
use Rattle.edge_io.specs.Causes.{HasIncreased}
use Rattle.script_syntax.specs.declared.form.Command.{Command}
use Rattle.span_language.specs.State.{World, State, nothing, world}
use Rattle.span_language.specs.Allowance.{Allowance, Counters, IsPaid, both_of, no_steps}
use Rattle.span_language.specs.Counts.{AsksForCounts, Compacts, IsOnce, Registers}
use Rattle.span_language.specs.Means.{Carried, IsAllowance, Means, Of}
use Rattle.span_language.specs.Step.{IsList, IsOfFile}
use Rattle.span_language.specs.declared.told.Told.{Told}
use Rattle.span_language.specs.declared.told.Told.TheVariants.{Quiet, Accepted, Refused}

-- the line was rejected
abbrev pub is_refused : Told → Bool
is_refused Quiet = false
is_refused Accepted = false
is_refused Refused = true

-- the sum over lines: whether one was rejected, their output, their maximum cost together, the number of queries that
-- they register, the number of accepted `compact` lines, and whether one asked for counting tables
pub record Sum : Type 0 where
  pub refused : Bool
  pub output : List ℕ
  pub cost : Allowance
  pub queries : ℕ
  pub compactions : ℕ
  pub counted : Bool

-- the sum over no lines
abbrev pub no_lines : Sum
no_lines = record { refused = false; output = []; cost = no_steps; queries = 0; compactions = 0; counted = false }

-- the sum over some lines and those after them
abbrev pub both : Sum → Sum → Sum
both a b = record {
  refused = a.refused || b.refused;
  output = a.output ++ b.output;
  cost = both_of a.cost b.cost;
  queries = a.queries + b.queries;
  compactions = a.compactions + b.compactions;
  counted = a.counted || b.counted;
}

-- what one line with this outcome adds; it is counted as asking for counting tables only if it does
pub record Adds (old : World) (number : ℕ) (line : List ℕ) (sum : Sum) (new : World) : Type 0 where
  pub meaning : Option Command
  pub told : Told
  pub means : Means line meaning
  pub carried : Carried old number meaning told sum.output new
  pub allowed : IsAllowance old meaning sum.cost
  pub registers : IsOnce (Of Registers meaning) told sum.queries
  pub compacts : IsOnce (Of Compacts meaning) told sum.compactions
  pub counts : sum.counted ≡ true → Of (AsksForCounts old) meaning
  pub refused_is : sum.refused ≡ is_refused told

-- from the first world, these lines, numbered from this number on, have this sum and result in the second world
abbrev pub Runs : World → ℕ → List (List ℕ) → Sum → World → Type 0
Runs old number [] sum new = (sum ≡ no_lines) × (new ≡ old)
Runs old number (line ∷ lines) sum new = (one rest : Sum) × (mid : World)
    × Adds old number line one mid × Runs mid (number + 1) lines rest new × (sum ≡ both one rest)

-- what is observable of the environment at one moment: the bytes written, the files, and the counters of table lookups,
-- node constructions and computed tables
pub record Outside : Type 0 where
  pub written : Option (List ℕ)
  pub files : Option Files
  pub counters : Counters
  pub places : ℕ

-- what was written, the files and the three counters, as one record
abbrev pub outside : Option (List ℕ) → Option Files → ℕ → ℕ → ℕ → Outside
outside written files looks pairs places = record { written = written; files = files; counters = record { looks = looks; pairs = pairs }; places = places }

-- the world before the first line, if an automaton may have at most `most` states
abbrev pub start : ℕ → Outside → World
start most before = world (nothing most) before.files

-- the maximum number of nodes that ever existed: the 256 bytes, which are made again after each compaction, and the pairs
-- that were made
abbrev pub most_nodes : Sum → Outside → Outside → ℕ
most_nodes sum before after = 256 * (1 + sum.compactions) + (after.counters.pairs - before.counters.pairs)

-- each query has at most one table for each node that ever existed, and one counting table more if a line asked for these
abbrev pub PlacesFew : Bool → Sum → Outside → Outside → Type 0
PlacesFew asked sum before after = after.places ≤ before.places + (if asked then 2 else 1) * (sum.queries * most_nodes sum before after)

-- all lines ran, in a session whose automata may have at most `most` states, and their whole output was written
pub record RunsAll (lines : List (List ℕ)) (refused : Bool) (most : ℕ) (before after : Outside) : Type 0 where
  pub sum : Sum
  pub state : State
  pub ran : Runs (start most before) 1 lines sum (world state after.files)
  pub refused_is : sum.refused ≡ refused
  pub wrote : Appends before.written after.written sum.output
  pub paid : IsPaid sum.cost before.counters after.counters
  pub placed : PlacesFew sum.counted sum before after

-- a line with this meaning was stopped: either nothing of its reply was written and the observable files are unchanged,
-- or it was executed, with these files, and a prefix of its reply was written
abbrev pub IsStoppedLine : World → ℕ → Option Command → List ℕ → Option Files → Type 0
IsStoppedLine old number meaning part files = ((part ≡ []) × (files ≡ old.files))
    ⊎ ((told : Told) × (reply : List ℕ) × (new : World) × (n : ℕ) × Carried old number meaning told reply new × (part ≡ take n reply) × (files ≡ new.files))

-- the next line, in which the run was stopped: the written part of its reply, its maximum cost, whether it asked for
-- counting tables, and the observable files
pub record IsNext (old : World) (number : ℕ) (line : List ℕ) (meaning : Option Command) (part : List ℕ) (cost : Allowance) (counted : Bool) (files : Option Files) : Type 0 where
  pub means : Means line meaning
  pub prefix : IsStoppedLine old number meaning part files
  pub allowed : (cost ≡ no_steps) ⊎ IsAllowance old meaning cost
  pub counts : counted ≡ true → Of (AsksForCounts old) meaning

-- the conditions for an early end of a run, by the meaning of the line, the written part of its reply, and the
-- observable files before and after it
abbrev pub Ending : Type 1
Ending = Option Command → List ℕ → Option Files → Option Files → Type 0

-- none of the remaining lines was begun, or the next one was stopped in a way that Ends allows
abbrev pub IsPart : Ending → World → ℕ → List (List ℕ) → List ℕ → Allowance → Bool → Option Files → Type 0
IsPart Ends old number left part cost counted files = ((part ≡ []) × (cost ≡ no_steps) × (counted ≡ false) × (files ≡ old.files) × Ends None [] old.files files)
    ⊎ ((line : List ℕ) × (lines : List (List ℕ)) × (meaning : Option Command) × (left ≡ line ∷ lines)
    × IsNext old number line meaning part cost counted files × Ends meaning part old.files files)

-- anywhere
abbrev pub Anywhere : Ending
Anywhere meaning part before after = Unit {0}

-- in a line of the form `load`, `share`, `write`, `save` or `open`: nothing of its reply was written, and the observable
-- files are unchanged
abbrev pub InFileLine : Ending
InFileLine meaning part before after = Of IsOfFile meaning × (part ≡ []) × (after ≡ before)

-- if it is in a line of the form `list`, a count increased, or nothing of its reply was written
abbrev pub UnlessList : ℕ → ℕ → Ending
UnlessList wants_before wants_after meaning part before after = Of IsList meaning → HasIncreased wants_before wants_after ⊎ (part ≡ [])

-- the run of a session whose automata may have at most `most` states ended early: the first lines ran and their output
-- was written, and then possibly a prefix of the next line's reply
pub record RunsPrefix (Ends : Ending) (lines : List (List ℕ)) (most : ℕ) (before after : Outside) : Type 0 where
  pub done : List (List ℕ)
  pub left : List (List ℕ)
  pub cut : lines ≡ done ++ left
  pub sum : Sum
  pub mid : World
  pub ran : Runs (start most before) 1 done sum mid
  pub part : List ℕ
  pub last : Allowance
  pub counted : Bool
  pub next : IsPart Ends mid (1 + length done) left part last counted after.files
  pub wrote : Appends before.written after.written (sum.output ++ part)
  pub paid : IsPaid (both_of sum.cost last) before.counters after.counters
  pub placed : PlacesFew (sum.counted || counted) sum before after
