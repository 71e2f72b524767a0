-- A conversation: lines are executed as they come, and each reply is written before more is read.
use Rattle.std.specs.Prelude.{◌≡◌, ℕ, ◌+◌, Bool, List, [], ◌∷◌, ◌++◌, Option, Some, None, length}
use Rattle.std.specs.List.{AllByRecursion}
use Rattle.std.specs.Io.KnownBytes.{Appends, Consumes}
use Rattle.span_language.specs.State.{World}
use Rattle.span_language.specs.Runs.{Outside, Runs, RunsAll, Sum, start}
use Rattle.span_language.specs.Lines.{whole_lines}

-- the property holds of all bytes that the client sends, if they are observable, and otherwise of some bytes
abbrev pub OfSent : Option (List ℕ) → (List ℕ → Type 0) → Type 0
OfSent None Holds = (sent : List ℕ) × Holds sent
OfSent (Some sent) Holds = Holds sent

-- the property holds of the bytes that were read, which are those left before without those left after, if they are
-- observable
abbrev pub OfBytesRead : Option (List ℕ) → Option (List ℕ) → (List ℕ → Type 0) → Type 0
OfBytesRead old new Holds = (heard : List ℕ) × Consumes old new heard × Holds heard

-- all these lines ran, rejected or not
abbrev pub HaveRun : List (List ℕ) → ℕ → Outside → Outside → Type 0
HaveRun lines most before after = (refused : Bool) × RunsAll lines refused most before after

-- a moment at which the client was called: what it had left to send, what had been written for it, and the number of
-- the next line, which it was passed
pub record Moment : Type 0 where
  pub left : Option (List ℕ)
  pub written : Option (List ℕ)
  pub number : ℕ

-- a moment by its three fields
abbrev pub moment : Option (List ℕ) → Option (List ℕ) → ℕ → Moment
moment left written number = record { left = left; written = written; number = number }

-- if moments are observable, they are the earlier ones and this one
abbrev pub Notes : Option (List Moment) → Option (List Moment) → Moment → Type 0
Notes None new m = Unit {0}
Notes (Some old) None m = ⊥
Notes (Some old) (Some new) m = new ≡ old ++ m ∷ []

-- the whole output of these lines was written, and nothing else
pub record AreReplied (lines : List (List ℕ)) (most : ℕ) (before : Outside) (written : Option (List ℕ)) : Type 0 where
  pub sum : Sum
  pub mid : World
  pub ran : Runs (start most before) 1 lines sum mid
  pub wrote : Appends before.written written sum.output

-- the replies to all complete lines by this moment had been written, and the number was that of the next line
abbrev pub IsServed : Option (List ℕ) → ℕ → Outside → Moment → Type 0
IsServed sent most before m = OfBytesRead sent m.left
    (λ heard. AreReplied (whole_lines heard) most before m.written × (m.number ≡ 1 + length (whole_lines heard)))

-- the same at each further observable moment
abbrev pub AreServed : Option (List ℕ) → ℕ → Outside → Option (List Moment) → Option (List Moment) → Type 0
AreServed sent most before None new = Unit {0}
AreServed sent most before (Some old) None = ⊥
AreServed sent most before (Some old) (Some new) = (further : List Moment) × (new ≡ old ++ further) × AllByRecursion (IsServed sent most before) further
