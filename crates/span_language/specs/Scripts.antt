-- The script that the command-line arguments select.
use Rattle.std.specs.Prelude.{ℕ, List, Option, Some, None, IfSome}
use Rattle.text_gen.specs.Demo.{demo_text}
use Rattle.span_words.specs.Words.{Words}

-- the script of a demo, whatever the source has left; otherwise the bytes that the source has left, if they are
-- observable
abbrev pub script_of : Option ℕ → Option (List ℕ) → Option (List ℕ)
script_of (Some number) left = Some (demo_text number)
script_of None left = left

-- the property holds of the number of states and the script that the arguments select, if they are accepted
abbrev pub OfScript : List (List ℕ) → Option (List ℕ) → (ℕ → List ℕ → Type 0) → Type 0
OfScript words left Holds = (workers states : ℕ) (demo : Option ℕ) → Words words workers states demo → IfSome (script_of demo left) (Holds states)

-- the arguments are accepted, and select no demo
abbrev pub AsksForNoDemo : List (List ℕ) → Type 0
AsksForNoDemo words = (workers states : ℕ) × Words words workers states None
