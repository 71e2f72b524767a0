-- The command line: three options, each with one whole number in its range.
use Rattle.std.specs.Prelude.{◌≡◌, ℕ, List, [], ◌∷◌, ◌++◌, true, Some, None, Option, codes, pos, ◌≤◌, ◌⊎◌}
use Rattle.std.specs.Io.{StartsWith}
use Rattle.std.specs.Str.Parse.{IsNumeral, digits_value, without_leading_plus}
use Rattle.clap.specs.Words.{App, Rule, Text, new_app, new_rule, with_rule, fault_of, matches_of, first_of}
use Rattle.clap.specs.Simple.{on_top}
use Rattle.clap.specs.declared.builder.ArgAction.TheVariants.{Set}
use Rattle.clap.specs.declared.builder.value_parser.ValueParser.TheVariants as vp

-- an option `--NAME` with one number from `least` to `most`
abbrev pub number_rule : Text → ℕ → ℕ → Rule
number_rule name least most = record (new_rule name) {
  long = Some name;
  action = Some Set;
  parser = Some (vp.Signed (pos least) (pos most));
}

-- the command as clap reads it, over the arguments after the program's own name
abbrev pub spanbase_app : App
spanbase_app = with_rule (with_rule (with_rule (on_top (λ top. record top { no_binary_name = true }) (new_app (codes "spanbase"))) (number_rule (codes "workers") 1 64)) (number_rule (codes "states") 128 1024)) (number_rule (codes "demo") 1 46)

-- clap accepts the arguments
abbrev pub ClapTakes : List Text → Type 0
ClapTakes words = fault_of spanbase_app words ≡ []

-- the text that clap keeps for an option
abbrev pub text_of : Text → List Text → Option Text
text_of name words = first_of name (matches_of spanbase_app words)

-- the text is this number, from `least` to `most`
pub record IsNumber (least most : ℕ) (text : Text) (number : ℕ) : Type 0 where
  pub digits : IsNumeral 10 (without_leading_plus text)
  pub value : number ≡ digits_value 10 (without_leading_plus text)
  pub at_least : least ≤ number
  pub at_most : number ≤ most

-- the number that an option's text specifies: none if the option is left out
abbrev pub AsksFor : ℕ → ℕ → Option Text → Option ℕ → Type 0
AsksFor least most None number = number ≡ None
AsksFor least most (Some text) None = ⊥
AsksFor least most (Some text) (Some number) = IsNumber least most text number

-- the number, or a default if the option is left out
abbrev pub AsksForOr : ℕ → ℕ → ℕ → Option Text → ℕ → Type 0
AsksForOr least most default None number = number ≡ default
AsksForOr least most default (Some text) number = IsNumber least most text number

-- the arguments specify this number of workers, this maximum number of states, and possibly this demo
pub record Words (words : List Text) (workers states : ℕ) (demo : Option ℕ) : Type 0 where
  pub taken : ClapTakes words
  pub workers_asked : AsksForOr 1 64 1 (text_of (codes "workers") words) workers
  pub states_asked : AsksForOr 128 1024 128 (text_of (codes "states") words) states
  pub demo_asked : AsksFor 1 46 (text_of (codes "demo") words) demo

-- the arguments are rejected
abbrev pub Refused : List Text → Type 0
Refused words = (workers states : ℕ) (demo : Option ℕ) → Words words workers states demo → ⊥

-- accepted arguments have one reading
abbrev pub OneReading : Type 0
OneReading = (words : List Text) (workers more states most : ℕ) (demo other : Option ℕ) → Words words workers states demo → Words words more most other → (workers ≡ more) × (states ≡ most) × (demo ≡ other)

-- arguments that clap accepts have a reading
abbrev pub AcceptedHaveReading : Type 0
AcceptedHaveReading = (words : List Text) → ClapTakes words → (workers : ℕ) × (states : ℕ) × (demo : Option ℕ) × Words words workers states demo

abbrev pub usage_line : List ℕ
usage_line = codes "spanbase: Usage" ++ 10 ∷ []

-- the usage text for the arguments: empty if they are accepted, and otherwise a text that begins with its line
abbrev pub ReportsUsage : List Text → List ℕ → Type 0
ReportsUsage words text =
    ((workers : ℕ) × (states : ℕ) × (demo : Option ℕ) × Words words workers states demo × (text ≡ []))
    ⊎ (Refused words × StartsWith text usage_line)
