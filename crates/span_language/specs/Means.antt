-- The meaning of a line: a command, or none.
use Rattle.std.specs.Prelude.{◌≡◌, ℕ, List, Option, Some, None}
use Rattle.script_syntax.specs.Syntax.{LineText}
use Rattle.script_syntax.specs.declared.form.Command.{Command}
use Rattle.script_syntax.specs.declared.form.Command.TheVariants.{Nothing}
use Rattle.report_text.specs.Reply.{refusal_text}
use Rattle.report_text.specs.declared.refusal.Refusal.TheVariants.{Syntax}
use Rattle.span_language.specs.State.{World}
use Rattle.span_language.specs.Step.{Carries}
use Rattle.span_language.specs.Allowance.{Allowance, IsAllowed, no_steps}
use Rattle.span_language.specs.declared.told.Told.{Told}
use Rattle.span_language.specs.declared.told.Told.TheVariants.{Refused}

-- the line is this command, or no command
abbrev pub Means : List ℕ → Option Command → Type 0
Means line (Some command) = LineText line command
Means line None = (command : Command) → LineText line command → ⊥

-- there is a command, and it is of this kind
abbrev pub Of : (Command → Type 0) → Option Command → Type 0
Of Kind (Some command) = Kind command
Of Kind None = ⊥

-- there is a reply: every command except Nothing has one, and a line that is no command has a rejection
abbrev pub Replies : Option Command → Type 0
Replies meaning = meaning ≡ Some Nothing → ⊥

-- the reply and the effect of a line with this meaning; a line that is no command is rejected
abbrev pub Carried : World → ℕ → Option Command → Told → List ℕ → World → Type 0
Carried old number (Some command) told reply new = Carries old number command told reply new
Carried old number None told reply new = (told ≡ Refused) × (reply ≡ refusal_text number Syntax) × (new ≡ old)

-- its maximum cost
abbrev pub IsAllowance : World → Option Command → Allowance → Type 0
IsAllowance old (Some command) a = IsAllowed old command a
IsAllowance old None a = a ≡ no_steps

-- the line, in the first world, has this reply and results in the second world
abbrev pub Step : World → ℕ → List ℕ → Told → List ℕ → World → Type 0
Step old number line told reply new = (meaning : Option Command) × Means line meaning × Carried old number meaning told reply new
