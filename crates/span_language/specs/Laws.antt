-- Theorems about the language.
use Rattle.std.specs.Prelude.{◌≡◌, ◌⊎◌, ◌<◌, ◌≤◌, ◌^◌, ℕ, List, [], ◌∷◌, Option, Some, None, All, codes, length}
use Rattle.edge_io.specs.Files.{AllowsWrites, Files, file_of}
use Rattle.line_parts.specs.NameList.{IsName}
use Rattle.script_syntax.specs.Syntax.{LineText, spaced}
use Rattle.script_syntax.specs.declared.form.Command.{Command}
use Rattle.script_syntax.specs.declared.form.Command.TheVariants.{SaveFile, QuotedText, WriteFile}
use Rattle.report_text.specs.Reply.{quoted, saved_text}
use Rattle.span_language.specs.State.{World}
use Rattle.span_language.specs.Step.{IsOfFile, IsPut, IsPutting, IsSaved, open_size}
use Rattle.span_language.specs.Means.{Step}
use Rattle.span_language.specs.Runs.{Runs, Sum}
use Rattle.span_language.specs.declared.told.Told.{Told}
use Rattle.span_language.specs.declared.told.Told.TheVariants.{Quiet, Accepted, Refused}

-- a rejected line changes nothing, and neither does a line without a command
pub record ChangesNothing : Type 0 where
  pub refused : (old : World) (number : ℕ) (line reply : List ℕ) (new : World) → Step old number line Refused reply new → new ≡ old
  pub quiet : (old : World) (number : ℕ) (line reply : List ℕ) (new : World) → Step old number line Quiet reply new → new ≡ old

-- the command is deterministic: it is no `save` and no `write`, and if the files are not observable it uses none
abbrev pub IsSettled : Option Files → Command → Type 0
IsSettled (Some files) command = IsPutting command → ⊥
IsSettled None command = IsOfFile command → ⊥

-- the line has such a command, or none
abbrev pub IsSettledLine : Option Files → List ℕ → Type 0
IsSettledLine files line = (command : Command) → LineText line command → IsSettled files command

-- an accepted `save` changes neither the state nor the other files; it writes some image of the documents that `open`
-- accepts, and its reply has the number of the image's nodes
pub record Saves (old : World) (file : List ℕ) (reply : List ℕ) (new : World) : Type 0 where
  pub state : new.state ≡ old.state
  pub bytes : List ℕ
  pub nodes : ℕ
  pub image : IsSaved old.state.documents bytes nodes
  pub short : length bytes ≤ open_size
  pub writable : AllowsWrites old.files file
  pub put : IsPut old.files file bytes new.files
  pub replied : reply ≡ saved_text (length old.state.documents) nodes

-- the same files under each name, and the same closed names; the list of files may have them in another order
abbrev pub AreSameFiles : Option Files → Option Files → Type 0
AreSameFiles (Some files) (Some others) = ((name : List ℕ) → file_of files name ≡ file_of others name)
    × (files.no_reads ≡ others.no_reads) × (files.no_writes ≡ others.no_writes)
AreSameFiles None None = Unit {0}
AreSameFiles _ _ = ⊥

-- the outcome of a `write`, its reply and the state are determined, and so is each file
pub record WritesOnce (told told2 : Told) (reply reply2 : List ℕ) (new new2 : World) : Type 0 where
  pub outcome : told ≡ told2
  pub output : reply ≡ reply2
  pub state : new.state ≡ new2.state
  pub files : AreSameFiles new.files new2.files

-- the outcome of a line, its reply and the resulting world are determined, except for `save`, which may choose the
-- bytes of its file; after a `write` to observable files each file is determined
pub record HasOneReply : Type 0 where
  pub one : (old : World) (number : ℕ) (line : List ℕ) (told told2 : Told) (reply reply2 : List ℕ) (new new2 : World) → IsSettledLine old.files line
      → Step old number line told reply new → Step old number line told2 reply2 new2 → (told ≡ told2) × (reply ≡ reply2) × (new ≡ new2)
  pub write : (old : World) (files : Files) (number : ℕ) (line name file : List ℕ) (told told2 : Told) (reply reply2 : List ℕ) (new new2 : World) → old.files ≡ Some files
      → LineText line (WriteFile name file) → Step old number line told reply new → Step old number line told2 reply2 new2 → WritesOnce told told2 reply reply2 new new2
  pub save : (old : World) (number : ℕ) (line file : List ℕ) (told : Told) (reply : List ℕ) (new : World) → LineText line (SaveFile file)
      → Step old number line told reply new → ((told ≡ Accepted) × Saves old file reply new) ⊎ ((told ≡ Refused) × (new ≡ old))

-- each of the lines is such a line
abbrev pub AreSettled : Option Files → List (List ℕ) → Type 0
AreSettled files [] = Unit {0}
AreSettled files (line ∷ lines) = IsSettledLine files line × AreSettled files lines

-- for deterministic lines, the output, the resulting world, and whether a line is rejected are determined
abbrev pub HasOneOutput : Type 0
HasOneOutput = (old : World) (number : ℕ) (lines : List (List ℕ)) (sum sum2 : Sum) (new new2 : World) → AreSettled old.files lines
    → Runs old number lines sum new → Runs old number lines sum2 new2 → (sum.refused ≡ sum2.refused) × (sum.output ≡ sum2.output) × (new ≡ new2)

-- the replies of `show` are read: between quotes, `bytes` accepts exactly what `show` prints for the same bytes
abbrev pub ReadsShown : Type 0
ReadsShown = (name bytes : List ℕ) → IsName name → (All (λ b. b < 256) bytes) → length (spaced (codes "bytes") (name ∷ quoted bytes ∷ [])) ≤ 2 ^ 16
    → LineText (spaced (codes "bytes") (name ∷ quoted bytes ∷ [])) (QuotedText name bytes)
