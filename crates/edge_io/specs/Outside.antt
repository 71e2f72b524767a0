-- What the adapters over std expose.
use Rattle.std.specs.Prelude.{ℕ, Bool, List, Option, Some, None, if◌then◌else◌}
use Rattle.edge_io.specs.Files.{Files}

-- a source over a reader: the bytes that are left, if the reader exposes them, and its faults
pub record ReaderInput : Type 0 where
  pub left : Option (List ℕ)
  pub faults : ℕ

-- a sink over a writer: the bytes that were written, if the writer exposes them, and its faults
pub record WriterOutput : Type 0 where
  pub written : Option (List ℕ)
  pub faults : ℕ

-- a file store over a folder: whether a put was begun, its faults, and its allocation failures
pub record FolderState : Type 0 where
  pub begun : Bool
  pub faults : ℕ
  pub wants : ℕ

-- the files of a folder, which no contract knows
abbrev pub untold : Option Files
untold = None

-- a put that was begun in a folder, of which no contract knows more
abbrev pub unexposed_put : Bool → Option (Option (List ℕ × List ℕ))
unexposed_put begun = if begun then Some None else None
