-- What the objects in memory expose.
use Rattle.std.specs.Prelude.{ℕ, List, Option}
use Rattle.edge_io.specs.Files.{Files}
use Rattle.edge_io.specs.Injection.{Injection}

-- a source: the bytes that are left, the most that a call returns, and its faults
pub record MemInput : Type 0 where
  pub left : List ℕ
  pub piece : ℕ
  pub injection : Injection

-- a sink: the bytes that were written, the most that a call takes, its faults, and its allocation failures
pub record MemOutput : Type 0 where
  pub written : List ℕ
  pub piece : ℕ
  pub injection : Injection
  pub wants : ℕ

-- a file store: its files, what was begun, the most bytes that a read returns, its faults, and its allocation failures
pub record MemFiles : Type 0 where
  pub files : Files
  pub begun : Option (List ℕ × List ℕ)
  pub piece : ℕ
  pub injection : Injection
  pub wants : ℕ

-- a sink that has no faults
pub record SureOutput : Type 0 where
  pub written : List ℕ
  pub wants : ℕ

-- a file store that has no faults
pub record SureFiles : Type 0 where
  pub files : Files
  pub begun : Option (List ℕ × List ℕ)
  pub wants : ℕ
