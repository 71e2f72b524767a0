-- Files that are read in pieces.
use Rattle.std.specs.Prelude.{◌≡◌, ◌⊎◌, ℕ, ◌+◌, ◌≤◌, List, ◌++◌, Option, Some, IfSome, IsFalse, MatchResult, Result, length, take}
use Rattle.edge_io.specs.Files.{DeniesReads, Files, LacksFile, file_of, reads_closed}
use Rattle.edge_io.specs.declared.ShelfRefusal.{ShelfRefusal}
use Rattle.edge_io.specs.declared.ShelfRefusal.TheVariants as shelf
use Rattle.slp_image.specs.Image.{image}
use Rattle.span_language.specs.Step.{IsOversized, IsWithin, load_size, open_size}
use Rattle.text_commands.specs.Loading.{limit_of}
use Rattle.text_commands.specs.declared.loaders.Method.{Method}
use Rattle.text_commands.specs.declared.reading.FileRefusal.{FileRefusal}
use Rattle.text_commands.specs.declared.reading.FileRefusal.TheVariants.{Absent, Denied, TooLong, Failed, NoMemory}

-- a rejection of the file store, as the reader of a file returns it
abbrev pub of_shelf : ShelfRefusal → FileRefusal
of_shelf shelf.Failed = Failed
of_shelf shelf.NoMemory = NoMemory
of_shelf shelf.Absent = Absent
of_shelf shelf.Denied = Denied

-- what the rejection of a file means
abbrev pub IsFileRejection : Option Files → List ℕ → ℕ → FileRefusal → Type 0
IsFileRejection files name limit Absent = LacksFile files name
IsFileRejection files name limit Denied = DeniesReads files name
IsFileRejection files name limit TooLong = IsOversized files name limit
IsFileRejection files name limit Failed = Unit {0}
IsFileRejection files name limit NoMemory = Unit {0}

-- the rejection is about the file itself: it is neither a failure of the file store nor of an allocation
abbrev pub IsOfTheFile : FileRefusal → Type 0
IsOfTheFile Failed = ⊥
IsOfTheFile NoMemory = ⊥
IsOfTheFile _ = Unit {0}

-- the file store's count of failures is unchanged, unless the file was not read because of a failure or an allocation
-- failure
abbrev pub IsSound : {T : Type 0} → Result T FileRefusal → ℕ → ℕ → Type 0
IsSound result before after = MatchResult result (λ _. after ≡ before) (λ why. IsOfTheFile why → after ≡ before)

-- the file with this name may be read, has at most this many bytes, and begins with these
pub record IsPrefixOfFile (all : Files) (name : List ℕ) (limit : ℕ) (prefix : List ℕ) : Type 0 where
  pub file : List ℕ
  pub there : file_of all name ≡ Some file
  pub readable : IsFalse (reads_closed all name)
  pub short : length file ≤ limit
  pub begins : prefix ≡ take (length prefix) file

-- if the files are observable
abbrev pub IsFilePrefix : Option Files → List ℕ → ℕ → List ℕ → Type 0
IsFilePrefix files name limit prefix = IfSome files (λ all. IsPrefixOfFile all name limit prefix)

-- the file, which is within the limit of `open`, has the same meaning as an image as these bytes
pub record MeansFile (files : Option Files) (name bytes : List ℕ) : Type 0 where
  pub all : List ℕ
  pub within : IsWithin files name open_size all
  pub same : image all ≡ image bytes

-- the piece of a file after this prefix, and if it is empty the prefix is the whole file
pub record IsNext (files : Option Files) (name : List ℕ) (limit : ℕ) (prefix piece : List ℕ) (count : ℕ) : Type 0 where
  pub begins : IsFilePrefix files name limit (prefix ++ piece)
  pub size : length (prefix ++ piece) ≡ length prefix + count
  pub end : count ≡ 0 → IsWithin files name limit prefix

-- this number of bytes was read of a file, after a prefix of this length
abbrev pub IsNextPiece : Option Files → List ℕ → ℕ → ℕ → ℕ → List ℕ → Type 0
IsNextPiece files name limit at count piece = (prefix : List ℕ) → length prefix ≡ at → IsFilePrefix files name limit prefix → IsNext files name limit prefix piece count

-- the node constructions of loading a file: none, or at most the maximum for its length
abbrev pub IsLoadPaid : Method → Option Files → List ℕ → ℕ → ℕ → Type 0
IsLoadPaid method files name before after = (after ≡ before) ⊎ ((bytes : List ℕ) × IsWithin files name load_size bytes × (after ≤ before + limit_of method (length bytes)))
