-- Files by name, and the names that are closed for reading and for writing.
use Rattle.std.specs.Prelude.{◌≡◌, Result, OnOk, IsErrOf, ℕ, ◌≤◌, Bool, false, List, [], Option, Some, None, ⊤, IfSome, IsSome, IsTrue, IsFalse, length, take, drop, find, option_map, if◌then◌else◌, ◌∷◌, ◌++◌}
use Rattle.std.specs.List.{list_any}
use Rattle.std.specs.Str.{bytes_eq}
use Rattle.edge_io.specs.declared.PutRefusal.{PutRefusal}
use Rattle.edge_io.specs.declared.PutRefusal.TheVariants.{Denied}

-- names and bytes; the first entry of a name counts
abbrev pub Entries : Type 0
Entries = List (List ℕ × List ℕ)

-- the bytes of the first entry with this name
abbrev pub entry_of : Entries → List ℕ → Option (List ℕ)
entry_of entries name = option_map (λ file. file.1) (find (λ file. bytes_eq file.0 name) entries)

-- a present name keeps its index and has these bytes, and a new one goes last
abbrev pub put_entry : Entries → List ℕ → List ℕ → Entries
put_entry [] name bytes = (name, bytes) ∷ []
put_entry (file ∷ files) name bytes = if bytes_eq file.0 name then (file.0, bytes) ∷ files else file ∷ put_entry files name bytes

-- whether the name is among the names
abbrev pub is_among : List (List ℕ) → List ℕ → Bool
is_among names name = list_any (λ other. bytes_eq other name) names

-- the files, and the names that are closed for reading and for writing
pub record Files : Type 0 where
  pub entries : Entries
  pub no_reads : List (List ℕ)
  pub no_writes : List (List ℕ)

-- files of which no name is closed
abbrev pub open_files : Entries → Files
open_files entries = record { entries = entries; no_reads = []; no_writes = [] }

-- the bytes of the file with this name
abbrev pub file_of : Files → List ℕ → Option (List ℕ)
file_of files name = entry_of files.entries name

-- whether the name is closed for reading
abbrev pub reads_closed : Files → List ℕ → Bool
reads_closed files name = is_among files.no_reads name

-- whether the name is closed for writing
abbrev pub writes_closed : Files → List ℕ → Bool
writes_closed files name = is_among files.no_writes name

-- the file of this name has these bytes, and everything else is unchanged
abbrev pub put_file : Files → List ℕ → List ℕ → Files
put_file files name bytes = record files { entries = put_entry files.entries name bytes }

-- one name more is closed, for reading and for writing as stated
abbrev pub close_file : Files → List ℕ → Bool → Bool → Files
close_file files name reads writes = record {
  entries = files.entries;
  no_reads = if reads then files.no_reads ++ name ∷ [] else files.no_reads;
  no_writes = if writes then files.no_writes ++ name ∷ [] else files.no_writes;
}

-- the file has these bytes from the offset on, and the piece is empty only if none is left
pub record IsPiece (bytes : List ℕ) (from : ℕ) (piece : List ℕ) : Type 0 where
  pub prefix : piece ≡ take (length piece) (drop from bytes)
  pub end : piece ≡ [] → length bytes ≤ from

-- there is a file of this name, and it has these bytes from the offset on
abbrev pub HasPiece : Files → List ℕ → ℕ → List ℕ → Type 0
HasPiece files name from piece = (bytes : List ℕ) × (file_of files name ≡ Some bytes) × IsPiece bytes from piece

-- exposed files have these bytes under the name
abbrev pub Holds : Option Files → List ℕ → List ℕ → Type 0
Holds files name bytes = IfSome files (λ all. file_of all name ≡ Some bytes)

-- exposed files have no file of the name
abbrev pub LacksFile : Option Files → List ℕ → Type 0
LacksFile files name = IfSome files (λ all. file_of all name ≡ None)

-- exposed files have the name open for reading
abbrev pub AllowsReads : Option Files → List ℕ → Type 0
AllowsReads files name = IfSome files (λ all. IsFalse (reads_closed all name))

-- exposed files have a file of the name, which is closed for reading
abbrev pub DeniesReads : Option Files → List ℕ → Type 0
DeniesReads files name = IfSome files (λ all. IsSome (file_of all name) × IsTrue (reads_closed all name))

-- exposed files have the name open for writing
abbrev pub AllowsWrites : Option Files → List ℕ → Type 0
AllowsWrites files name = IfSome files (λ all. IsFalse (writes_closed all name))

-- exposed files have the name closed for writing
abbrev pub DeniesWrites : Option Files → List ℕ → Type 0
DeniesWrites files name = IfSome files (λ all. IsTrue (writes_closed all name))

-- exposed files stay exposed, and the other files and the closed names are unchanged
abbrev pub KeepsOthers : Option Files → Option Files → List ℕ → Type 0
KeepsOthers None new name = ⊤
KeepsOthers (Some old) None name = ⊥
KeepsOthers (Some old) (Some new) name =
    ((other : List ℕ) → bytes_eq other name ≡ false → file_of new other ≡ file_of old other)
    × (new.no_reads ≡ old.no_reads) × (new.no_writes ≡ old.no_writes)

-- a put was begun, and if it is exposed it has this name and these bytes
abbrev pub IsBegun : Option (Option (List ℕ × List ℕ)) → List ℕ → List ℕ → Type 0
IsBegun None name bytes = ⊥
IsBegun (Some entries_of) name bytes = IfSome entries_of (λ put. (put.0 ≡ name) × (put.1 ≡ bytes))

-- a put of these bytes to this name did what it returned, or was rejected if exposed files have the name closed
pub record IsPutTo (old new : Option Files) (name bytes : List ℕ) (result : Result (Unit {0}) PutRefusal) : Type 0 where
  pub done : OnOk result (Holds new name bytes)
  pub others : KeepsOthers old new name
  pub allowed : OnOk result (AllowsWrites old name)
  pub denied : IsErrOf result Denied → DeniesWrites old name
