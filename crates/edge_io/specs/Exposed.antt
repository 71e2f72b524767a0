-- Files in memory, as names and bytes.
use Rattle.std.specs.Prelude.{ℕ, List, map, Vec}
use Rattle.edge_io.specs.Files.{Entries}

-- the pairs of a vector as files
abbrev pub entries_of : {Y Z : Type 0} → List (Vec ℕ Y × Vec ℕ Z) → Entries
entries_of files = map (λ file. (file.0.items, file.1.items)) files

-- the names of a vector
abbrev pub exposed_names : {Y : Type 0} → List (Vec ℕ Y) → List (List ℕ)
exposed_names names = map (λ name. name.items) names
