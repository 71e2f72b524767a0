-- The bytes of records and documents.
use Rattle.std.specs.Prelude.{◌≡◌, ℕ, ◌+◌, ◌-◌, ◌<◌, ◌^◌, List, [], ◌∷◌, ◌++◌, length, Option, Some, None, true, false, nat_le}
use Rattle.byteorder.specs.Endian.{big_bytes}
use Rattle.span_types.specs.Names.{is_name}
use Rattle.slp_model.specs.declared.Node.{Node}
use Rattle.slp_model.specs.declared.Node.TheVariants.{Byte, Pair}
use Rattle.slp_model.specs.Tree.{leaves, height}
use Rattle.slp_model.specs.Nodes.{tree}
use Rattle.slp_model.specs.Join.{is_near}
use Rattle.slp_image.specs.Image.{Document, is_among, names_of}

abbrev pub node_bytes : Node → List ℕ
node_bytes (Byte b) = 0 ∷ (b ∷ [])
node_bytes (Pair l r) = 1 ∷ (big_bytes 8 l.index ++ big_bytes 8 r.index)

abbrev pub records_bytes : List Node → List ℕ
records_bytes [] = []
records_bytes (n ∷ ns) = node_bytes n ++ records_bytes ns

abbrev pub root_number : Option ℕ → ℕ
root_number None = 2 ^ 64 - 1
root_number (Some i) = i

abbrev pub document_bytes : Document → List ℕ
document_bytes d = length d.name ∷ (d.name ++ big_bytes 8 (root_number d.root))

abbrev pub documents_bytes : List Document → List ℕ
documents_bytes [] = []
documents_bytes (d ∷ ds) = document_bytes d ++ documents_bytes ds

-- n may be the next record after ns
abbrev pub MayFollow : List Node → Node → Type 0
MayFollow ns (Byte b) = Unit {0}
MayFollow ns (Pair l r) = (l.index < length ns) × (r.index < length ns) × (is_near (height (tree ns l.index)) (height (tree ns r.index)) ≡ true) × (nat_le (leaves (tree ns l.index) + leaves (tree ns r.index)) (2 ^ 48) ≡ true)

abbrev pub AllFollow : List Node → List Node → Type 0
AllFollow ns [] = Unit {0}
AllFollow ns (n ∷ more) = (length ns < 2 ^ 64) × MayFollow ns n × AllFollow (ns ++ n ∷ []) more

-- d may be the next document after those with these names, if there are n records
abbrev pub IsNextDocument : ℕ → Option ℕ → Type 0
IsNextDocument count None = Unit {0}
IsNextDocument count (Some i) = i < count

abbrev pub MayBeNext : ℕ → List Document → Document → Type 0
MayBeNext count ds d = (is_name d.name ≡ true) × (is_among (names_of ds) d.name ≡ false) × IsNextDocument count d.root

abbrev pub AllNext : ℕ → List Document → List Document → Type 0
AllNext count ds [] = Unit {0}
AllNext count ds (d ∷ more) = MayBeNext count ds d × AllNext count (ds ++ d ∷ []) more
