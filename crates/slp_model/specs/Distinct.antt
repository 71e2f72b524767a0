-- Distinct nodes, whose bytes are below 256.
use Rattle.std.specs.Prelude.{◌≡◌, ℕ, ◌<◌, List, slice_get, Some}
use Rattle.slp_model.specs.declared.Node.{Node}
use Rattle.slp_model.specs.declared.Node.TheVariants.{Byte, Pair}

-- a byte is below 256
abbrev pub IsOfByte : Node → Type 0
IsOfByte (Byte b) = b < 256
IsOfByte (Pair l r) = Unit {0}

-- each byte among the nodes is below 256
abbrev pub AreOfBytes : List Node → Type 0
AreOfBytes ns = (i : ℕ) (n : Node) → slice_get ns i ≡ Some n → IsOfByte n

-- no two nodes are equal
abbrev pub AreDistinct : List Node → Type 0
AreDistinct ns = (i j : ℕ) (n : Node) → slice_get ns i ≡ Some n → slice_get ns j ≡ Some n → i ≡ j
