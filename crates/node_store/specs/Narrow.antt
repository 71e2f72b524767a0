-- Nodes whose ids take 32 bits.
use Rattle.std.specs.Prelude.{◌≢◌, ℕ, ◌==◌, ◌+◌, ◌*◌, ◌/◌, ◌%◌, ◌^◌, List, if◌then◌else◌}
use Rattle.std.specs.List.{IsDistinct}
use Rattle.slp_model.specs.declared.Node.{Node}
use Rattle.slp_model.specs.declared.Node.TheVariants.{Byte, Pair}
use Rattle.slp_model.specs.contracts.NodePartialEq.TheImpl.{ghosts}
use Rattle.node_store.specs.declared.narrow.Narrow.{Narrow}

-- what a byte has in place of its right child's id
abbrev pub byte_mark : ℕ
byte_mark = 4294967295

abbrev pub IsPair : Narrow → Type 0
IsPair n = n.right ≢ byte_mark

-- the node that a narrow one stands for
abbrev pub wide : Narrow → Node
wide n = if n.right == byte_mark then Byte n.left else Pair (record { index = n.left }) (record { index = n.right })

-- its two numbers as one of 64 bits
abbrev pub number_of : Narrow → ℕ
number_of n = n.left * 2 ^ 32 + n.right

-- its hash: the highest 32 bits of its number times an odd factor
abbrev pub hash_of : Narrow → ℕ
hash_of n = (number_of n * 15074714826142052245) % 2 ^ 64 / 2 ^ 32

-- no two nodes are equal
abbrev pub AreUnique : List Node → Type 0
AreUnique ns = IsDistinct ghosts.eq ns
