-- The tree that the loader makes of a text.
use Rattle.std.specs.Prelude.{ℕ, zero, suc, List, [], ◌∷◌, map, length, Option, Some, None}
use Rattle.slp_model.specs.Tree.{Tree, Leaf, Fork}
use Rattle.slp_model.specs.Join.{join_roots}

-- the first block with the second, the third with the fourth, and so on; an odd last one is left out
abbrev pub pair_up : List Tree → List Tree
pair_up [] = []
pair_up (x ∷ []) = []
pair_up (x ∷ y ∷ zs) = Fork x y ∷ pair_up zs

-- the last block, if their number is odd
abbrev pub odd_last : List Tree → Option Tree
odd_last [] = None
odd_last (x ∷ []) = Some x
odd_last (x ∷ y ∷ zs) = odd_last zs

-- in each round an odd last block is joined before the tail, and the other blocks are paired
abbrev pub shape_onto : ℕ → List Tree → Option Tree → Option Tree
shape_onto zero bs tail = tail
shape_onto (suc rounds) bs tail = shape_onto rounds (pair_up bs) (join_roots (odd_last bs) tail)

-- the blocks are at first the bytes, and the tail is empty; there are never more rounds than bytes
unfoldable pub shape : List ℕ → Option Tree
shape s = shape_onto (length s) (map Leaf s) None
