-- Counters and stacks of blocks, by which the loader's tree is found.
use Rattle.std.proofs.Common.{ℕ, ◌+◌, nat_eq, if◌then◌else◌, List, [], ◌∷◌, Option, Some, None}
use Rattle.slp_model.specs.Tree.{Tree, Fork, height}
use Rattle.slp_model.specs.Join.{join_roots, root_cost}

-- the blocks as a binary counter: at each level a block or none, the lowest level first
abbrev pub counter_push : List (Option Tree) → Tree → List (Option Tree)
counter_push [] b = Some b ∷ []
counter_push (None ∷ ds) b = Some b ∷ ds
counter_push (Some a ∷ ds) b = None ∷ counter_push ds (Fork a b)

-- the counter after each block is pushed in turn
abbrev pub counter_onto : List (Option Tree) → List Tree → List (Option Tree)
counter_onto ds [] = ds
counter_onto ds (b ∷ bs) = counter_onto (counter_push ds b) bs

-- the blocks are joined before the tail, the lowest level first
abbrev pub collect : List (Option Tree) → Option Tree → Option Tree
collect [] tail = tail
collect (d ∷ ds) tail = collect ds (join_roots d tail)

-- the counter without its empty levels: two blocks of equal height become a pair
abbrev pub stack_push : List Tree → Tree → List Tree
stack_push [] b = b ∷ []
stack_push (a ∷ rest) b = if nat_eq (height a) (height b) then stack_push rest (Fork a b) else b ∷ (a ∷ rest)

abbrev pub stack_onto : List Tree → List Tree → List Tree
stack_onto blocks [] = blocks
stack_onto blocks (b ∷ bs) = stack_onto (stack_push blocks b) bs

-- the blocks are joined before the tail, the first one first
abbrev pub gather : List Tree → Option Tree → Option Tree
gather [] tail = tail
gather (a ∷ rest) tail = gather rest (join_roots (Some a) tail)

-- how many pairs are made at most by these joins
abbrev pub gather_cost : List Tree → Option Tree → ℕ
gather_cost [] tail = 0
gather_cost (a ∷ rest) tail = root_cost (Some a) tail + gather_cost rest (join_roots (Some a) tail)

-- the height of the last of these blocks, or h where there is none
abbrev pub top_height : ℕ → List Tree → ℕ
top_height h [] = h
top_height h (a ∷ rest) = top_height (height a) rest
