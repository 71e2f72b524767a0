-- What a contract sees of `AheadList`.
use Rattle.std.specs.Prelude.{ℕ, List, Option}
use Rattle.span_enum.specs.declared.trail.Ahead.{Ahead}

-- the nodes ahead, and for how many there is room
pub record NodesAhead (words : ℕ) : Type 0 where
  pub items : List (Option (Ahead words))
  pub capacity : ℕ
