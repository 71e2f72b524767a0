-- The new indices of kept nodes.
use Rattle.std.specs.Prelude.{◌≡◌, ℕ, ◌<◌, Bool, List, length, get_or}
use Rattle.slp_model.specs.declared.Node.{Node}
use Rattle.slp_model.specs.declared.Node.TheVariants.{Byte, Pair}
use Rattle.slp_model.specs.Kept.{Keeps}
use Rattle.slp_model.specs.Thin.{rank}

-- the first k numbers are the ranks of their indices
pub record AreRanks (keep : List Bool) (numbers : List ℕ) (k : ℕ) : Type 0 where
  pub long : length numbers ≡ k
  pub ranks : (i : ℕ) → i < k → get_or numbers i 0 ≡ rank keep i

-- the children of the node are kept
abbrev pub KeepChildren : List Bool → Node → Type 0
KeepChildren keep (Byte b) = Unit {0}
KeepChildren keep (Pair l r) = Keeps keep l.index × Keeps keep r.index
