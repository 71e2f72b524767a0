-- Two nodes with n copies of a text and with one copy more.
use Rattle.std.specs.Prelude.{◌≡◌, ℕ, ◌+◌, ◌<◌, ◌≤◌, List, length}
use Rattle.slp_model.specs.declared.Node.{Node}
use Rattle.slp_model.specs.Tree.{text, height}
use Rattle.slp_model.specs.Nodes.{tree}
use Rattle.slp_rebalance.specs.Copies.{copies}

-- the node a has n copies of the text s and b one more, and b is as high as a or one higher
pub record AreAround (ns : List Node) (s : List ℕ) (n a b : ℕ) : Type 0 where
  pub a_live : a < length ns
  pub b_live : b < length ns
  pub fewer : text (tree ns a) ≡ copies n s
  pub more : text (tree ns b) ≡ copies (n + 1) s
  pub low : height (tree ns a) ≤ height (tree ns b)
  pub high : height (tree ns b) ≤ height (tree ns a) + 1
