-- The blocks that ended and the symbols behind them, and what they may have cost.
use Rattle.std.specs.Prelude.{ℕ, ◌+◌, ◌*◌, ◌/◌, List, ◌++◌, Option}
use Rattle.span_types.specs.Fibonacci.{height_limit}
use Rattle.slp_model.specs.declared.NodeId.{NodeId}
use Rattle.slp_model.specs.declared.Node.{Node}
use Rattle.slp_model.specs.Tree.{root_text}
use Rattle.slp_model.specs.Nodes.{root_tree, IsLive}
use Rattle.share_loader.specs.declared.symbols.Symbol.{Symbol}
use Rattle.share_loader.specs.declared.words.Entry.{Entry}
use Rattle.share_loader.specs.Known.{AreKnown}
use Rattle.share_loader.specs.Symbols.{AreSymbols, symbols_text}

-- the root of the blocks that ended, the symbols of the words behind them, and the table of words
pub record Taken : Type 0 where
  pub root : Option NodeId
  pub symbols : List Symbol
  pub known : List Entry

-- they may be used with a store of these nodes
pub record IsTaken (ns : List Node) (t : Taken) : Type 0 where
  pub root : IsLive ns t.root
  pub symbols : AreSymbols ns 2 t.symbols
  pub known : AreKnown ns t.known

-- the bytes of the blocks that ended
abbrev pub ended_text : List Node → Taken → List ℕ
ended_text ns t = root_text (root_tree ns t.root)

-- all bytes that were cut into words
abbrev pub taken_text : List Node → Taken → List ℕ
taken_text ns t = ended_text ns t ++ symbols_text ns t.symbols

-- what blocks with `ended` bytes may cost beside one node construction for each byte, where n bytes are the whole text: each
-- but the last one has 65,536 bytes
unfoldable pub blocks_cost : ℕ → ℕ → ℕ
blocks_cost ended n = ended / 65536 * (6 * height_limit n + 1)

-- the same of all blocks of a text, with the last one
unfoldable pub all_cost : ℕ → ℕ
all_cost n = (n / 65536 + 1) * (6 * height_limit n + 1)
