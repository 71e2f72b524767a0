use Rattle.std.proofs.Common.{◌≡◌, ◌+◌, ◌-◌, ◌<◌, ◌≤◌, vec_len}
use Rattle.slp_model.specs.Nodes.{Grows}
use Rattle.share_loader.specs.Symbols.{AreSymbols, symbols_text}
use Rattle.share_loader.proofs.rounds.block_of.Given as goal

abbrev pub invariant-loop-level : goal.invariant-loop-level
invariant-loop-level g l = record {
  grows : Grows l.initial.store l.store l.initial.pairs l.pairs;
  some : 0 < vec_len l.symbols;
  symbols : AreSymbols l.store l.level l.symbols.items;
  text : symbols_text l.store l.symbols.items ≡ symbols_text l.initial.store l.initial.symbols.items;
  least : 2 ≤ l.level;
  most : l.level ≤ 69;
  cost : l.pairs + vec_len l.symbols + 2 ≤ l.initial.pairs + vec_len l.initial.symbols + l.level;
}

abbrev pub decreases-loop-level : goal.decreases-loop-level
decreases-loop-level g l = 70 - l.level
