use Rattle.std.proofs.Common.{◌≡◌, ◌+◌, ◌<◌, ◌≤◌, ◌++◌, length, vec_len}
use Rattle.slp_model.specs.Nodes.{Grows}
use Rattle.share_loader.specs.Symbols.{AreSymbols, symbols_text, IsNoneAlone}
use Rattle.share_loader.proofs.rounds.round.Given as goal

abbrev pub invariant-loop-rest : goal.invariant-loop-rest
invariant-loop-rest g l = record {
  grows : Grows l.initial.store l.store l.initial.pairs l.pairs;
  next : AreSymbols l.store (l.level + 1) l.next.items;
  rest : AreSymbols l.store l.level l.rest;
  alone : IsNoneAlone l.level l.rest;
  text : symbols_text l.store l.next.items ++ symbols_text l.store l.rest ≡ symbols_text l.initial.store l.symbols;
  cost : l.pairs + vec_len l.next + length l.rest ≤ l.initial.pairs + length l.symbols + 1;
  paid : 0 < length l.rest → l.pairs + vec_len l.next + length l.rest ≤ l.initial.pairs + length l.symbols;
}

abbrev pub decreases-loop-rest : goal.decreases-loop-rest
decreases-loop-rest g l = length l.rest
