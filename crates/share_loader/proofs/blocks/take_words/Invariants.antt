use Rattle.std.proofs.Common.{◌≡◌, ◌⊎◌, ◌+◌, ◌-◌, ◌<◌, ◌≤◌, ◌^◌, ◌++◌, length, take, vec_len}
use Rattle.slp_model.specs.Nodes.{Grows}
use Rattle.share_loader.specs.Blocks.{IsTaken, ended_text, taken_text, blocks_cost}
use Rattle.share_loader.specs.BlocksView.{taken_of}
use Rattle.share_loader.proofs.blocks.take_words.Given as goal

abbrev pub invariant-loop-count : goal.invariant-loop-count
invariant-loop-count g l = record {
  grows : Grows l.initial.store l.store l.initial.pairs l.pairs;
  within : l.count ≤ length l.text;
  left : (l.count ≡ 0) ⊎ ((l.count + 3 ≤ length l.text) ⊎ ((l.count ≡ length l.text) × (l.least ≤ 8)));
  taken : IsTaken l.store (taken_of l.blocks);
  few : vec_len l.blocks.symbols < 2 ^ 19;
  text : taken_text l.store (taken_of l.blocks) ≡ taken_text l.initial.store (taken_of l.initial.blocks) ++ take l.count l.text;
  cost : l.pairs + vec_len l.blocks.symbols + blocks_cost (length (ended_text l.initial.store (taken_of l.initial.blocks))) (length (taken_text l.initial.store (taken_of l.initial.blocks))) ≤ l.initial.pairs + vec_len l.initial.blocks.symbols + l.count + blocks_cost (length (ended_text l.store (taken_of l.blocks))) (length (taken_text l.store (taken_of l.blocks)));
}

abbrev pub decreases-loop-count : goal.decreases-loop-count
decreases-loop-count g l = length l.text - l.count
