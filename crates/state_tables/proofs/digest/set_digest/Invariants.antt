use Rattle.std.proofs.Common.{◌≡◌, ◌%◌, ◌^◌, take}
use Rattle.state_tables.specs.Digest.{word_number}
use Rattle.state_tables.specs.Weights.{weight_of, weighted}
use Rattle.state_tables.proofs.digest.set_digest.Given as goal

abbrev pub invariant-loop-word : goal.invariant-loop-word
invariant-loop-word l = record {
  next : l.weight ≡ weight_of l.word-index % 2 ^ 64;
  added : l.sum ≡ weighted word_number 0 (take l.word-index l.words) % 2 ^ 64;
}
