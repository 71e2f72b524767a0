use Rattle.std.proofs.Common.{rules, ◌∙◌, ap}
use Rattle.std.specs.Int.{w32, to_le_bytes}
use Rattle.std.proofs.lemmas.Nat.{le_bytes_4}
use Rattle.pair_loader.proofs.PairLemmas.{list-of-four}
use Rattle.pair_loader.proofs.words.number_of_four.Goals as goal

pub returns : goal.returns
returns c = ap (to_le_bytes w32) c.from.ensures ∙ (le_bytes_4 _ _ (search rules) (search rules) c.from_le_bytes.ensures ∙ list-of-four c.args.word.now c.requires)
