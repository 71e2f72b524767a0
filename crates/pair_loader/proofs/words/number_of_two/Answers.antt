use Rattle.std.proofs.Common.{rules, ◌∙◌, ap}
use Rattle.std.specs.Int.{w16, to_le_bytes}
use Rattle.std.proofs.lemmas.Nat.{le_bytes_2}
use Rattle.pair_loader.proofs.PairLemmas.{list-of-two}
use Rattle.pair_loader.proofs.words.number_of_two.Goals as goal

pub returns : goal.returns
returns c = ap (to_le_bytes w16) c.from.ensures ∙ (le_bytes_2 _ _ (search rules) (search rules) c.from_le_bytes.ensures ∙ list-of-two c.args.word.now c.requires)
