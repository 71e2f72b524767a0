use Rattle.std.proofs.Common.{rules, ℕ, ◌<◌, get_or, subst, sym, ◌∙◌}
use Rattle.std.proofs.lemmas.Nat.{le_bytes_8}
use Rattle.pair_loader.proofs.PairLemmas.{list-of-eight}
use Rattle.pair_loader.proofs.words.number_of_eight.Goals as goal

pub returns : goal.returns
returns c =
    let below : (i : ℕ) → get_or c.args.word.now i 0 < 256 = search rules in
    let same = list-of-eight c.args.word.now c.requires in
    le_bytes_8 _ _ (search rules) (λ i. subst (λ s. get_or s i 0 < 256) (sym same) (below i)) c.from_le_bytes.ensures ∙ same
