use Rattle.std.proofs.Common.{ap, ◌+◌, ◌%◌, ◌^◌, ◌∙◌}
use Rattle.state_tables.specs.Digest.{high_of, low_of, word_number}
use Rattle.state_tables.proofs.digest.word_number.Goals as goal

pub returns : goal.returns
unfolding word_number
returns c =
    let across = c.product-across.result in
    ap (λ n. (n + c.high_half.result) % 2 ^ 64) c.low_half.ensures ∙ ap (λ n. (low_of across + n) % 2 ^ 64) c.high_half.ensures
    ∙ ap (λ n. (low_of n + high_of n) % 2 ^ 64) c.product-across.ensures
