use Rattle.std.proofs.Common.{◌≡◌, ◌<◌, ◌+◌, ◌*◌, ◌/◌, ◌%◌, ◌^◌, ap, ◌∙◌, arith, bit_or, length}
use Rattle.state_tables.specs.StateSet.{number_of_words}
use Rattle.state_tables.proofs.Words.{single-bit, words-set}
use Rattle.state_tables.proofs.state_set.add.Goals as goal

pub returns-clause-value : goal.returns-clause-value
returns-clause-value c =
    let ws = c.args.words.now in
    let i = c.args.q / 64 in
    let b = c.args.q % 64 in
    let few : b < 64 = omega arith in
    let within : i < length ws = omega (arith, c.requires.within) in
    let index : 64 * i + b ≡ c.args.q = omega arith in
    rw (single-bit b few) (words-set ws i b within few c.requires.words ∙ ap (λ n. bit_or (number_of_words ws) (2 ^ n)) index)
