use Rattle.std.proofs.Common.{ap, sym, ◌∙◌, bit_or}
use Rattle.std.specs.Int.Bits.{or_zero_r}
use Rattle.state_tables.specs.StateSet.{number_of_words}
use Rattle.state_tables.proofs.one_byte.add_mark.Goals as goal

pub returns-in_default-clause-value : goal.returns-in_default-clause-value
returns-in_default-clause-value c =
    let set = number_of_words c.args.words.now in
    sym (ap (bit_or set) (sym c.in_default.ensures.value) ∙ or_zero_r set)
