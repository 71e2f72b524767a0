use Rattle.std.proofs.Common.{ap, ◌∙◌, bit_or}
use Rattle.state_tables.specs.StateSet.{number_of_words}
use Rattle.state_tables.specs.Coded.{set_beyond}
use Rattle.state_tables.proofs.UnionLemmas.{beyond-set}
use Rattle.state_tables.proofs.unions.unite.Goals as goal

pub returns-clause-value : goal.returns-clause-value
returns-clause-value c =
    let image = number_of_words c.words-2.result.now in
    c.put_union.ensures.value
    ∙ ap (λ s. bit_or s image) (c.words.ensures.number ∙ c.set-beyond.ensures.set ∙ beyond-set c.args.rows.now.sets c.args.beyond c.requires.some)
    ∙ ap (bit_or (set_beyond c.args.rows.now.sets c.args.beyond)) c.words-2.ensures.number
