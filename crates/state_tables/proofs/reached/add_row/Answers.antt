use Rattle.std.proofs.Common.{◌-◌, ◌^◌, ap, bit_or, ◌∙◌}
use Rattle.state_tables.specs.StateSet.{number_of_words}
use Rattle.state_tables.specs.Table.{row_at}
use Rattle.state_tables.specs.Coded.{list_of}
use Rattle.state_tables.proofs.Collecting.{row-none, row-some}
use Rattle.state_tables.proofs.reached.add_row.Goals as goal

pub returns-then-code-ne0-clause-value : goal.returns-then-code-ne0-clause-value
returns-then-code-ne0-clause-value c =
    c.add.ensures.value
    ∙ ap (λ n. bit_or n (2 ^ (c.code-code.result - 1))) (c.add_all.ensures.value ∙ ap (bit_or (number_of_words c.args.words.now)) (c.words.ensures.number ∙ c.marked.ensures.set))
    ∙ row-some (row_at (list_of c.args.rows.now).rows c.args.row) (number_of_words c.args.words.now) c.code-code.result c.code-code.ensures c.if-code-ne0.true

pub returns-else-code-ne0-clause-value : goal.returns-else-code-ne0-clause-value
returns-else-code-ne0-clause-value c =
    c.add_all.ensures.value ∙ ap (bit_or (number_of_words c.args.words.now)) (c.words.ensures.number ∙ c.marked.ensures.set)
    ∙ row-none (row_at (list_of c.args.rows.now).rows c.args.row) (number_of_words c.args.words.now) c.code-code.result c.code-code.ensures c.if-code-ne0.false
