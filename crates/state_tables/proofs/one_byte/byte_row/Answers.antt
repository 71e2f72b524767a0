use Rattle.std.proofs.Common.{◌+◌, ap, sym, ◌∙◌, bit_or, drop}
use Rattle.state_tables.specs.StateSet.{number_of_words}
use Rattle.state_tables.specs.Coded.{code_of}
use Rattle.state_tables.specs.Table.{byte_row, reach_by_marks}
use Rattle.state_tables.proofs.Placing.{coded-row}
use Rattle.state_tables.proofs.Reach.{marks-step, marks-end}
use Rattle.state_tables.proofs.one_byte.byte_row.Goals as goal

pub loop-mark-preserved : goal.loop-mark-preserved
loop-mark-preserved c =
    let at = c.loop-mark in
    let ms = c.marks-mark-items.result.now in
    record {
      width = c.add_mark.ensures.width ∙ at.invariant.width;
      so_far =
          ap (λ n. bit_or n (reach_by_marks c.args.dfa.now c.args.p c.args.byte (drop (at.mark-index + 1) ms))) c.add_mark.ensures.value
          ∙ marks-step c.args.dfa.now c.args.p c.args.byte (number_of_words at.words) at.mark-index ms c.loop-mark-test.true ∙ at.invariant.so_far;
    }

pub returns-clause-value : goal.returns-clause-value
returns-clause-value c =
    let at = c.loop-mark in
    coded-row c.coded.result at.words (byte_row c.args.dfa.now c.args.byte c.args.p) (c.coded.ensures ∙ ap code_of c.next.ensures)
    (sym (marks-end c.args.dfa.now c.args.p c.args.byte (number_of_words at.words) at.mark-index c.marks-mark-items.result.now c.loop-mark-test.false) ∙ at.invariant.so_far)
