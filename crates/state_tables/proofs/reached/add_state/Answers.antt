use Rattle.std.proofs.Common.{◌≡◌, ap, ◌∙◌, arith, bit_or, get_or, sym, true}
use Rattle.std.proofs.lemmas.Nat.Bits.{bit_at-lt}
use Rattle.state_tables.specs.StateSet.{member, number_of_words}
use Rattle.state_tables.specs.Table.{reached_of}
use Rattle.state_tables.specs.Coded.{list_of}
use Rattle.state_tables.proofs.Collecting.{collecting-more, state-row}
use Rattle.state_tables.proofs.StateSets.{member-bit}
use Rattle.state_tables.proofs.reached.add_state.Goals as goal

pub returns-then-bit-eq0-clause-collecting : goal.returns-then-bit-eq0-clause-collecting
returns-then-bit-eq0-clause-collecting c =
    collecting-more c.args.classes.now (list_of c.args.rows.now) c.args.words.now c.add_row.new.words c.args.taken.now c.add.new.words (get_or c.args.classes.now c.args.q 0) c.requires.collecting c.add_row.ensures.width
    c.add_row.ensures.value c.add.ensures.width c.add.ensures.value

pub returns-else-bit-eq0-clause-value : goal.returns-else-bit-eq0-clause-value
returns-else-bit-eq0-clause-value c =
    let cs = c.args.classes.now in
    let rows = (list_of c.args.rows.now).rows in
    let row = get_or cs c.args.q 0 in
    let taken : member (number_of_words c.args.taken.now) (get_or c.args.classes.now c.args.q 0) ≡ true =
    member-bit (number_of_words c.args.taken.now) row (omega (arith, c.bit.ensures, c.if-bit-eq0.false, bit_at-lt (number_of_words c.args.taken.now) row)) in
    sym (ap (λ r. bit_or (number_of_words c.args.words.now) (reached_of r)) (state-row cs rows c.args.q c.requires.state) ∙ c.requires.collecting.has_taken row taken)
