use Rattle.std.proofs.Common.{◌≡◌, ◌+◌, ◌<◌, ap, sym, ◌∙◌, arith, bit_or, drop, length, inl, inr}
use Rattle.std.specs.Int.{bit_at}
use Rattle.std.specs.Int.Bits.{or_zero_r}
use Rattle.std.proofs.lemmas.Bool.{cases_eq}
use Rattle.state_tables.specs.StateSet.{number_of_words}
use Rattle.state_tables.specs.Table.{reach}
use Rattle.state_tables.specs.Coded.{list_of, table_of}
use Rattle.state_tables.proofs.Collecting.{bit-step, length-table}
use Rattle.state_tables.proofs.Reach.{reach-none}
use Rattle.state_tables.proofs.reached.add_word.Goals as goal

pub loop-rest-preserved : goal.loop-rest-preserved
loop-rest-preserved c =
    let at = c.loop-rest in
    let b = c.least-bit.result in
    let cs = c.args.classes.now in
    let t = table_of c.args.classes.now (list_of c.args.rows.now).rows in
    let low : c.args.first + c.least-bit.result < length c.args.classes.now = c.requires.states b (at.invariant.within b c.least-bit.ensures.bit) in
    let lt : c.args.first + c.least-bit.result < length (table_of c.args.classes.now (list_of c.args.rows.now).rows) = omega (arith, low, length-table cs (list_of c.args.rows.now).rows) in
    record {
      collecting = c.add_state.ensures.collecting;
      within = λ i h. elim (cases_eq i b) [
        | inl e ↦ absurd (omega (arith, sym h ∙ ap (bit_at c.without-rest.result) e ∙ c.without-rest.ensures.gone))
        | inr ne ↦ at.invariant.within i (sym (c.without-rest.ensures.others i ne) ∙ h)
      ];
      so_far =
          ap (λ n. bit_or n (reach c.without-rest.result 0 (drop c.args.first t))) c.add_state.ensures.value
          ∙ bit-step (number_of_words at.words) at.rest c.without-rest.result c.args.first b t lt c.least-bit.ensures.bit c.without-rest.ensures.gone c.without-rest.ensures.others
          ∙ at.invariant.so_far;
    }

pub returns-clause-value : goal.returns-clause-value
returns-clause-value c =
    let at = c.loop-rest in
    let rows = drop c.args.first (table_of c.args.classes.now (list_of c.args.rows.now).rows) in
    let none : c.loop-rest.rest ≡ 0 = omega (arith, c.loop-rest-test.false) in
    sym (ap (λ r. bit_or (number_of_words at.words) (reach r 0 rows)) none ∙ ap (bit_or (number_of_words at.words)) (reach-none 0 rows) ∙ or_zero_r (number_of_words at.words)) ∙ at.invariant.so_far
