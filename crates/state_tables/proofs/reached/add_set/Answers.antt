use Rattle.std.proofs.Common.{◌+◌, ◌*◌, ap, sym, ◌∙◌, arith, bit_or, drop}
use Rattle.state_tables.specs.StateSet.{number_of_words}
use Rattle.state_tables.specs.Table.{reach}
use Rattle.state_tables.specs.Coded.{list_of, table_of}
use Rattle.state_tables.proofs.Collecting.{bit-of-word, word-end, word-step}
use Rattle.state_tables.proofs.reached.add_set.Goals as goal

pub add_word-requires-clause-states : goal.add_word-requires-clause-states
add_word-requires-clause-states c = λ b h.
    c.requires.states (c.loop-index.index * 64 + b) (bit-of-word c.args.set.now c.loop-index.index b (λ i. omega (arith, c.type_inv.set i)) h)

pub loop-index-preserved : goal.loop-index-preserved
loop-index-preserved c =
    let at = c.loop-index in
    let t = table_of c.args.classes.now (list_of c.args.rows.now).rows in
    record {
      collecting = c.add_word.ensures.collecting;
      so_far =
          ap (λ n. bit_or n (reach (number_of_words (drop (at.index + 1) c.args.set.now)) 0 (drop ((at.index + 1) * 64) t))) c.add_word.ensures.value
          ∙ word-step (number_of_words at.words) at.index c.args.set.now t c.loop-index-test.true (λ i. omega (arith, c.type_inv.set i))
          ∙ at.invariant.so_far;
    }

pub returns-clause-value : goal.returns-clause-value
returns-clause-value c =
    let at = c.loop-index in
    sym (word-end (number_of_words at.words) at.index c.args.set.now (drop (at.index * 64) (table_of c.args.classes.now (list_of c.args.rows.now).rows)) (omega (arith, c.loop-index-test.false)))
    ∙ at.invariant.so_far
