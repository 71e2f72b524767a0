use Rattle.std.proofs.Common.{sym, arith, eq-eqb}
use Rattle.std.proofs.lemmas.Bool.{ne_eqb}
use Rattle.state_tables.specs.StateSet.{number_of_words}
use Rattle.state_tables.proofs.Words.{words-some, words-none}
use Rattle.state_tables.proofs.state_set.is_empty.Goals as goal

pub returns-then-word-ne0 : goal.returns-then-word-ne0
returns-then-word-ne0 c = sym (ne_eqb (number_of_words c.args.words.now) 0 (words-some c.args.words.now c.loop-word.word-index c.if-word-ne0.true))

pub returns : goal.returns
returns c = sym (eq-eqb (number_of_words c.args.words.now) 0 (words-none c.args.words.now (λ i lt. c.loop-word.invariant i (omega (arith, lt, c.loop-word-test.false)))))
