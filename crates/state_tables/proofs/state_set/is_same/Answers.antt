use Rattle.std.proofs.Common.{ap, arith, get_or, ext_get_or, refl}
use Rattle.state_tables.specs.StateSet.{number_of_words}
use Rattle.state_tables.proofs.Words.{words-injective}
use Rattle.state_tables.proofs.state_set.is_same.Goals as goal

pub returns-then-words-index : goal.returns-then-words-index
returns-then-words-index c = (
  λ t. cc,
  λ e. absurd (c.if-words-index.true
      (ap (λ x. get_or x c.loop-index.index 0) (words-injective c.args.words.now c.args.others.now (λ i. omega (arith, c.type_inv.words i)) (λ i. omega (arith, c.type_inv.others i)) c.requires e))),
)

pub returns : goal.returns
returns c = (
  λ t. ap number_of_words (ext_get_or 0 c.args.words.now c.args.others.now c.requires (λ i lt. c.loop-index.invariant i (omega (arith, lt, c.loop-index-test.false)))),
  λ e. refl,
)
