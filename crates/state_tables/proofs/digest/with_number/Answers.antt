use Rattle.std.proofs.Common.{refl, ◌∙◌}
use Rattle.state_tables.specs.Digest.{digest_with}
use Rattle.state_tables.proofs.Bijection.{digest-injective, number-injective}
use Rattle.state_tables.proofs.digest.with_number.Goals as goal

pub returns-clause-value : goal.returns-clause-value
unfolding digest_with
returns-clause-value c = simp (c.low_half.ensures, c.low_half-2.ensures, c.low_half-3.ensures, c.low_half-4.ensures, c.high_half.ensures, c.high_half-2.ensures, c.high_half-3.ensures, c.high_half-4.ensures, c.product-across.ensures, c.product-back.ensures) refl

pub returns-clause-digests : goal.returns-clause-digests
returns-clause-digests c = λ other lt same. digest-injective other c.args.digest c.args.number lt c.ranges.digest.fits c.ranges.number.fits (same ∙ returns-clause-value c)

pub returns-clause-numbers : goal.returns-clause-numbers
returns-clause-numbers c = λ other lt same. number-injective c.args.digest other c.args.number lt c.ranges.number.fits (same ∙ returns-clause-value c)
