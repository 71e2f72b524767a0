use Rattle.span_enum.proofs.Base.{AreQuietFinals}
use Rattle.span_enum.proofs.ends.quiet_finals.Given as goal

abbrev pub invariant-loop-q : goal.invariant-loop-q
invariant-loop-q g l = AreQuietFinals l.dfa l.set
