use Rattle.std.proofs.Common.{refl}
use Rattle.marker_nfa.proofs.Making.{part_of_opt}
use Rattle.marker_nfa.proofs.parts.opt_part.Goals as goal

pub returns : goal.returns
returns c a n ip = part_of_opt a n c.args.part.now _ c.in_ok-push_new.ensures refl refl ip
