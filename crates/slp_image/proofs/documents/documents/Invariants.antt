use Rattle.std.proofs.Common.{◌-◌, [], length}
use Rattle.slp_image.specs.Image.{documents_onto}
use Rattle.slp_image.specs.Reads.{IsFiling}
use Rattle.slp_image.proofs.documents.documents.Given as goal

abbrev pub invariant-loop : goal.invariant-loop
invariant-loop l = IsFiling l.roots l.docs (l.count - l.counter) l.rest (documents_onto (length l.roots) l.count [] l.initial.rest)
