use Rattle.std.proofs.Common.{◌≡◌}
use Rattle.text_gen.proofs.Script.{so_far}
use Rattle.text_gen.proofs.demo.Given as goal

abbrev pub invariant-doublings : goal.invariant-doublings
invariant-doublings l = l.script.items ≡ so_far l.counter
