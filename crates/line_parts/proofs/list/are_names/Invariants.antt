use Rattle.std.proofs.Common.{length, ◌↔◌}
use Rattle.line_parts.specs.NameList.{AreListed}
use Rattle.line_parts.proofs.list.are_names.Given as goal

abbrev pub invariant-loop-name : goal.invariant-loop-name
invariant-loop-name l = AreListed l.text ↔ AreListed l.rest

abbrev pub decreases-loop-name : goal.decreases-loop-name
decreases-loop-name l = length l.rest
