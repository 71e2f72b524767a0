use Rattle.std.proofs.Common.{◌≡◌, ◌++◌, ◌∷◌, take}
use Rattle.std.specs.List.{flat_map}
use Rattle.report_text.specs.Reply.{shown_byte}
use Rattle.report_text.proofs.pieces.push_quoted.Given as goal

abbrev pub invariant-loop-b : goal.invariant-loop-b
invariant-loop-b l = l.into.items ≡ l.fn.into.items ++ 34 ∷ flat_map shown_byte (take l.b-index l.bytes)
