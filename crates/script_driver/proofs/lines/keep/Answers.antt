use Rattle.std.proofs.Common.{◌∙◌, arith}
use Rattle.script_driver.proofs.Kept.{taken}
use Rattle.script_driver.proofs.lines.keep.Goals as goal

pub returns-clause-kept : goal.returns-clause-kept
returns-clause-kept c =
    c.in_ok-extend_from_slice.ensures.items ∙ taken 65537 c.args.kept.now.items c.args.part.now c.min-room.result c.requires (omega (arith, c.min-room.ensures, c.len.ensures))
