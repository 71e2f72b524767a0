use Rattle.std.proofs.Common.{sym}
use Rattle.name_map.specs.Kept.{indexed, live}
use Rattle.name_map.proofs.NamedLaws.{taken_out-missing}
use Rattle.name_map.proofs.SlotLaws.{missing}
use Rattle.name_map.proofs.slots.take_out.Goals as goal

pub returns-in_default-clause-rest : goal.returns-in_default-clause-rest
returns-in_default-clause-rest g c =
    let s = c.args.slots.now in
    sym (taken_out-missing (live s.items.items) c.args.name.now (missing (indexed s.index.entries) s.items.items s.empty c.args.name.now c.requires (sym c.in_default.ensures)))
