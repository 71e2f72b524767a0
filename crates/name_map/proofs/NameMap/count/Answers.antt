use Rattle.std.proofs.Common.{subst}
use Rattle.name_map.specs.Named.{AreDistinctNames}
use Rattle.name_map.specs.Kept.{indexed}
use Rattle.name_map.proofs.SlotLaws.{names-distinct}
use Rattle.name_map.proofs.NameMap.count.Goals as goal

pub returns-clause-distinct : goal.returns-clause-distinct
returns-clause-distinct g c =
    let s = c.self.inside.slots in
    subst AreDistinctNames c.self.view_is (names-distinct (indexed s.index.entries) s.items.items s.empty c.self.invariant)
