use Rattle.std.proofs.Common.{◌-◌}
use Rattle.std.specs.Vec.{vec_len}
use Rattle.pair_memo.proofs.EntryLemmas.{entries-new}
use Rattle.pair_memo.proofs.slots.empty_slots.Goals as goal

pub returns : goal.returns
returns c = entries-new c.new-slots.result.items c.resize.new.self.items c.args.count (c.args.count - vec_len c.new-slots.result) c.new-slots.ensures.items c.in_ok-resize.ensures.items
