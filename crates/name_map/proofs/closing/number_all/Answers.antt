use Rattle.std.proofs.Common.{arith, ◌∙◌}
use Rattle.name_map.specs.Kept.{indexed}
use Rattle.name_map.proofs.SlotLaws.{number-step}
use Rattle.name_map.proofs.closing.number_all.Goals as goal

pub loop-slot-preserved : goal.loop-slot-preserved
loop-slot-preserved g c =
    let inv = c.loop-slot.invariant in
    let old = c.loop-slot.slots in
    let new = c.number.new.slots in
    record {
      items = c.number.ensures.items ∙ inv.items;
      empty = c.number.ensures.empty ∙ inv.empty;
      numbered = number-step (indexed old.index.entries) (indexed new.index.entries) c.args.slots.now.items.items old.items.items new.items.items c.loop-slot.slot inv.items c.number.ensures.items inv.numbered c.requires.full c.requires.distinct (omega (arith, c.len-slot-end.ensures, c.loop-slot-test.true)) c.number.ensures.numbered;
    }
