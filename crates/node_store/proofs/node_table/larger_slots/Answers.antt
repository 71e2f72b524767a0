use Rattle.std.proofs.Common.{rules, ◌≡◌, length, get_or, set, subst}
use Rattle.node_store.specs.declared.node_table.Slot.{Slot}
use Rattle.node_store.specs.NodeTable.{IsFree, home_of}
use Rattle.node_store.proofs.NodeTableLemmas.{AreMovedTo, moved-empty, moved-step, moved-all}
use Rattle.node_store.proofs.node_table.larger_slots.Goals as goal
use Rattle.node_store.proofs.node_table.larger_slots.Goals.{then-slot-ne0+in_ok-free, else-slot-ne0}

pub loop-slot-preserved : goal.loop-slot-preserved
loop-slot-preserved c =
    let slot : Slot = get_or c.args.old.now c.loop-slot.slot-index (record { hash = 0; link = 0 }) in
    elim c.if-slot-ne0.branch [
      | then-slot-ne0+in_ok-free w ↦
          let free : IsFree c.loop-slot.new.items (home_of (length c.loop-slot.new.items) slot.hash) w.in_ok-free.free = search rules in
          let items : c.if-slot-ne0.new.items ≡ set c.loop-slot.new.items w.in_ok-free.free slot = search rules in
          rw items (moved-step c.args.old.now c.loop-slot.new.items c.loop-slot.slot-index w.in_ok-free.free c.loop-slot.invariant w.if-slot-ne0.true free)
      | else-slot-ne0 w ↦
          let items : c.if-slot-ne0.new.items ≡ c.loop-slot.new.items = search rules in
          rw items (moved-empty c.args.old.now c.loop-slot.new.items c.loop-slot.slot-index c.loop-slot.invariant w.if-slot-ne0.false)
    ]

pub returns : goal.returns
returns c =
    let end : c.loop-slot.slot-index ≡ length c.args.old.now = search rules in
    moved-all c.args.old.now c.loop-slot.new.items (subst (AreMovedTo c.args.old.now c.loop-slot.new.items) end c.loop-slot.invariant)
