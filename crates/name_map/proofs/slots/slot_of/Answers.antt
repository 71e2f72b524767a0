use Rattle.std.proofs.Common.{◌≡◌, ◌<◌, length, get_or, subst, sym, ◌∙◌, arith}
use Rattle.name_map.proofs.SlotLaws.{full-slot, slot-there, one-more, none-more}
use Rattle.name_map.proofs.slots.slot_of.Goals.{then-is_some+else-left-eq0, else-is_some}
use Rattle.name_map.proofs.slots.slot_of.Goals as goal

pub returns-then-slots-eq0 : goal.returns-then-slots-eq0
returns-then-slots-eq0 g c = full-slot c.args.slots.now.items.items c.args.index (omega (arith, c.requires.count, c.if-slots-eq0.true)) (omega (arith, c.requires.within, c.requires.count))

pub returns-then-left-eq0 : goal.returns-then-left-eq0
returns-then-left-eq0 g c =
    let os = c.args.slots.now.items.items in
    let k = c.loop-slot.slot in
    let r = c.held-item.result in
    let same = c.deref-held-items.ensures.value in
    slot-there os c.args.index k c.loop-slot.left r c.loop-slot.invariant c.if-left-eq0.true (subst (λ row. k < length row) same c.loop-slot-test.true) (subst (λ row. r ≡ get_or row k r) same c.held-item.is) (sym c.is_some.ensures ∙ c.if-is_some.true)

pub loop-slot-preserved : goal.loop-slot-preserved
loop-slot-preserved g c =
    let os = c.args.slots.now.items.items in
    let k = c.loop-slot.slot in
    let r = c.held-item.result in
    let same = c.deref-held-items.ensures.value in
    let low = subst (λ row. k < length row) same c.loop-slot-test.true in
    let is = subst (λ row. r ≡ get_or row k r) same c.held-item.is in
    elim c.if-is_some.branch [
      | then-is_some+else-left-eq0 w ↦ omega (arith, c.loop-slot.invariant, w.left-is, w.if-left-eq0.false, one-more os k r low is (sym c.is_some.ensures ∙ w.if-is_some.true))
      | else-is_some w ↦ omega (arith, c.loop-slot.invariant, w.left-is, none-more os k r low is (sym c.is_some.ensures ∙ w.if-is_some.false))
    ]
