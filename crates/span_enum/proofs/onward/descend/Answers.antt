use Rattle.span_enum.proofs.Base.{Descends, ◌∙◌}
use Rattle.span_enum.proofs.onward.descend.Goals as goal

pub returns-in-Byte-clause-descends : goal.returns-in-Byte-clause-descends
returns-in-Byte-clause-descends g c =
    let now = c.down.invariant in
    let last : Descends c.args.input.now c.down.descent.here c.down.descent.state c.args.descent.now.base c.args.trail.now.marks.items c.place_mark.new.trail.marks.items c.down.trail.ahead.items c.place_mark.new.trail.ahead.items
    c.down.looks c.down.looks c.args.out.now c.place_mark.new.out c.place_mark.result = rw (now.marks, now.base, now.out) at (c.place_mark.ensures.descends c.down.looks) in
    now.on _ _ _ _ _ _ last

pub down-preserved : goal.down-preserved
down-preserved g c =
    let now = c.down.invariant in
    let put = c.go_down.ensures in
    let on = rw (now.marks, now.base) at put.on in
    record {
      down = put.down now.down;
      some = put.some;
      marks = put.marks ∙ now.marks;
      base = put.base ∙ now.base;
      out = now.out;
      room = put.room ∙ now.room;
      on = λ more last end out out' place d. now.on more last end out out' place (on more last end out out' place d);
    }
