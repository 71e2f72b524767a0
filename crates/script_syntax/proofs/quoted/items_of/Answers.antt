use Rattle.script_syntax.proofs.Items.{none_left, read_all, read_one, read_stuck, some_left}
use Rattle.script_syntax.proofs.quoted.items_of.Goals as goal

pub returns-in_default : goal.returns-in_default
returns-in_default c = read_stuck c.args.text.now c.loop-rest.bytes.items c.loop-rest.rest.now c.loop-rest.invariant (some_left c.loop-rest.rest.now c.loop-rest-test.ensures) c.in_default.ensures

pub loop-rest-preserved : goal.loop-rest-preserved
loop-rest-preserved c =
    rw c.in_ok-push.ensures.items (read_one c.args.text.now c.loop-rest.bytes.items c.loop-rest.rest.now c.in-Some.byte c.in-Some.more.now c.loop-rest.invariant (some_left c.loop-rest.rest.now c.loop-rest-test.ensures) c.in-Some.ensures)

pub returns : goal.returns
returns c = read_all c.args.text.now c.loop-rest.bytes.items c.loop-rest.rest.now c.loop-rest.invariant (none_left c.loop-rest.rest.now c.loop-rest-test.ensures)
