use Rattle.span_run.proofs.Names.{arith, Consumes-trans, length, length-append, length-take, take, ◌++◌, ◌+◌, ◌^◌, ◌≤◌}
use Rattle.span_run.proofs.run_script.read_script.Goals as goal

pub returns-then-is_err-clause-taken : goal.returns-then-is_err-clause-taken
returns-then-is_err-clause-taken g c = (
  c.loop-chunk.bytes.items ++ take c.in-Ok.count c.read.new.into,
  Consumes-trans (g.S.Source.left c.args.script.now) (g.S.Source.left c.loop-chunk.script) (g.S.Source.left c.read.new.self) c.loop-chunk.bytes.items (take c.in-Ok.count c.read.new.into) c.loop-chunk.invariant.so_far c.in-Ok.ensures.bytes.0,
  by_length,
)
  where
    by_length : length (c.loop-chunk.bytes.items ++ take c.in-Ok.count c.read.new.into) ≤ 2 ^ 24 + 1
    by_length = omega (arith, length-append c.loop-chunk.bytes.items (take c.in-Ok.count c.read.new.into), length-take c.in-Ok.count c.read.new.into, length-take c.min-room.result c.loop-chunk.chunk, c.in-Ok.ensures.bound, c.read.auto.into, c.min-room.ensures, c.len-in-loop-chunk.ensures, c.loop-chunk-test.true, c.loop-chunk.invariant.short)
