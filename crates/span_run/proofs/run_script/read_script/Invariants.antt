use Rattle.span_run.proofs.Names.{Consumes, length, ◌+◌, ◌-◌, ◌^◌, ◌≡◌, ◌≤◌}
use Rattle.span_run.proofs.run_script.read_script.Given as goal

abbrev pub invariant-loop-chunk : goal.invariant-loop-chunk
invariant-loop-chunk g l = record {
  so_far : Consumes (g.S.Source.left l.fn.script) (g.S.Source.left l.script) l.bytes.items;
  short : length l.bytes.items ≤ 2 ^ 24 + 1;
  sound : g.S.Source.faults l.script ≡ g.S.Source.faults l.fn.script;
}

abbrev pub decreases-loop-chunk : goal.decreases-loop-chunk
decreases-loop-chunk g l = 2 ^ 24 + 1 - length l.bytes.items
