use Rattle.std.proofs.Common.{◌≡◌, [], map, replicate}
use Rattle.table_grow.proofs.layers.Layers.empty.Given as goal

abbrev pub invariant-loop-height : goal.invariant-loop-height
invariant-loop-height l = map (λ v. v.items) l.lists.items ≡ replicate l.height []
