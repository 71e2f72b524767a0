use Rattle.table_grow.specs.Layers.{AreLayers}
use Rattle.table_grow.proofs.layers.Layers.new.Given as goal

abbrev pub invariant-loop-index : goal.invariant-loop-index
invariant-loop-index l = AreLayers l.store l.from l.index l.layers
