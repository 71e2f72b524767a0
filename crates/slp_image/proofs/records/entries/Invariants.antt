use Rattle.std.proofs.Common.{◌-◌, []}
use Rattle.slp_image.specs.Image.{records_onto}
use Rattle.slp_image.specs.Reads.{IsReading, Kept, Show, record_at}
use Rattle.slp_image.proofs.records.entries.Given as goal

abbrev pub invariant-loop : goal.invariant-loop
invariant-loop g l = IsReading (Kept l.format) (Show l.format) (record_at l.format) l.initial.store l.store l.roots l.initial.pairs l.pairs (l.count - l.counter) l.rest (records_onto (record_at l.format) l.count [] 0 l.bytes)
