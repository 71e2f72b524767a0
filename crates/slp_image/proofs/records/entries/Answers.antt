use Rattle.std.proofs.Common.{[], refl}
use Rattle.std.proofs.lemmas.Result.{err_from_is_err_and}
use Rattle.slp_model.specs.Nodes.{trees}
use Rattle.slp_model.proofs.NodesLemmas.{Grows-trans}
use Rattle.slp_image.specs.Image.{records_onto}
use Rattle.slp_image.specs.Reads.{Show, record_at}
use Rattle.slp_image.specs.declared.records.Format.{Format}
use Rattle.slp_image.specs.declared.records.Format.TheVariants.{Nodes, Texts}
use Rattle.slp_image.proofs.StepLemmas.{reads-on, reads-end, reads-cost, reads-init}
use Rattle.slp_image.proofs.records.entries.Goals as goal

none_shown : (f : Format) → Show f [] []
unfolding trees
none_shown Nodes = refl
none_shown Texts = refl

pub loop-init : goal.loop-init
loop-init g c =
    reads-init (record_at c.args.format) (Show c.args.format) c.args.store.now c.args.roots.now c.args.pairs.now c.args.count c.args.bytes.now c.requires (none_shown c.args.format)

pub returns-in_err-after-clause-grows : goal.returns-in_err-after-clause-grows
returns-in_err-after-clause-grows g c =
    Grows-trans _ _ _ _ _ _ c.loop.invariant.grows c.entry.ensures.grows

pub returns-in_err-after-clause-read : goal.returns-in_err-after-clause-read
returns-in_err-after-clause-read g c =
    let p = err_from_is_err_and c.from_residual.result c.from_residual.ensures.1 in rw (p.1, p.2) (reads-end (record_at c.args.format) (Show c.args.format) c.in_err-after.field-0.0 c.args.store.now c.loop.store c.loop.roots c.args.pairs.now c.loop.pairs c.args.count c.loop.counter c.loop.rest.now (records_onto (record_at c.args.format) c.args.count [] 0 c.args.bytes.now) c.loop-test.true c.loop.invariant (c.in_err-after.ensures.read c.loop.invariant.records c.loop.invariant.shown))

pub returns-in_err-after-clause-cost : goal.returns-in_err-after-clause-cost
returns-in_err-after-clause-cost g c =
    reads-cost (record_at c.args.format) (Show c.args.format) c.args.store.now c.loop.store c.loop.roots c.args.pairs.now c.loop.pairs c.entry.new.pairs c.args.count c.loop.counter c.loop.rest.now (records_onto (record_at c.args.format) c.args.count [] 0 c.args.bytes.now) c.loop-test.true c.loop.invariant (c.entry.ensures.cost c.loop.invariant.records c.loop.invariant.shown)

pub loop-preserved : goal.loop-preserved
loop-preserved g c =
    reads-on (record_at c.args.format) (Show c.args.format) c.args.store.now c.loop.store c.entry.new.store c.loop.roots c.entry.new.roots c.args.pairs.now c.loop.pairs c.entry.new.pairs c.args.count c.loop.counter c.loop.rest.now c.in_ok-after.after.now (records_onto (record_at c.args.format) c.args.count [] 0 c.args.bytes.now) c.loop-test.true c.loop.invariant c.entry.ensures.grows c.entry.ensures.live (c.in_ok-after.ensures.read c.loop.invariant.records c.loop.invariant.shown) (c.entry.ensures.cost c.loop.invariant.records c.loop.invariant.shown)
