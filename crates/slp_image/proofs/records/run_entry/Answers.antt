use Rattle.std.proofs.Common.{rules, ◌≡◌, ◌+◌, ◌*◌, ◌^◌, ◌<◌, ◌≤◌, true, false, length, Ok, sym, ◌∙◌, arith, nat_le}
use Rattle.std.proofs.lemmas.List.{length-map}
use Rattle.slp_model.specs.declared.NodeId.{NodeId}
use Rattle.slp_model.specs.Nodes.{tree}
use Rattle.slp_rebalance.specs.Entries.{entry_trees}
use Rattle.slp_rebalance.specs.Copies.{run_cost}
use Rattle.slp_image.specs.Image.{at, text_run}
use Rattle.slp_image.specs.Reads.{AreTexts}
use Rattle.slp_image.proofs.StepLemmas.{passed}
use Rattle.slp_image.proofs.TextLemmas.{length-texts, child-fails, times-fails, none-fails, run-is, run-long, run-short, run-read, run_of}
use Rattle.slp_image.proofs.records.run_entry.Goals as goal

pub returns-in_err-index-clause-read : goal.returns-in_err-index-clause-read
returns-in_err-index-clause-read g c ts h = passed AreTexts (λ rest. rest.now) ts _ _ c.from_residual.result _ c.from_residual.ensures.1 (child-fails ts c.count-own.result c.args.bytes.now c.in_err-index.field-0.0 (length-texts ts c.args.store.now c.args.roots.now h ∙ sym c.count-own.ensures) c.in_err-index.ensures.read)

pub returns-in_err-times-clause-read : goal.returns-in_err-times-clause-read
returns-in_err-times-clause-read g c ts h = passed AreTexts (λ rest. rest.now) ts _ _ c.from_residual-in_err-times.result _ c.from_residual-in_err-times.ensures.1 (times-fails ts c.count-own.result c.in_ok-index.index c.args.bytes.now c.in_ok-index.after.now c.in_err-times.field-0.0 (length-texts ts c.args.store.now c.args.roots.now h ∙ sym c.count-own.ensures) c.in_ok-index.ensures.read c.in_err-times.ensures.read)

pub returns-then-times-eq0-clause-read : goal.returns-then-times-eq0-clause-read
returns-then-times-eq0-clause-read g c =
    λ ts h. none-fails ts c.count-own.result c.in_ok-index.index c.in_ok-times.times c.args.bytes.now c.in_ok-index.after.now c.in_ok-times.rest.now (length-texts ts c.args.store.now c.args.roots.now h ∙ sym c.count-own.ensures) c.in_ok-index.ensures.read c.in_ok-times.ensures.read (omega arith)

pub returns-then-not-is_short_run-clause-read : goal.returns-then-not-is_short_run-clause-read
returns-then-not-is_short_run-clause-read g c =
    λ ts h. let lt : c.in_ok-index.index < length (entry_trees c.args.store.now c.args.roots.now) = omega (arith, length-map c.args.roots.now (λ (id : NodeId). tree c.args.store.now id.index), c.in_ok-index.ensures.below, c.count-own.ensures) in let k : nat_le (c.in_ok-times.times * length (at ts c.in_ok-index.index)) (2 ^ 48) ≡ false = run-short (entry_trees c.args.store.now c.args.roots.now) ts c.in_ok-index.index c.in_ok-times.times false h lt (search (rules, c.is_short_run.ensures)) in run-long ts c.count-own.result c.in_ok-index.index c.in_ok-times.times c.args.bytes.now c.in_ok-index.after.now c.in_ok-times.rest.now (length-texts ts c.args.store.now c.args.roots.now h ∙ sym c.count-own.ensures) c.in_ok-index.ensures.read c.in_ok-times.ensures.read (omega arith) k

pub returns-in_err-repeat-clause-cost : goal.returns-in_err-repeat-clause-cost
returns-in_err-repeat-clause-cost g c =
    λ ts h. let lt : c.in_ok-index.index < length (entry_trees c.args.store.now c.args.roots.now) = omega (arith, length-map c.args.roots.now (λ (id : NodeId). tree c.args.store.now id.index), c.in_ok-index.ensures.below, c.count-own.ensures) in let k : nat_le (c.in_ok-times.times * length (at ts c.in_ok-index.index)) (2 ^ 48) ≡ true = run-short (entry_trees c.args.store.now c.args.roots.now) ts c.in_ok-index.index c.in_ok-times.times true h lt (search (rules, c.is_short_run.ensures)) in let w : text_run ts c.args.bytes.now ≡ Ok (run_of ts c.in_ok-index.index c.in_ok-times.times, c.in_ok-times.rest.now) = run-is ts c.count-own.result c.in_ok-index.index c.in_ok-times.times c.args.bytes.now c.in_ok-index.after.now c.in_ok-times.rest.now (length-texts ts c.args.store.now c.args.roots.now h ∙ sym c.count-own.ensures) c.in_ok-index.ensures.read c.in_ok-times.ensures.read (omega arith) k in let o : c.repeat.new.pairs ≤ c.args.pairs.now + run_cost 64 c.in_ok-times.times = c.repeat.ensures.cost 64 c.in_ok-times.ensures.fits in rw w o

pub returns-clause-cost : goal.returns-clause-cost
returns-clause-cost g c =
    λ ts h. let lt : c.in_ok-index.index < length (entry_trees c.args.store.now c.args.roots.now) = omega (arith, length-map c.args.roots.now (λ (id : NodeId). tree c.args.store.now id.index), c.in_ok-index.ensures.below, c.count-own.ensures) in let k : nat_le (c.in_ok-times.times * length (at ts c.in_ok-index.index)) (2 ^ 48) ≡ true = run-short (entry_trees c.args.store.now c.args.roots.now) ts c.in_ok-index.index c.in_ok-times.times true h lt (search (rules, c.is_short_run.ensures)) in let w : text_run ts c.args.bytes.now ≡ Ok (run_of ts c.in_ok-index.index c.in_ok-times.times, c.in_ok-times.rest.now) = run-is ts c.count-own.result c.in_ok-index.index c.in_ok-times.times c.args.bytes.now c.in_ok-index.after.now c.in_ok-times.rest.now (length-texts ts c.args.store.now c.args.roots.now h ∙ sym c.count-own.ensures) c.in_ok-index.ensures.read c.in_ok-times.ensures.read (omega arith) k in let o : c.repeat.new.pairs ≤ c.args.pairs.now + run_cost 64 c.in_ok-times.times = c.repeat.ensures.cost 64 c.in_ok-times.ensures.fits in rw w o

pub returns-clause-read : goal.returns-clause-read
returns-clause-read g c =
    λ ts h. let lt : c.in_ok-index.index < length (entry_trees c.args.store.now c.args.roots.now) = omega (arith, length-map c.args.roots.now (λ (id : NodeId). tree c.args.store.now id.index), c.in_ok-index.ensures.below, c.count-own.ensures) in let k : nat_le (c.in_ok-times.times * length (at ts c.in_ok-index.index)) (2 ^ 48) ≡ true = run-short (entry_trees c.args.store.now c.args.roots.now) ts c.in_ok-index.index c.in_ok-times.times true h lt (search (rules, c.is_short_run.ensures)) in let w : text_run ts c.args.bytes.now ≡ Ok (run_of ts c.in_ok-index.index c.in_ok-times.times, c.in_ok-times.rest.now) = run-is ts c.count-own.result c.in_ok-index.index c.in_ok-times.times c.args.bytes.now c.in_ok-index.after.now c.in_ok-times.rest.now (length-texts ts c.args.store.now c.args.roots.now h ∙ sym c.count-own.ensures) c.in_ok-index.ensures.read c.in_ok-times.ensures.read (omega arith) k in run-read (entry_trees c.args.store.now c.args.roots.now) (entry_trees c.repeat.new.store c.repeat.new.self) ts c.in_ok-index.index c.in_ok-times.times c.in_ok-times.rest.now (text_run ts c.args.bytes.now) h lt w c.in_ok-repeat.ensures.entries
