use Rattle.std.proofs.Common.{rules, ◌≡◌, ◌+◌, ◌^◌, ◌<◌, true, false, length, Ok, sym, ◌∙◌, arith, nat_le}
use Rattle.std.proofs.lemmas.List.{length-map}
use Rattle.slp_model.specs.declared.NodeId.{NodeId}
use Rattle.slp_model.specs.Nodes.{tree}
use Rattle.slp_rebalance.specs.Entries.{entry_trees}
use Rattle.slp_image.specs.Image.{at, text_pair}
use Rattle.slp_image.specs.Reads.{AreTexts}
use Rattle.slp_image.proofs.StepLemmas.{passed}
use Rattle.slp_image.proofs.TextLemmas.{length-texts, join-fails, join-is, join-long, pair-short, join-read, joined_of}
use Rattle.slp_image.proofs.records.join_entry.Goals as goal

pub returns-in_err-left-clause-read : goal.returns-in_err-left-clause-read
returns-in_err-left-clause-read g c ts h = passed AreTexts (λ rest. rest.now) ts _ _ c.from_residual.result _ c.from_residual.ensures.1 (join-fails ts c.count-own.result c.args.bytes.now c.in_err-left.field-0.0 (length-texts ts c.args.store.now c.args.roots.now h ∙ sym c.count-own.ensures) c.in_err-left.ensures.read)

pub returns-then-not-are_short-clause-read : goal.returns-then-not-are_short-clause-read
returns-then-not-are_short-clause-read g c =
    λ ts h. let lt : c.in_ok-left.left < length (entry_trees c.args.store.now c.args.roots.now) = omega (arith, length-map c.args.roots.now (λ (id : NodeId). tree c.args.store.now id.index), c.in_ok-left.ensures.left, c.count-own.ensures) in let rt : c.in_ok-left.right < length (entry_trees c.args.store.now c.args.roots.now) = omega (arith, length-map c.args.roots.now (λ (id : NodeId). tree c.args.store.now id.index), c.in_ok-left.ensures.right, c.count-own.ensures) in let k : nat_le (length (at ts c.in_ok-left.left) + length (at ts c.in_ok-left.right)) (2 ^ 48) ≡ false = pair-short (entry_trees c.args.store.now c.args.roots.now) ts c.in_ok-left.left c.in_ok-left.right false h lt rt (search (rules, c.are_short.ensures)) in join-long ts c.count-own.result c.in_ok-left.left c.in_ok-left.right c.args.bytes.now c.in_ok-left.rest.now (length-texts ts c.args.store.now c.args.roots.now h ∙ sym c.count-own.ensures) c.in_ok-left.ensures.read k

pub returns-in_err-pair-clause-cost : goal.returns-in_err-pair-clause-cost
returns-in_err-pair-clause-cost g c =
    λ ts h. let lt : c.in_ok-left.left < length (entry_trees c.args.store.now c.args.roots.now) = omega (arith, length-map c.args.roots.now (λ (id : NodeId). tree c.args.store.now id.index), c.in_ok-left.ensures.left, c.count-own.ensures) in let rt : c.in_ok-left.right < length (entry_trees c.args.store.now c.args.roots.now) = omega (arith, length-map c.args.roots.now (λ (id : NodeId). tree c.args.store.now id.index), c.in_ok-left.ensures.right, c.count-own.ensures) in let k : nat_le (length (at ts c.in_ok-left.left) + length (at ts c.in_ok-left.right)) (2 ^ 48) ≡ true = pair-short (entry_trees c.args.store.now c.args.roots.now) ts c.in_ok-left.left c.in_ok-left.right true h lt rt (search (rules, c.are_short.ensures)) in let w : text_pair ts c.args.bytes.now ≡ Ok (joined_of ts c.in_ok-left.left c.in_ok-left.right, c.in_ok-left.rest.now) = join-is ts c.count-own.result c.in_ok-left.left c.in_ok-left.right c.args.bytes.now c.in_ok-left.rest.now (length-texts ts c.args.store.now c.args.roots.now h ∙ sym c.count-own.ensures) c.in_ok-left.ensures.read k in rw w c.pair.ensures.cost

pub returns-clause-cost : goal.returns-clause-cost
returns-clause-cost g c =
    λ ts h. let lt : c.in_ok-left.left < length (entry_trees c.args.store.now c.args.roots.now) = omega (arith, length-map c.args.roots.now (λ (id : NodeId). tree c.args.store.now id.index), c.in_ok-left.ensures.left, c.count-own.ensures) in let rt : c.in_ok-left.right < length (entry_trees c.args.store.now c.args.roots.now) = omega (arith, length-map c.args.roots.now (λ (id : NodeId). tree c.args.store.now id.index), c.in_ok-left.ensures.right, c.count-own.ensures) in let k : nat_le (length (at ts c.in_ok-left.left) + length (at ts c.in_ok-left.right)) (2 ^ 48) ≡ true = pair-short (entry_trees c.args.store.now c.args.roots.now) ts c.in_ok-left.left c.in_ok-left.right true h lt rt (search (rules, c.are_short.ensures)) in let w : text_pair ts c.args.bytes.now ≡ Ok (joined_of ts c.in_ok-left.left c.in_ok-left.right, c.in_ok-left.rest.now) = join-is ts c.count-own.result c.in_ok-left.left c.in_ok-left.right c.args.bytes.now c.in_ok-left.rest.now (length-texts ts c.args.store.now c.args.roots.now h ∙ sym c.count-own.ensures) c.in_ok-left.ensures.read k in rw w c.pair.ensures.cost

pub returns-clause-read : goal.returns-clause-read
returns-clause-read g c =
    λ ts h. let lt : c.in_ok-left.left < length (entry_trees c.args.store.now c.args.roots.now) = omega (arith, length-map c.args.roots.now (λ (id : NodeId). tree c.args.store.now id.index), c.in_ok-left.ensures.left, c.count-own.ensures) in let rt : c.in_ok-left.right < length (entry_trees c.args.store.now c.args.roots.now) = omega (arith, length-map c.args.roots.now (λ (id : NodeId). tree c.args.store.now id.index), c.in_ok-left.ensures.right, c.count-own.ensures) in let k : nat_le (length (at ts c.in_ok-left.left) + length (at ts c.in_ok-left.right)) (2 ^ 48) ≡ true = pair-short (entry_trees c.args.store.now c.args.roots.now) ts c.in_ok-left.left c.in_ok-left.right true h lt rt (search (rules, c.are_short.ensures)) in let w : text_pair ts c.args.bytes.now ≡ Ok (joined_of ts c.in_ok-left.left c.in_ok-left.right, c.in_ok-left.rest.now) = join-is ts c.count-own.result c.in_ok-left.left c.in_ok-left.right c.args.bytes.now c.in_ok-left.rest.now (length-texts ts c.args.store.now c.args.roots.now h ∙ sym c.count-own.ensures) c.in_ok-left.ensures.read k in join-read (entry_trees c.args.store.now c.args.roots.now) (entry_trees c.pair.new.store c.pair.new.self) ts c.in_ok-left.left c.in_ok-left.right c.in_ok-left.rest.now (text_pair ts c.args.bytes.now) h lt rt w _ c.in_ok-pair.ensures.entries c.in_ok-pair.ensures.joined.joined
