use Rattle.std.proofs.Common.{rules, ◌≡◌, ◌+◌, ◌^◌, ◌≤◌, true, false, get_or, Ok, sym, ◌∙◌, nat_le}
use Rattle.slp_model.specs.Tree.{Leaf, leaves, height}
use Rattle.slp_model.specs.Join.{is_near}
use Rattle.slp_rebalance.specs.Entries.{entry_trees}
use Rattle.slp_image.specs.Image.{node_pair}
use Rattle.slp_image.specs.Reads.{HaveThese}
use Rattle.slp_image.proofs.StepLemmas.{passed}
use Rattle.slp_image.proofs.NodeLemmas.{length-records, pair-fails, pair-is, far, long, fine, near-heights, pair-read, pair_of}
use Rattle.slp_image.proofs.records.pair_entry.Goals as goal

pub returns-in_err-left-clause-read : goal.returns-in_err-left-clause-read
returns-in_err-left-clause-read g c ns h = passed HaveThese (λ rest. rest.now) ns _ _ c.from_residual.result _ c.from_residual.ensures.1 (pair-fails ns c.count-own.result c.args.bytes.now c.in_err-left.field-0.0 (length-records ns c.args.store.now c.args.roots.now h ∙ sym c.count-own.ensures) c.in_err-left.ensures.read)

pub returns-then-not-are_near-clause-read : goal.returns-then-not-are_near-clause-read
returns-then-not-are_near-clause-read g c =
    λ ns h. let b : is_near (height (get_or (entry_trees c.args.store.now c.args.roots.now) c.in_ok-left.left (Leaf 0))) (height (get_or (entry_trees c.args.store.now c.args.roots.now) c.in_ok-left.right (Leaf 0))) ≡ false = search (rules, sym c.are_near.ensures) in pair-is ns c.count-own.result c.in_ok-left.left c.in_ok-left.right c.args.bytes.now c.in_ok-left.rest.now (length-records ns c.args.store.now c.args.roots.now h ∙ sym c.count-own.ensures) c.in_ok-left.ensures.read ∙ far ns (entry_trees c.args.store.now c.args.roots.now) c.in_ok-left.left c.in_ok-left.right c.in_ok-left.rest.now h b

pub returns-then-not-are_short-clause-read : goal.returns-then-not-are_short-clause-read
returns-then-not-are_short-clause-read g c =
    λ ns h. let b : is_near (height (get_or (entry_trees c.args.store.now c.args.roots.now) c.in_ok-left.left (Leaf 0))) (height (get_or (entry_trees c.args.store.now c.args.roots.now) c.in_ok-left.right (Leaf 0))) ≡ true = search (rules, sym c.are_near.ensures) in let k : nat_le (leaves (get_or (entry_trees c.args.store.now c.args.roots.now) c.in_ok-left.left (Leaf 0)) + leaves (get_or (entry_trees c.args.store.now c.args.roots.now) c.in_ok-left.right (Leaf 0))) (2 ^ 48) ≡ false = search (rules, sym c.are_short.ensures) in pair-is ns c.count-own.result c.in_ok-left.left c.in_ok-left.right c.args.bytes.now c.in_ok-left.rest.now (length-records ns c.args.store.now c.args.roots.now h ∙ sym c.count-own.ensures) c.in_ok-left.ensures.read ∙ long ns (entry_trees c.args.store.now c.args.roots.now) c.in_ok-left.left c.in_ok-left.right c.in_ok-left.rest.now h b k

pub returns-in_err-pair-clause-cost : goal.returns-in_err-pair-clause-cost
returns-in_err-pair-clause-cost g c =
    λ ns h. let b : is_near (height (get_or (entry_trees c.args.store.now c.args.roots.now) c.in_ok-left.left (Leaf 0))) (height (get_or (entry_trees c.args.store.now c.args.roots.now) c.in_ok-left.right (Leaf 0))) ≡ true = search (rules, sym c.are_near.ensures) in let k : nat_le (leaves (get_or (entry_trees c.args.store.now c.args.roots.now) c.in_ok-left.left (Leaf 0)) + leaves (get_or (entry_trees c.args.store.now c.args.roots.now) c.in_ok-left.right (Leaf 0))) (2 ^ 48) ≡ true = search (rules, sym c.are_short.ensures) in let w : node_pair ns c.args.bytes.now ≡ Ok (pair_of c.in_ok-left.left c.in_ok-left.right, c.in_ok-left.rest.now) = pair-is ns c.count-own.result c.in_ok-left.left c.in_ok-left.right c.args.bytes.now c.in_ok-left.rest.now (length-records ns c.args.store.now c.args.roots.now h ∙ sym c.count-own.ensures) c.in_ok-left.ensures.read ∙ fine ns (entry_trees c.args.store.now c.args.roots.now) c.in_ok-left.left c.in_ok-left.right c.in_ok-left.rest.now h b k in let hs = near-heights (height (get_or (entry_trees c.args.store.now c.args.roots.now) c.in_ok-left.left (Leaf 0))) (height (get_or (entry_trees c.args.store.now c.args.roots.now) c.in_ok-left.right (Leaf 0))) b in let o : c.pair.new.pairs ≤ c.args.pairs.now + 1 = c.pair.ensures.near hs in rw w o

pub returns-clause-cost : goal.returns-clause-cost
returns-clause-cost g c =
    λ ns h. let b : is_near (height (get_or (entry_trees c.args.store.now c.args.roots.now) c.in_ok-left.left (Leaf 0))) (height (get_or (entry_trees c.args.store.now c.args.roots.now) c.in_ok-left.right (Leaf 0))) ≡ true = search (rules, sym c.are_near.ensures) in let k : nat_le (leaves (get_or (entry_trees c.args.store.now c.args.roots.now) c.in_ok-left.left (Leaf 0)) + leaves (get_or (entry_trees c.args.store.now c.args.roots.now) c.in_ok-left.right (Leaf 0))) (2 ^ 48) ≡ true = search (rules, sym c.are_short.ensures) in let w : node_pair ns c.args.bytes.now ≡ Ok (pair_of c.in_ok-left.left c.in_ok-left.right, c.in_ok-left.rest.now) = pair-is ns c.count-own.result c.in_ok-left.left c.in_ok-left.right c.args.bytes.now c.in_ok-left.rest.now (length-records ns c.args.store.now c.args.roots.now h ∙ sym c.count-own.ensures) c.in_ok-left.ensures.read ∙ fine ns (entry_trees c.args.store.now c.args.roots.now) c.in_ok-left.left c.in_ok-left.right c.in_ok-left.rest.now h b k in let hs = near-heights (height (get_or (entry_trees c.args.store.now c.args.roots.now) c.in_ok-left.left (Leaf 0))) (height (get_or (entry_trees c.args.store.now c.args.roots.now) c.in_ok-left.right (Leaf 0))) b in let o : c.pair.new.pairs ≤ c.args.pairs.now + 1 = c.pair.ensures.near hs in rw w o

pub returns-clause-read : goal.returns-clause-read
returns-clause-read g c =
    λ ns h. let b : is_near (height (get_or (entry_trees c.args.store.now c.args.roots.now) c.in_ok-left.left (Leaf 0))) (height (get_or (entry_trees c.args.store.now c.args.roots.now) c.in_ok-left.right (Leaf 0))) ≡ true = search (rules, sym c.are_near.ensures) in let k : nat_le (leaves (get_or (entry_trees c.args.store.now c.args.roots.now) c.in_ok-left.left (Leaf 0)) + leaves (get_or (entry_trees c.args.store.now c.args.roots.now) c.in_ok-left.right (Leaf 0))) (2 ^ 48) ≡ true = search (rules, sym c.are_short.ensures) in let w : node_pair ns c.args.bytes.now ≡ Ok (pair_of c.in_ok-left.left c.in_ok-left.right, c.in_ok-left.rest.now) = pair-is ns c.count-own.result c.in_ok-left.left c.in_ok-left.right c.args.bytes.now c.in_ok-left.rest.now (length-records ns c.args.store.now c.args.roots.now h ∙ sym c.count-own.ensures) c.in_ok-left.ensures.read ∙ fine ns (entry_trees c.args.store.now c.args.roots.now) c.in_ok-left.left c.in_ok-left.right c.in_ok-left.rest.now h b k in pair-read ns (entry_trees c.args.store.now c.args.roots.now) (entry_trees c.pair.new.store c.pair.new.self) c.in_ok-left.left c.in_ok-left.right c.in_ok-left.rest.now (node_pair ns c.args.bytes.now) h b w c.in_ok-pair.ensures.entries
