use Rattle.std.proofs.Common.{arith, ◌≡◌}
use Rattle.slp_model.specs.declared.Node.TheVariants.{Pair}
use Rattle.slp_model.specs.Nodes.{tree, pair_count}
use Rattle.slp_model.proofs.NodesLemmas.{Grows-none}
use Rattle.node_store.proofs.StoredLemmas.{kept-grows}
use Rattle.node_store.proofs.Store.pair.Goals as goal

pub returns-in-None-clause-grows : goal.returns-in-None-clause-grows
unfolding pair_count
returns-in-None-clause-grows g c =
    let same : c.found_next.new.self ≡ c.args.self.now = c.found_next.ensures.same in
    kept-grows c.args.self.now c.insert_pair.new.self (Pair c.args.left c.args.right) c.args.pairs.now c.tick.new.self (rw same at c.insert_pair.ensures.kept) (omega (arith, c.tick.ensures))

pub returns-in-Some-clause-grows : goal.returns-in-Some-clause-grows
returns-in-Some-clause-grows g c = rw c.found_next.ensures.same (Grows-none c.args.self.now c.args.pairs.now c.tick.new.self (omega (arith, c.tick.ensures)))

pub returns-in-Some-clause-tree : goal.returns-in-Some-clause-tree
unfolding tree
returns-in-Some-clause-tree g c = rw c.found_next.ensures.same c.in-Some.ensures.tree
