use Rattle.std.proofs.Common.{arith, ◌≡◌, ◌+◌, ◌*◌, ◌^◌, ◌%◌, refl}
use Rattle.slp_model.specs.declared.Node.TheVariants.{Pair}
use Rattle.slp_model.specs.Nodes.{tree, pair_count}
use Rattle.slp_model.proofs.NodesLemmas.{Grows-none}
use Rattle.node_store.proofs.StoredLemmas.{kept-grows, block-next, shifted}
use Rattle.node_store.proofs.Store.pair_blocks.Goals as goal

pub returns-in-Some-clause-grows : goal.returns-in-Some-clause-grows
returns-in-Some-clause-grows g c = rw c.found_next.ensures.same (Grows-none c.args.self.now c.args.pairs.now c.tick.new.self (omega (arith, c.tick.ensures)))

pub returns-in-Some-clause-tree : goal.returns-in-Some-clause-tree
unfolding tree
returns-in-Some-clause-tree g c = rw c.found_next.ensures.same c.in-Some.ensures.tree

pub insert-requires : goal.insert-requires
insert-requires g c =
    let size : (1 * 2 ^ (c.args.height + 1)) % 2 ^ 64 ≡ 2 ^ (c.args.height + 1) = shifted c.args.height c.requires.short in
    rw c.found_next.ensures.same (block-next _ c.args.height c.args.left c.args.right _ c.found_next.ensures.sound c.requires.left c.requires.right c.requires.short size refl)

pub returns-clause-grows : goal.returns-clause-grows
unfolding pair_count
returns-clause-grows g c =
    let same : c.found_next.new.self ≡ c.args.self.now = c.found_next.ensures.same in
    kept-grows c.args.self.now c.insert.new.self (Pair c.args.left c.args.right) c.args.pairs.now c.tick.new.self (rw same at c.insert.ensures.kept) (omega (arith, c.tick.ensures))

pub returns-clause-tree : goal.returns-clause-tree
unfolding tree
returns-clause-tree g c = rw c.found_next.ensures.same at c.insert.ensures.tree
