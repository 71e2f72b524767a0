use Rattle.std.proofs.Common.{◌+◌, ◌≤◌, length, get_or, ap, sym, subst, ◌∙◌, arith}
use Rattle.span_types.specs.Fibonacci.{height_limit, looks_limit}
use Rattle.slp_model.specs.Tree.{height, text}
use Rattle.slp_model.specs.Nodes.{tree}
use Rattle.slp_model.proofs.TreeLemmas.{length-text}
use Rattle.count_tables.specs.Rank.{IsRank}
use Rattle.count_tables.proofs.RankRoot.{root-looks, root-rank, root-state}
use Rattle.count_tables.proofs.rank.rank_of.Goals as goal

pub look-here-requires-clause-low : goal.look-here-requires-clause-low
look-here-requires-clause-low g c =
    let nodes = c.args.input.now.counts.store.now in
    omega (arith, length-text (tree nodes c.args.id.index), c.count.ensures.sound.short c.args.id.index (omega (arith, c.requires.live, c.requires.input.covered)))

pub to_end-requires : goal.to_end-requires
to_end-requires g c =
    root-state c.args.input.now c.requires.input c.look-here.result c.look-here.ensures.part c.look-here.ensures.at c.over_part-earlier.result c.deref.result.now c.look-here.new.looks c.over_part-earlier.new.looks c.over_part-earlier.ensures c.count-2.ensures.tuple
    c.requires.tuple

pub returns-clause-rank : goal.returns-clause-rank
returns-clause-rank g c =
    let input = c.args.input.now in
    subst (λ x. IsRank input.counts.dfa.now (text (tree input.counts.store.now x.index)) input.tuple.now c.to_end.result) c.look-here.ensures.id
    (root-rank input c.requires.input c.look-here.result c.look-here.ensures.part c.look-here.ensures.at c.over_part-earlier.result c.deref.result.now c.look-here.new.looks c.over_part-earlier.new.looks c.over_part-earlier.ensures c.count-2.ensures.tuple
    c.requires.tuple c.to_end.result (λ q lt. ap (λ xs. get_or xs q 0) c.deref.ensures.value ∙ c.in_ok-after.ensures.ways q lt) c.to_end.ensures)

pub returns-clause-cost : goal.returns-clause-cost
returns-clause-cost g c =
    let input = c.args.input.now in
    let nodes = input.counts.store.now in
    let id = c.args.id in
    let high : height (tree nodes id.index) ≤ height_limit (length (text (tree nodes id.index))) = omega (arith, c.height.ensures.height, rw (← length-text (tree nodes id.index)) at c.height.ensures.limit) in
    subst (λ x. c.over_part-earlier.new.looks ≤ c.args.looks.now + looks_limit input.counts.dfa.now.variables (length (text (tree nodes x.index)))) c.look-here.ensures.id
    (root-looks input c.requires.input c.look-here.result c.look-here.ensures.part c.look-here.ensures.at c.over_part-earlier.result c.deref.result.now c.look-here.new.looks c.over_part-earlier.new.looks c.over_part-earlier.ensures c.count-2.ensures.tuple
    c.requires.tuple c.args.looks.now c.look-here.ensures.step
    (subst (λ x. height (tree nodes x.index) ≤ height_limit (length (text (tree nodes x.index)))) (sym c.look-here.ensures.id) high))
