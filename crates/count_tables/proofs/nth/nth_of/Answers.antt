use Rattle.std.proofs.Common.{◌+◌, ◌≤◌, length, get_or, ap, sym, subst, ◌∙◌, arith, Some, None}
use Rattle.span_types.specs.Fibonacci.{height_limit, looks_limit}
use Rattle.slp_model.specs.Tree.{height, text}
use Rattle.slp_model.specs.Nodes.{tree}
use Rattle.slp_model.proofs.TreeLemmas.{length-text}
use Rattle.count_tables.specs.TextIndex.{IsNth}
use Rattle.count_tables.proofs.RootSearch.{root-end, root-looks, root-none, root-nth}
use Rattle.count_tables.proofs.nth.nth_of.Goals as goal

pub look-here-requires-clause-low : goal.look-here-requires-clause-low
look-here-requires-clause-low g c =
    let nodes = c.args.input.now.store.now in
    omega (arith, length-text (tree nodes c.args.id.index), c.count.ensures.sound.short c.args.id.index (omega (arith, c.requires.live, c.requires.input.covered)))

pub returns-then-all-first-clause-nth : goal.returns-then-all-first-clause-nth
returns-then-all-first-clause-nth g c =
    let input = c.args.input.now in
    subst (λ x. IsNth input.dfa.now (text (tree input.store.now x.index)) (c.args.first.now.index + 1) None) c.look-here.ensures.id
    (root-none input c.requires.input c.look-here.result c.look-here.ensures.part c.look-here.ensures.at c.deref.result.now (λ q lt. ap (λ xs. get_or xs q 0) c.deref.ensures.value ∙ c.in_ok-after.ensures.ways q lt) c.args.first.now c.requires.state
    (omega (arith, c.all.ensures, c.if-all-first.true)) (omega (arith, c.requires.index)))

pub with_end-requires-clause-index : goal.with_end-requires-clause-index
with_end-requires-clause-index g c =
    root-end c.args.input.now c.requires.input c.look-here.result c.look-here.ensures.part c.look-here.ensures.at c.deref-2.result.now (λ q lt. ap (λ xs. get_or xs q 0) c.deref-2.ensures.value ∙ c.in_ok-after.ensures.ways q lt) c.args.first.now c.requires.state
    c.find-to.result c.look-here.new.looks c.find-to.new.looks c.find-to.ensures

pub returns-clause-nth : goal.returns-clause-nth
returns-clause-nth g c =
    let input = c.args.input.now in
    subst (λ x. IsNth input.dfa.now (text (tree input.store.now x.index)) (c.args.first.now.index + 1) (Some c.with_end.result)) c.look-here.ensures.id
    (root-nth input c.requires.input c.look-here.result c.look-here.ensures.part c.look-here.ensures.at c.deref-2.result.now (λ q lt. ap (λ xs. get_or xs q 0) c.deref-2.ensures.value ∙ c.in_ok-after.ensures.ways q lt) c.args.first.now c.requires.state
    c.find-to.result c.look-here.new.looks c.find-to.new.looks c.find-to.ensures c.with_end.result c.requires.tuple c.with_end.ensures)

pub returns-clause-cost : goal.returns-clause-cost
returns-clause-cost g c =
    let input = c.args.input.now in
    let id = c.args.id in
    let high : height (tree input.store.now id.index) ≤ height_limit (length (text (tree input.store.now id.index))) = omega (arith, c.height.ensures.height, rw (← length-text (tree input.store.now id.index)) at c.height.ensures.limit) in
    subst (λ x. c.find-to.new.looks ≤ c.args.looks.now + looks_limit input.dfa.now.variables (length (text (tree input.store.now x.index)))) c.look-here.ensures.id
    (root-looks input c.requires.input c.look-here.result c.look-here.ensures.part c.look-here.ensures.at c.deref-2.result.now (λ q lt. ap (λ xs. get_or xs q 0) c.deref-2.ensures.value ∙ c.in_ok-after.ensures.ways q lt) c.args.first.now c.requires.state
    c.find-to.result c.look-here.new.looks c.find-to.new.looks c.find-to.ensures c.args.looks.now c.look-here.ensures.step
    (subst (λ x. height (tree input.store.now x.index) ≤ height_limit (length (text (tree input.store.now x.index)))) (sym c.look-here.ensures.id) high))
