use Rattle.std.proofs.Common.{◌≡◌, ◌∙◌, ap, arith, rules, length, length-append, [], ◌∷◌}
use Rattle.std.proofs.lemmas.Slice.Zip.{zip_turn, zip_end}
use Rattle.std.specs.Iterator.Adapters.{zip_first, zip_second}
use Rattle.std.specs.Slice.Iter.{iter_rest}
use Rattle.marker_dfa.proofs.Merges.{related_more, related_all}
use Rattle.marker_dfa.proofs.merging.are_cells_alike.Goals as goal
use Rattle.marker_dfa.proofs.merging.are_cells_alike.Goals.{After-into_iter-left-iterator}

-- what the loop goes over
first : (c : After-into_iter-left-iterator) → iter_rest (zip_first c.into_iter-left-iterator.result) ≡ c.args.left.now.targets.items
first c = ap (λ z. iter_rest (zip_first z)) c.into_iter-left-iterator.ensures.into_iter_gives ∙ ap iter_rest c.zip-left-items.ensures.first ∙ c.iter.ensures.rest ∙ c.deref.ensures.value

second : (c : After-into_iter-left-iterator) → iter_rest (zip_second c.into_iter-left-iterator.result) ≡ c.args.right.now.targets.items
second c = ap (λ z. iter_rest (zip_second z)) c.into_iter-left-iterator.ensures.into_iter_gives ∙ c.zip-left-items.ensures.second.0

pub loop-left-init : goal.loop-left-init
loop-left-init c i x y lt = absurd (omega (arith, lt))

pub loop-left-preserved : goal.loop-left-preserved
loop-left-preserved c =
    let start : After-into_iter-left-iterator = (goal.at.loop-left-preserved c).After-into_iter-left-iterator in
    let turn = zip_turn c.args.left.now.targets.items c.args.right.now.targets.items c.loop-left.yielded c.into_iter-left-iterator.result c.loop-left.left-iterator c.next.new.self c.next.result (first start) (second start) c.loop-left.yielded_by (c.in-Some.left, c.in-Some.right) c.in-Some.is c.next.ensures.steps in
    related_more _ (length c.loop-left.yielded) _ _ _ c.in-Some.left.now c.in-Some.right.now c.loop-left.invariant (length-append c.loop-left.yielded ((c.in-Some.left, c.in-Some.right) ∷ [])) turn.2 turn.3 (search rules)

pub returns : goal.returns
returns c =
    let start : After-into_iter-left-iterator = (goal.at.returns c).After-into_iter-left-iterator in
    let end = zip_end c.args.left.now.targets.items c.args.right.now.targets.items c.loop-left.yielded c.into_iter-left-iterator.result c.loop-left.left-iterator c.next.new.self c.next.result (first start) (second start) c.loop-left.yielded_by c.in-None.is c.next.ensures.steps in
    λ t. record { marks = search rules; targets = related_all _ (length c.loop-left.yielded) _ _ c.loop-left.invariant end; even = search rules }
