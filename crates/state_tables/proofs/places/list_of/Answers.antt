use Rattle.std.proofs.Common.{◌∙◌, ◌++◌, ◌∷◌, [], ap}
use Rattle.state_tables.proofs.Indices.{range-push}
use Rattle.state_tables.proofs.places.list_of.Goals as goal

pub loop-index-preserved : goal.loop-index-preserved
loop-index-preserved c =
    let k = c.loop-index.index in
    c.in_ok-push.ensures.items ∙ ap (λ l. l ++ k ∷ []) c.loop-index.invariant ∙ range-push k
