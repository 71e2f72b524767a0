use Rattle.std.proofs.Common.{◌≡◌, List, [], ◌∷◌, ◌++◌, map, Some, ap, subst, ◌∙◌}
use Rattle.std.proofs.lemmas.Option.{slice_get-map}
use Rattle.std.specs.Option.{option_map}
use Rattle.slp_model.specs.declared.Node.{Node}
use Rattle.node_store.specs.Narrow.{wide}
use Rattle.node_store.specs.Stored.{IsNew}
use Rattle.node_store.proofs.NarrowLemmas.{widened}
use Rattle.node_store.proofs.nodes.Nodes.insert.Goals as goal

pub returns-clause-added : goal.returns-clause-added
returns-clause-added c = λ was.
    let made = c.in_ok-index.ensures.added was in
    subst (λ (ns : List Node). (map wide c.insert_narrow.new.all.items ≡ ns ++ c.args.node ∷ []) × IsNew ns c.args.node) c.self.view_is
    (widened c.self.inside.all.items c.insert_narrow.new.all.items c.in-Some.narrow c.args.node c.in-Some.ensures.wide made.0 made.1)

pub returns-clause-node : goal.returns-clause-node
returns-clause-node c = slice_get-map wide c.insert_narrow.new.all.items c.in_ok-index.index ∙ (ap (option_map wide) c.in_ok-index.ensures.node ∙ ap Some c.in-Some.ensures.wide)
