use Rattle.std.proofs.Common.{rules, subst}
use Rattle.slp_model.specs.Nodes.{tree}
use Rattle.node_store.proofs.StoredLemmas.{IsHeightOf, height-at}
use Rattle.node_store.proofs.Store.height.Goals as goal

pub returns-clause-enough : goal.returns-clause-enough
returns-clause-enough c =
    let known : IsHeightOf (tree c.args.self.now c.args.id.index) c.index.result.now = subst (λ ns. IsHeightOf (tree ns c.args.id.index) c.index.result.now) c.self.view_is (height-at c.self.inside.nodes c.self.inside.lens.all c.self.inside.heights.items c.args.id.index c.index.result.now c.self.invariant.0 (search rules) (search rules)) in
    known.enough

pub returns-clause-limit : goal.returns-clause-limit
returns-clause-limit c =
    let known : IsHeightOf (tree c.args.self.now c.args.id.index) c.index.result.now = subst (λ ns. IsHeightOf (tree ns c.args.id.index) c.index.result.now) c.self.view_is (height-at c.self.inside.nodes c.self.inside.lens.all c.self.inside.heights.items c.args.id.index c.index.result.now c.self.invariant.0 (search rules) (search rules)) in
    known.limit

pub returns-clause-low : goal.returns-clause-low
returns-clause-low c =
    let known : IsHeightOf (tree c.args.self.now c.args.id.index) c.index.result.now = subst (λ ns. IsHeightOf (tree ns c.args.id.index) c.index.result.now) c.self.view_is (height-at c.self.inside.nodes c.self.inside.lens.all c.self.inside.heights.items c.args.id.index c.index.result.now c.self.invariant.0 (search rules) (search rules)) in
    known.low
