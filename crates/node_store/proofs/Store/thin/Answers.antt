use Rattle.std.proofs.Common.{rules, ◌≡◌, ap, ◌∙◌}
use Rattle.slp_model.specs.Thin.{thin}
use Rattle.node_store.proofs.Store.thin.Goals as goal

pub returns-clause-store : goal.returns-clause-store
returns-clause-store c =
    let kept : c.in_ok-moves.moves ≡ c.args.keep.now = search rules in
    c.in_ok-store.ensures.store ∙ ap (thin c.args.self.now) kept
