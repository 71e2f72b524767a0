use Rattle.text_commands.proofs.Names.{ap, arith, IfOk-weaker, root_text, shape-text, ◌∙◌}
use Rattle.text_commands.proofs.Facts.{shared_within}
use Rattle.text_commands.proofs.loaders.finish.Goals as goal

pub returns-in-Load-clause-text : goal.returns-in-Load-clause-text
returns-in-Load-clause-text g c = rw c.in-Load.is (IfOk-weaker c.finish.result _ _ (λ root e. ap root_text e ∙ shape-text _) c.finish.ensures.tree)

pub returns-in-Share-clause-cost : goal.returns-in-Share-clause-cost
returns-in-Share-clause-cost g c =
    rw c.in-Share.is (λ before h. shared_within c.args.store.now c.in-Share.sharer 0 _ before c.args.pairs.now c.finish-in-Share.new.pairs h (omega arith) (omega (arith, c.finish-in-Share.ensures.cost)))
