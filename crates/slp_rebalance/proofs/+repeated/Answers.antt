use Rattle.std.proofs.Common.{◌≡◌, ◌+◌, ◌/◌, ap, ◌∙◌, arith}
use Rattle.std.proofs.lemmas.Result.{IfOk-weaker}
use Rattle.slp_model.specs.declared.NodeId.{NodeId}
use Rattle.slp_model.specs.Tree.{Fork, text}
use Rattle.slp_model.specs.Nodes.{tree}
use Rattle.slp_model.proofs.NodesLemmas.{Grows-trans}
use Rattle.slp_rebalance.specs.Copies.{copies}
use Rattle.slp_rebalance.proofs.CopyLemmas.{run-step}
use Rattle.slp_rebalance.proofs.AroundLemmas.{both-short, both-copies, odd-step}
use Rattle.slp_rebalance.proofs.+repeated.Goals as goal

pub pair-requires-clause-short : goal.pair-requires-clause-short
pair-requires-clause-short g t c =
    both-short (tree c.repeated.new.store c.in_ok-one.one.index) (tree c.repeated.new.store c.in_ok-one.one.index) (tree c.args.store.now c.args.run.id.index) (c.args.run.times / 2) (c.args.run.times / 2) c.args.run.times
    c.in_ok-one.ensures.text c.in_ok-one.ensures.text (omega arith) c.requires.short

pub returns-then-times-eq0-clause-grows : goal.returns-then-times-eq0-clause-grows
returns-then-times-eq0-clause-grows g t c = Grows-trans _ _ _ _ _ _ c.repeated.ensures.grows c.pair.ensures.grows

pub returns-then-times-eq0-clause-text : goal.returns-then-times-eq0-clause-text
returns-then-times-eq0-clause-text g t c =
    let half = tree c.repeated.new.store c.in_ok-one.one.index in
    let both : text (Fork half half) ≡ copies c.args.run.times (text (tree c.args.store.now c.args.run.id.index)) =
    both-copies half half (c.args.run.times / 2) (c.args.run.times / 2) c.args.run.times (text (tree c.args.store.now c.args.run.id.index)) c.in_ok-one.ensures.text c.in_ok-one.ensures.text (omega (arith, c.if-times-eq0.true)) in
    IfOk-weaker c.pair.result _ _ (λ (r : NodeId) (e : tree c.pair.new.self r.index ≡ Fork half half). ap text e ∙ both) c.pair.ensures.tree

pub returns-then-times-eq0-clause-cost : goal.returns-then-times-eq0-clause-cost
returns-then-times-eq0-clause-cost g t c =
    λ places below. run-step places c.args.run.times c.args.pairs.now c.repeated.new.pairs c.pair.new.pairs (omega (arith, c.requires.some, c.if-times-eq1.false)) below c.repeated.ensures.cost (omega (arith, c.pair.ensures.step))

pub pair-requires-2-clause-short : goal.pair-requires-2-clause-short
pair-requires-2-clause-short g t c =
    both-short (tree c.around.new.store c.in_ok-fewer.more.index) (tree c.around.new.store c.in_ok-fewer.fewer.index) (tree c.args.store.now c.args.run.id.index) (c.args.run.times / 2 + 1) (c.args.run.times / 2) c.args.run.times
    c.in_ok-fewer.ensures.around.more c.in_ok-fewer.ensures.around.fewer (omega (arith, c.if-times-eq0.false)) c.requires.short

pub returns-clause-grows : goal.returns-clause-grows
returns-clause-grows g t c = Grows-trans _ _ _ _ _ _ c.around.ensures.grows c.pair-2.ensures.grows

pub returns-clause-text : goal.returns-clause-text
returns-clause-text g t c =
    let fewer = tree c.around.new.store c.in_ok-fewer.fewer.index in
    let more = tree c.around.new.store c.in_ok-fewer.more.index in
    let both : text (Fork more fewer) ≡ copies c.args.run.times (text (tree c.args.store.now c.args.run.id.index)) =
    both-copies more fewer (c.args.run.times / 2 + 1) (c.args.run.times / 2) c.args.run.times (text (tree c.args.store.now c.args.run.id.index)) c.in_ok-fewer.ensures.around.more c.in_ok-fewer.ensures.around.fewer (omega (arith, c.if-times-eq0.false)) in
    IfOk-weaker c.pair-2.result _ _ (λ (r : NodeId) (e : tree c.pair-2.new.self r.index ≡ Fork more fewer). ap text e ∙ both) c.pair-2.ensures.tree

pub returns-clause-cost : goal.returns-clause-cost
returns-clause-cost g t c =
    λ places below. odd-step places c.args.run.times c.args.pairs.now c.around.new.pairs c.pair-2.new.pairs (omega (arith, c.requires.some, c.if-times-eq1.false)) below c.around.ensures.cost (omega (arith, c.pair-2.ensures.step))
