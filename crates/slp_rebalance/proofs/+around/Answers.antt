use Rattle.std.proofs.Common.{◌+◌, ◌/◌, arith}
use Rattle.slp_model.specs.Tree.{text}
use Rattle.slp_model.specs.Nodes.{tree}
use Rattle.slp_model.proofs.NodesLemmas.{Grows-trans}
use Rattle.slp_rebalance.proofs.AroundLemmas.{both-short, around-grows, around-one, around-even, around-odd, around-step}
use Rattle.slp_rebalance.proofs.+around.Goals as goal

pub returns-then-times-eq1-clause-around : goal.returns-then-times-eq1-clause-around
returns-then-times-eq1-clause-around g t c =
    rw (c.if-times-eq1.true) (around-one c.args.store.now c.pair.new.self _ _ c.args.run.id.index c.in_ok-twice.twice.index c.pair.ensures.grows c.requires.live c.in_ok-twice.ensures.live c.in_ok-twice.ensures.tree)

pub returns-in_err-fewer-clause-cost : goal.returns-in_err-fewer-clause-cost
returns-in_err-fewer-clause-cost g t c = λ places below. around-step places c.args.run.times c.args.pairs.now c.around.new.pairs c.around.new.pairs (omega (arith, c.requires.some, c.if-times-eq1.false)) below c.around.ensures.cost (omega arith)

pub pair-requires-2-clause-short : goal.pair-requires-2-clause-short
pair-requires-2-clause-short g t c =
    both-short (tree c.around.new.store c.in_ok-fewer.more.index) (tree c.around.new.store c.in_ok-fewer.fewer.index) (tree c.args.store.now c.args.run.id.index) (c.args.run.times / 2 + 1) (c.args.run.times / 2) (c.args.run.times + 1)
    c.in_ok-fewer.ensures.around.more c.in_ok-fewer.ensures.around.fewer (omega arith) c.requires.short

pub returns-in_err-between-clause-cost : goal.returns-in_err-between-clause-cost
returns-in_err-between-clause-cost g t c = λ places below. around-step places c.args.run.times c.args.pairs.now c.around.new.pairs c.pair-2.new.pairs (omega (arith, c.requires.some, c.if-times-eq1.false)) below c.around.ensures.cost (omega (arith, c.pair-2.ensures.step))

pub pair-requires-then-times-eq0-clause-short : goal.pair-requires-then-times-eq0-clause-short
pair-requires-then-times-eq0-clause-short g t c =
    let v = around-grows c.around.new.store c.pair-2.new.self _ _ c.pair-2.ensures.grows (text (tree c.args.store.now c.args.run.id.index)) (c.args.run.times / 2) c.in_ok-fewer.fewer.index c.in_ok-fewer.more.index c.in_ok-fewer.ensures.around in
    both-short (tree c.pair-2.new.self c.in_ok-fewer.fewer.index) (tree c.pair-2.new.self c.in_ok-fewer.fewer.index) (tree c.args.store.now c.args.run.id.index) (c.args.run.times / 2) (c.args.run.times / 2) (c.args.run.times + 1)
    v.fewer v.fewer (omega arith) c.requires.short

pub returns-in_err-twice-2-clause-grows : goal.returns-in_err-twice-2-clause-grows
returns-in_err-twice-2-clause-grows g t c = Grows-trans _ _ _ _ _ _ (Grows-trans _ _ _ _ _ _ c.around.ensures.grows c.pair-2.ensures.grows) c.pair-then-times-eq0.ensures.grows

pub returns-in_err-twice-2-clause-cost : goal.returns-in_err-twice-2-clause-cost
returns-in_err-twice-2-clause-cost g t c = λ places below. around-step places c.args.run.times c.args.pairs.now c.around.new.pairs c.pair-then-times-eq0.new.pairs (omega (arith, c.requires.some, c.if-times-eq1.false)) below c.around.ensures.cost (omega (arith, c.pair-2.ensures.step, c.pair-then-times-eq0.ensures.step))

pub returns-then-times-eq0-clause-grows : goal.returns-then-times-eq0-clause-grows
returns-then-times-eq0-clause-grows g t c = Grows-trans _ _ _ _ _ _ (Grows-trans _ _ _ _ _ _ c.around.ensures.grows c.pair-2.ensures.grows) c.pair-then-times-eq0.ensures.grows

pub returns-then-times-eq0-clause-around : goal.returns-then-times-eq0-clause-around
returns-then-times-eq0-clause-around g t c =
    around-even c.around.new.store c.pair-2.new.self c.pair-then-times-eq0.new.self _ _ _ (text (tree c.args.store.now c.args.run.id.index)) (c.args.run.times / 2) c.args.run.times c.in_ok-fewer.fewer.index c.in_ok-fewer.more.index c.in_ok-between.between.index c.in_ok-twice-2.twice.index
    c.in_ok-fewer.ensures.around c.pair-2.ensures.grows c.pair-then-times-eq0.ensures.grows c.in_ok-between.ensures.live c.in_ok-between.ensures.tree c.in_ok-twice-2.ensures.live (omega (arith, c.if-times-eq0.true)) c.in_ok-twice-2.ensures.tree

pub returns-then-times-eq0-clause-cost : goal.returns-then-times-eq0-clause-cost
returns-then-times-eq0-clause-cost g t c = λ places below. around-step places c.args.run.times c.args.pairs.now c.around.new.pairs c.pair-then-times-eq0.new.pairs (omega (arith, c.requires.some, c.if-times-eq1.false)) below c.around.ensures.cost (omega (arith, c.pair-2.ensures.step, c.pair-then-times-eq0.ensures.step))

pub pair-requires-3-clause-short : goal.pair-requires-3-clause-short
pair-requires-3-clause-short g t c =
    let v = around-grows c.around.new.store c.pair-2.new.self _ _ c.pair-2.ensures.grows (text (tree c.args.store.now c.args.run.id.index)) (c.args.run.times / 2) c.in_ok-fewer.fewer.index c.in_ok-fewer.more.index c.in_ok-fewer.ensures.around in
    both-short (tree c.pair-2.new.self c.in_ok-fewer.more.index) (tree c.pair-2.new.self c.in_ok-fewer.more.index) (tree c.args.store.now c.args.run.id.index) (c.args.run.times / 2 + 1) (c.args.run.times / 2 + 1) (c.args.run.times + 1)
    v.more v.more (omega (arith, c.if-times-eq0.false)) c.requires.short

pub returns-in_err-twice-3-clause-grows : goal.returns-in_err-twice-3-clause-grows
returns-in_err-twice-3-clause-grows g t c = Grows-trans _ _ _ _ _ _ (Grows-trans _ _ _ _ _ _ c.around.ensures.grows c.pair-2.ensures.grows) c.pair-3.ensures.grows

pub returns-in_err-twice-3-clause-cost : goal.returns-in_err-twice-3-clause-cost
returns-in_err-twice-3-clause-cost g t c = λ places below. around-step places c.args.run.times c.args.pairs.now c.around.new.pairs c.pair-3.new.pairs (omega (arith, c.requires.some, c.if-times-eq1.false)) below c.around.ensures.cost (omega (arith, c.pair-2.ensures.step, c.pair-3.ensures.step))

pub returns-clause-grows : goal.returns-clause-grows
returns-clause-grows g t c = Grows-trans _ _ _ _ _ _ (Grows-trans _ _ _ _ _ _ c.around.ensures.grows c.pair-2.ensures.grows) c.pair-3.ensures.grows

pub returns-clause-around : goal.returns-clause-around
returns-clause-around g t c =
    around-odd c.around.new.store c.pair-2.new.self c.pair-3.new.self _ _ _ (text (tree c.args.store.now c.args.run.id.index)) (c.args.run.times / 2) c.args.run.times c.in_ok-fewer.fewer.index c.in_ok-fewer.more.index c.in_ok-between.between.index c.in_ok-twice-3.twice.index
    c.in_ok-fewer.ensures.around c.pair-2.ensures.grows c.pair-3.ensures.grows c.in_ok-between.ensures.live c.in_ok-between.ensures.tree c.in_ok-twice-3.ensures.live (omega (arith, c.if-times-eq0.false)) c.in_ok-twice-3.ensures.tree

pub returns-clause-cost : goal.returns-clause-cost
returns-clause-cost g t c = λ places below. around-step places c.args.run.times c.args.pairs.now c.around.new.pairs c.pair-3.new.pairs (omega (arith, c.requires.some, c.if-times-eq1.false)) below c.around.ensures.cost (omega (arith, c.pair-2.ensures.step, c.pair-3.ensures.step))
