use Rattle.std.proofs.Common.{rules, ◌≡◌, ◌+◌, ◌<◌, ◌≤◌, length, vec_len, ap, sym, subst, ◌∙◌, arith}
use Rattle.slp_model.specs.Tree.{leaves}
use Rattle.slp_model.specs.Nodes.{tree}
use Rattle.slp_model.proofs.NodesLemmas.{Grows-none, Grows-trans}
use Rattle.share_loader.specs.declared.symbols.Symbol.{Symbol}
use Rattle.share_loader.specs.Symbols.{AreSymbols, symbols_text}
use Rattle.share_loader.proofs.SymbolLemmas.{first-leaves, text-long, some-symbols}
use Rattle.share_loader.proofs.CostLemmas.{limit-grows}
use Rattle.share_loader.proofs.rounds.block_of.Goals as goal

pub loop-level-init : goal.loop-level-init
loop-level-init g c = record {
  grows = Grows-none c.args.store.now c.args.pairs.now c.args.pairs.now (omega arith);
  some = c.requires.some;
  symbols = c.requires.symbols;
  text = search rules;
  least = omega arith;
  most = omega arith;
  cost = omega arith;
}

pub returns-then-len-eq1-clause-cost : goal.returns-then-len-eq1-clause-cost
returns-then-len-eq1-clause-cost g c =
    let some : 0 < length c.loop-level.symbols.items = search rules in
    let here : leaves (tree c.loop-level.store c.index.result.now.node.index) ≤ length (symbols_text c.loop-level.store c.loop-level.symbols.items) =
    subst (λ (x : Symbol). leaves (tree c.loop-level.store x.node.index) ≤ length (symbols_text c.loop-level.store c.loop-level.symbols.items)) (sym c.index.ensures) (first-leaves c.loop-level.store c.loop-level.symbols.items _ some) in
    let limit = limit-grows (leaves (tree c.loop-level.store c.index.result.now.node.index)) (length (symbols_text c.args.store.now c.args.symbols.now.items)) (omega (arith, here, ap length c.loop-level.invariant.text)) in
    omega (arith, limit, c.if-prove.false, c.height-height.ensures.limit, c.loop-level.invariant.cost, c.loop-level.invariant.some)

pub returns-in_err-round-clause-grows : goal.returns-in_err-round-clause-grows
returns-in_err-round-clause-grows g c = Grows-trans _ _ _ _ _ _ c.loop-level.invariant.grows c.round.ensures.grows

pub returns-in_err-round-clause-cost : goal.returns-in_err-round-clause-cost
returns-in_err-round-clause-cost g c =
    let some : 0 < length c.loop-level.symbols.items = search rules in
    let here : leaves (tree c.loop-level.store c.index.result.now.node.index) ≤ length (symbols_text c.loop-level.store c.loop-level.symbols.items) =
    subst (λ (x : Symbol). leaves (tree c.loop-level.store x.node.index) ≤ length (symbols_text c.loop-level.store c.loop-level.symbols.items)) (sym c.index.ensures) (first-leaves c.loop-level.store c.loop-level.symbols.items _ some) in
    let limit = limit-grows (leaves (tree c.loop-level.store c.index.result.now.node.index)) (length (symbols_text c.args.store.now c.args.symbols.now.items)) (omega (arith, here, ap length c.loop-level.invariant.text)) in
    omega (arith, limit, c.if-prove.false, c.height-height.ensures.limit, c.loop-level.invariant.cost, c.round.ensures.most, c.deref.ensures.len)

pub loop-level-preserved : goal.loop-level-preserved
loop-level-preserved g c =
    let swapped : c.swap.new.x ≡ c.round.new.next = c.swap.ensures.x_after in
    let same : c.swap.new.x.items ≡ c.round.new.next.items = ap (λ v. v.items) swapped in
    let whole : symbols_text c.round.new.store c.swap.new.x.items ≡ symbols_text c.args.store.now c.args.symbols.now.items =
    ap (symbols_text c.round.new.store) same ∙ (c.in_ok-round.ensures.text ∙ (ap (symbols_text c.loop-level.store) c.deref.ensures.value ∙ c.loop-level.invariant.text)) in
    let before : 0 < length c.args.symbols.now.items = search rules in
    let some : 0 < length c.swap.new.x.items = some-symbols c.round.new.store c.swap.new.x.items (omega (arith, ap length whole, before, text-long c.args.store.now c.args.symbols.now.items)) in
    record {
      grows = Grows-trans _ _ _ _ _ _ c.loop-level.invariant.grows c.round.ensures.grows;
      some = search rules;
      symbols = subst (AreSymbols c.round.new.store (c.loop-level.level + 1)) (sym same) c.in_ok-round.ensures.symbols;
      text = whole;
      least = omega (arith, c.loop-level.invariant.least);
      most = omega (arith, c.if-prove.false, c.height-height.ensures.low);
      cost = omega (arith, c.loop-level.invariant.cost, c.in_ok-round.ensures.cost, c.deref.ensures.len, ap vec_len swapped);
    }
