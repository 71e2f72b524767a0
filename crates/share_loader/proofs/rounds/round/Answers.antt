use Rattle.std.proofs.Common.{◌+◌, ◌<◌, ◌++◌, length, drop, ap, sym, subst, ◌∙◌, arith}
use Rattle.std.proofs.lemmas.List.{take_rest, length-drop}
use Rattle.slp_model.proofs.NodesLemmas.{Grows-none, Grows-trans}
use Rattle.share_loader.specs.Symbols.{AreSymbols, symbols_text, IsNoneAlone}
use Rattle.share_loader.proofs.SymbolLemmas.{symbols-none, symbols-push, symbols-grow, symbols-drop, none-alone, round-text}
use Rattle.share_loader.proofs.rounds.round.Goals as goal

pub loop-rest-init : goal.loop-rest-init
loop-rest-init g c = record {
  grows = Grows-none c.args.store.now c.args.pairs.now c.args.pairs.now (omega arith);
  next = subst (AreSymbols c.args.store.now (c.args.level + 1)) (sym c.clear.ensures.items) (symbols-none _ _);
  rest = c.requires.symbols;
  alone = c.requires.alone;
  text = ap (λ xs. symbols_text c.args.store.now xs ++ symbols_text c.args.store.now c.args.symbols.now) c.clear.ensures.items;
  cost = omega (arith, c.clear.ensures.len);
  paid = λ more. omega (arith, c.clear.ensures.len);
}

pub returns-in_err-symbol-clause-grows : goal.returns-in_err-symbol-clause-grows
returns-in_err-symbol-clause-grows g c = Grows-trans _ _ _ _ _ _ c.loop-rest.invariant.grows c.group_of.ensures.grows

pub returns-in_err-push-clause-grows : goal.returns-in_err-push-clause-grows
returns-in_err-push-clause-grows g c = Grows-trans _ _ _ _ _ _ c.loop-rest.invariant.grows c.group_of.ensures.grows

pub loop-rest-preserved : goal.loop-rest-preserved
loop-rest-preserved g c =
    let e = take_rest c.loop-rest.rest.now c.group_len-count.result in
    record {
      grows = Grows-trans _ _ _ _ _ _ c.loop-rest.invariant.grows c.group_of.ensures.grows;
      next = subst (AreSymbols c.group_of.new.store (c.args.level + 1)) (sym c.in_ok-push.ensures.items) (symbols-push _ _ c.loop-rest.next.items c.in_ok-symbol.symbol (symbols-grow _ _ _ _ c.group_of.ensures.grows _ c.loop-rest.next.items c.loop-rest.invariant.next) c.in_ok-symbol.ensures.symbol c.in_ok-symbol.ensures.level);
      rest = subst (AreSymbols c.group_of.new.store c.args.level) (sym e) (symbols-drop _ _ c.group_len-count.result c.loop-rest.rest.now (symbols-grow _ _ _ _ c.group_of.ensures.grows _ c.loop-rest.rest.now c.loop-rest.invariant.rest));
      alone = subst (IsNoneAlone c.args.level) (sym e) (none-alone c.args.level c.group_len-count.result c.loop-rest.rest.now c.group_len-count.ensures);
      text =
          ap (λ xs. symbols_text c.group_of.new.store c.push.new.self.items ++ symbols_text c.group_of.new.store xs) e
          ∙ (ap (λ xs. symbols_text c.group_of.new.store xs ++ symbols_text c.group_of.new.store (drop c.group_len-count.result c.loop-rest.rest.now)) c.in_ok-push.ensures.items
          ∙ round-text _ _ _ _ c.group_of.ensures.grows _ _ c.loop-rest.next.items c.loop-rest.rest.now c.in_ok-symbol.symbol c.group_len-count.result _ c.loop-rest.invariant.next c.loop-rest.invariant.rest c.in_ok-symbol.ensures.text c.loop-rest.invariant.text);
      cost = omega (arith, c.loop-rest.invariant.cost, c.group_of.ensures.cost, c.in_ok-push.ensures.len, c.group_len-count.ensures.within, length-drop c.group_len-count.result c.loop-rest.rest.now, ap length e);
      paid = λ more.
          let lt : c.group_len-count.result < length c.loop-rest.rest.now = omega (arith, more, length-drop c.group_len-count.result c.loop-rest.rest.now, ap length e) in
          omega (arith, c.loop-rest.invariant.paid (omega (arith, lt)), c.group_of.ensures.paid lt, c.in_ok-push.ensures.len, c.group_len-count.ensures.within, length-drop c.group_len-count.result c.loop-rest.rest.now, ap length e);
    }
