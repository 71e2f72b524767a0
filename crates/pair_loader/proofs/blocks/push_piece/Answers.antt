use Rattle.std.proofs.Common.{arith, ◌≡◌, ◌++◌, length, take, drop, refl, ap, ◌∙◌, append_assoc, length-append}
use Rattle.std.proofs.lemmas.List.{take-append-drop, take_rest, length-drop}
use Rattle.slp_model.proofs.NodesLemmas.{Grows-trans, Grows-none}
use Rattle.pair_loader.specs.Pending.{stack_of, stack_text}
use Rattle.pair_loader.proofs.blocks.push_piece.Goals as goal

pub loop-rest-init : goal.loop-rest-init
loop-rest-init g c = record {
  grows = Grows-none c.args.store.now c.args.pairs.now c.args.pairs.now (omega arith);
  pending = c.requires.pending;
  text = refl;
  cost = omega arith;
}

pub push_some-requires-clause-short : goal.push_some-requires-clause-short
push_some-requires-clause-short g c =
    omega (arith, ap length c.loop-rest.invariant.text, length-append (stack_text (stack_of c.loop-rest.store c.loop-rest.blocks.items)) c.loop-rest.rest.now, length-append (stack_text (stack_of c.args.store.now c.args.blocks.now.items)) c.args.piece.now, c.requires.short)

pub returns-in_err-count-clause-grows : goal.returns-in_err-count-clause-grows
returns-in_err-count-clause-grows g c = Grows-trans _ _ _ _ _ _ c.loop-rest.invariant.grows c.push_some.ensures.grows

pub loop-rest-preserved : goal.loop-rest-preserved
loop-rest-preserved g c =
    let joined : stack_text (stack_of c.push_some.new.store c.push_some.new.blocks.items) ++ drop c.in_ok-count.count c.loop-rest.rest.now ≡ stack_text (stack_of c.args.store.now c.args.blocks.now.items) ++ c.args.piece.now =
    ap (λ w. w ++ drop c.in_ok-count.count c.loop-rest.rest.now) c.in_ok-count.ensures.text
    ∙ (append_assoc (stack_text (stack_of c.loop-rest.store c.loop-rest.blocks.items)) (take c.in_ok-count.count c.loop-rest.rest.now) (drop c.in_ok-count.count c.loop-rest.rest.now)
    ∙ (ap (λ w. stack_text (stack_of c.loop-rest.store c.loop-rest.blocks.items) ++ w) (take-append-drop c.in_ok-count.count c.loop-rest.rest.now)
    ∙ c.loop-rest.invariant.text)) in
    record {
      grows = Grows-trans _ _ _ _ _ _ c.loop-rest.invariant.grows c.push_some.ensures.grows;
      pending = c.in_ok-count.ensures.pending;
      text = ap (λ w. stack_text (stack_of c.push_some.new.store c.push_some.new.blocks.items) ++ w) (take_rest c.loop-rest.rest.now c.in_ok-count.count) ∙ joined;
      cost = omega (arith, c.loop-rest.invariant.cost, c.in_ok-count.ensures.cost, c.in_ok-count.ensures.within, length-drop c.in_ok-count.count c.loop-rest.rest.now, ap length (take_rest c.loop-rest.rest.now c.in_ok-count.count));
    }
