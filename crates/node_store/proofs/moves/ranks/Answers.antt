use Rattle.std.proofs.Common.{◌≡◌, ℕ, suc, ◌+◌, List, [], ◌∷◌, ◌++◌, arith, sym, ap, subst, ◌∙◌}
use Rattle.slp_model.specs.Thin.{rank}
use Rattle.slp_model.proofs.RankLemmas.{rank-most, rank-kept, rank-other}
use Rattle.node_store.specs.Moved.{AreRanks}
use Rattle.node_store.proofs.MoveLemmas.{ranks-push}
use Rattle.node_store.proofs.moves.ranks.Goals as goal
use Rattle.node_store.proofs.moves.ranks.Goals.{then-kept, else-kept}

pub overflow_add-next : goal.overflow_add-next
overflow_add-next c = omega (arith, c.loop-kept.invariant.next, rank-most c.args.keep.now c.loop-kept.kept-index)

pub loop-kept-preserved : goal.loop-kept-preserved
loop-kept-preserved c =
    let k : suc c.loop-kept.kept-index ≡ c.loop-kept.kept-index + 1 = omega arith in
    let items : c.push.new.self.items ≡ c.loop-kept.numbers.items ++ rank c.args.keep.now c.loop-kept.kept-index ∷ [] = c.in_ok-push.ensures.items ∙ ap (λ n. c.loop-kept.numbers.items ++ n ∷ []) c.loop-kept.invariant.next in
    record {
      ranks = subst (λ (ns : List ℕ). AreRanks c.args.keep.now ns (c.loop-kept.kept-index + 1)) (sym items) (ranks-push c.args.keep.now c.loop-kept.numbers.items c.loop-kept.kept-index c.loop-kept.invariant.ranks);
      next = elim c.if-kept.branch [
        | then-kept w ↦ w.next-is ∙ (ap (λ n. n + 1) c.loop-kept.invariant.next ∙ (sym (rank-kept c.args.keep.now c.loop-kept.kept-index w.if-kept.true) ∙ ap (rank c.args.keep.now) k))
        | else-kept w ↦ w.next-is ∙ (c.loop-kept.invariant.next ∙ (sym (rank-other c.args.keep.now c.loop-kept.kept-index w.if-kept.false) ∙ ap (rank c.args.keep.now) k))
      ];
    }
