use Rattle.std.proofs.Common.{◌≡◌, ◌+◌, ◌<◌, ◌≤◌, add-one, inl, inr, true, false, length, get_or, set, get_or-set_same, get_or-set_other, ap, sym, subst, ◌∙◌, arith}
use Rattle.std.proofs.lemmas.Bool.{cases_lt}
use Rattle.std.proofs.lemmas.List.Edits.{length-swap}
use Rattle.slp_model.proofs.RankLemmas.{rank-kept, rank-other}
use Rattle.slp_model.specs.Kept.{Keeps}
use Rattle.slp_model.specs.Thin.{rank}
use Rattle.distinct_items.specs.Renumbering.{flags_of}
use Rattle.distinct_items.proofs.Marks.{flag-set, flag-none, not-both}
use Rattle.distinct_items.proofs.Moving.{AreAllMoved, all-moved, moved-skip, moved-to}
use Rattle.distinct_items.proofs.renumbering.close_up.Goals as goal
use Rattle.distinct_items.proofs.renumbering.close_up.Goals.{then-marks-index-ne0, else-marks-index-ne0}

pub loop-index-preserved : goal.loop-index-preserved
loop-index-preserved g c =
    let at = c.loop-index in
    let old = c.args.items.now.items in
    let ks = flags_of c.args.marks.now in
    let unread : get_or at.marks at.index 0 ≡ get_or c.args.marks.now at.index 0 = at.invariant.ahead at.index (omega arith) in
    elim c.if-marks-index-ne0.branch [
      | then-marks-index-ne0 w ↦
          let within : at.index < length old = omega (arith, c.loop-index-test.true, c.len-index-end.ensures) in
          let marked : at.index < length at.marks = omega (arith, within, c.requires.long, at.auto.marks) in
          let keeps : Keeps (flags_of c.args.marks.now) at.index = flag-set c.args.marks.now at.index (λ e. w.if-marks-index-ne0.true (unread ∙ e)) in
          let swapped = w.swap.ensures.by_index in
          let low : at.kept ≤ at.index = at.invariant.moved.low in
          let moved : AreAllMoved c.args.items.now.items (flags_of c.args.marks.now) (at.index + 1) w.swap.new.self.items (at.kept + 1) = record {
            low = omega (arith, low);
            count = omega (arith, at.invariant.moved.count, rank-kept ks at.index keeps, ap (rank ks) (add-one at.index));
            each = λ d. moved-to old ks d at.index at.items.items at.kept (at.invariant.moved.each d) w.swap.new.self.items within keeps (ap length w.swap.ensures.items ∙ length-swap at.items.items at.kept at.index)
                (swapped.0 d) (λ j less. swapped.2 j d (λ e. omega (arith, e, less)) (λ e. omega (arith, e, less, low))) (λ j more. swapped.2 j d (λ e. omega (arith, e, more, low)) (λ e. omega (arith, e, more)));
          } in
          record {
            moved = rw (w.items-is, w.kept-is) moved;
            places = λ k lt h. rw w.marks-is (elim (cases_lt k at.index) [
              | inl less ↦ get_or-set_other at.marks at.index k (at.kept + 1) 0 (λ e. omega (arith, e, less)) ∙ at.invariant.places k less h
              | inr ge ↦
                  let here : k ≡ at.index = omega (arith, ge, lt) in
                  subst (λ n. get_or (set at.marks at.index (at.kept + 1)) n 0 ≡ rank ks n + 1) (sym here)
                  (get_or-set_same at.marks at.index (at.kept + 1) 0 marked ∙ ap (λ n. n + 1) at.invariant.moved.count)
            ]);
            ahead = λ k le. rw w.marks-is (get_or-set_other at.marks at.index k (at.kept + 1) 0 (λ e. omega (arith, e, le)) ∙ at.invariant.ahead k (omega (arith, le)));
          }
      | else-marks-index-ne0 w ↦
          let skips : get_or ks at.index false ≡ false = flag-none c.args.marks.now at.index (sym unread ∙ w.if-marks-index-ne0.false) in
          let moved : AreAllMoved c.args.items.now.items (flags_of c.args.marks.now) (at.index + 1) at.items.items at.kept = record {
            low = omega (arith, at.invariant.moved.low);
            count = omega (arith, at.invariant.moved.count, rank-other ks at.index skips, ap (rank ks) (add-one at.index));
            each = λ d. moved-skip old ks d at.index at.items.items at.kept (at.invariant.moved.each d) skips;
          } in
          record {
            moved = rw (w.items-is, w.kept-is) moved;
            places = λ k lt h. rw w.marks-is (elim (cases_lt k at.index) [
              | inl less ↦ at.invariant.places k less h
              | inr ge ↦
                  let here : k ≡ at.index = omega (arith, ge, lt) in
                  absurd (not-both (get_or ks at.index false) (subst (λ n. get_or ks n false ≡ true) here h) skips)
            ]);
            ahead = λ k le. rw w.marks-is (at.invariant.ahead k (omega (arith, le)));
          }
    ]

pub returns-clause-items : goal.returns-clause-items
returns-clause-items g c =
    let at = c.loop-index in
    let all : at.index ≡ length c.args.items.now.items = omega (arith, c.loop-index-test.false, at.auto.index-end, c.len-index-end.ensures) in
    c.truncate.ensures.items ∙ all-moved c.args.items.now.items (flags_of c.args.marks.now) at.index at.items.items at.kept at.invariant.moved all
