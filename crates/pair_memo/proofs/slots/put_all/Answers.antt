use Rattle.std.proofs.Common.{◌∙◌, ap, inl, inr, arith, Option, Some, None}
use Rattle.std.proofs.lemmas.Option.{slice_get-get_or}
use Rattle.pair_memo.specs.Entries.{Entry}
use Rattle.pair_memo.proofs.EntryLemmas.{entries-at}
use Rattle.pair_memo.proofs.slots.put_all.Goals as goal

pub loop-slot-preserved : goal.loop-slot-preserved
loop-slot-preserved c =
    let from = c.args.from.now in
    let i = c.loop-slot.slot-index in
    let put = c.put_slot-count.ensures in
    record {
      entries = λ e h. elim (put.entries e h) [
        | inl old ↦ c.loop-slot.invariant.entries e old
        | inr new ↦ entries-at from i e (slice_get-get_or from i None c.loop-slot-test.true ∙ ap (λ (o : Option Entry). Some o) new)
      ];
      count = omega (arith, c.loop-slot.invariant.count, put.count);
      few = omega (arith, c.loop-slot.invariant.few, put.one);
    }
