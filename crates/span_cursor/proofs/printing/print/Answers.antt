use Rattle.std.proofs.Common.{◌<◌, Some, length, sym, ap, subst, ◌∙◌, arith, take}
use Rattle.line_parts.specs.NameList.{IsName}
use Rattle.span_cursor.proofs.PrintLemmas.{last_printed, step_printed}
use Rattle.span_cursor.proofs.ReadLemmas.{all_named, named_next}
use Rattle.span_cursor.proofs.printing.print.Goals as goal

pub loop-v-preserved : goal.loop-v-preserved
loop-v-preserved c =
    let at = c.name-in-loop-v.ensures ∙ ap Some (sym c.bytes-in-loop-v.ensures.value) in
    let below : c.loop-v.v < length c.args.tuple.now = omega (arith, c.count-count.ensures.value, c.loop-v-test.true) in
    record {
      room = omega arith;
      named = named_next c.args.vars.now c.loop-v.v c.bytes-in-loop-v.result.now c.loop-v.invariant.named at (subst IsName (sym c.bytes-in-loop-v.ensures.value) c.bytes-in-loop-v.ensures.named);
      whole = step_printed (take c.loop-v.at c.loop-v.into) (take c.put-at.result c.put-at.new.into) (take c.put_entry-at-in-loop-v.result c.put_entry-at-in-loop-v.new.into) c.args.vars.now c.args.tuple.now c.loop-v.v
          c.bytes-in-loop-v.result.now c.span-in-loop-v.result at below c.span-in-loop-v.ensures.value c.put-at.ensures.written c.put_entry-at-in-loop-v.ensures.written c.loop-v.invariant.whole;
      long = omega arith;
    }

pub returns-clause-written : goal.returns-clause-written
returns-clause-written c = record {
  named = all_named c.args.vars.now c.loop-v.v (omega (arith, c.count-count.ensures.value, c.requires.counts, c.loop-v-test.false)) c.loop-v.invariant.named;
  spans = c.count-count.ensures.tuple.spans;
  paired = c.requires.counts;
  written = last_printed (take c.loop-v.at c.loop-v.into) c.args.vars.now c.args.tuple.now c.loop-v.v (omega (arith, c.count-count.ensures.value, c.requires.counts, c.loop-v-test.false)) c.loop-v.invariant.whole;
}
