use Rattle.std.proofs.Common.{◌<◌, ◌+◌, List, Some, length, sym, ap, subst, ◌∙◌, arith}
use Rattle.std.specs.Prelude.{Option}
use Rattle.std.proofs.lemmas.Bool.Decides.{Decides-eqb}
use Rattle.span_types.specs.declared.tuple.Span.{Span}
use Rattle.span_types.specs.Places.{AreSpans}
use Rattle.line_parts.specs.NameList.{IsName}
use Rattle.span_cursor.proofs.SpanLemmas.{length_blanks, length_set, spans_blanks, spans_set}
use Rattle.span_cursor.proofs.ReadLemmas.{Reads, empty, end_reads, named_first, named_next, no_step, start_reads, step_reads}
use Rattle.span_cursor.proofs.reading.read_for.Goals as goal

pub loop-v-init : goal.loop-v-init
loop-v-init c =
    let entry = c.in_ok-value.ensures in
    let at = c.name.ensures ∙ ap Some (sym c.bytes.ensures.value) in
    let long = ap length c.none-2.ensures ∙ length_blanks c.count-count.result ∙ c.count-count.ensures.count in
    let some : 0 < length c.args.vars.now = omega (arith, c.count-count.ensures.count, c.if-count-eq0.false) in
    record {
      long = ap length c.with_span-tuple.ensures ∙ length_set c.none-2.result 0 c.in_ok-value.value ∙ long;
      spans = subst AreSpans (sym c.with_span-tuple.ensures) (spans_set c.none-2.result 0 c.in_ok-value.value (subst AreSpans (sym c.none-2.ensures) (spans_blanks c.count-count.result)) entry.spanned);
      named = named_first c.args.vars.now c.bytes.result.now at entry.named;
      reads = subst (λ (t : List (Option Span)). Reads 1 c.args.vars.now c.args.text.now t c.in_ok-value.left.now) (sym c.with_span-tuple.ensures)
          (start_reads c.args.vars.now c.none-2.result c.args.text.now c.bytes.result.now c.in_ok-value.left.now c.in_ok-value.value some long at entry);
    }

pub returns-in_err-value-2 : goal.returns-in_err-value-2
returns-in_err-value-2 c =
    let below : c.loop-v.v < length c.args.vars.now = omega (arith, c.count-count.ensures.count, c.loop-v-test.true) in
    rw c.from_residual-in_err-value-2.ensures (no_step c.args.vars.now c.loop-v.tuple c.args.text.now c.bytes-in-loop-v.result.now c.loop-v.left.now c.loop-v.v below
    (c.name-in-loop-v.ensures ∙ ap Some (sym c.bytes-in-loop-v.ensures.value)) (subst IsName (sym c.bytes-in-loop-v.ensures.value) c.bytes-in-loop-v.ensures.named)
    c.in_err-value-2.ensures c.loop-v.invariant.reads)

pub loop-v-preserved : goal.loop-v-preserved
loop-v-preserved c =
    let entry = c.in_ok-value-2.ensures in
    let at = c.name-in-loop-v.ensures ∙ ap Some (sym c.bytes-in-loop-v.ensures.value) in
    let below : c.loop-v.v < length c.args.vars.now = omega (arith, c.count-count.ensures.count, c.loop-v-test.true) in
    record {
      long = ap length c.with_span-tuple-in-loop-v.ensures ∙ length_set c.loop-v.tuple c.loop-v.v c.in_ok-value-2.value ∙ c.loop-v.invariant.long;
      spans = subst AreSpans (sym c.with_span-tuple-in-loop-v.ensures) (spans_set c.loop-v.tuple c.loop-v.v c.in_ok-value-2.value c.loop-v.invariant.spans entry.spanned);
      named = named_next c.args.vars.now c.loop-v.v c.bytes-in-loop-v.result.now c.loop-v.invariant.named at entry.named;
      reads = subst (λ (t : List (Option Span)). Reads (c.loop-v.v + 1) c.args.vars.now c.args.text.now t c.in_ok-value-2.rest.now) (sym c.with_span-tuple-in-loop-v.ensures)
          (step_reads c.args.vars.now c.loop-v.tuple c.args.text.now c.bytes-in-loop-v.result.now c.loop-v.left.now c.in_ok-value-2.rest.now c.in_ok-value-2.value c.loop-v.v below c.loop-v.invariant.long at entry c.loop-v.invariant.reads);
    }

pub returns-then-is_empty : goal.returns-then-is_empty
returns-then-is_empty c =
    end_reads c.args.vars.now c.loop-v.tuple c.args.text.now c.loop-v.left.now c.loop-v.v (omega (arith, c.count-count.ensures.count, c.loop-v-test.false)) c.loop-v.invariant.long c.loop-v.invariant.spans c.loop-v.invariant.named
    (empty c.loop-v.left.now ((Decides-eqb (length c.loop-v.left.now) 0).0 (sym c.is_empty.ensures ∙ c.if-is_empty.true))) c.loop-v.invariant.reads
