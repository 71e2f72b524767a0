use Rattle.std.proofs.Common.{arith}
use Rattle.span_cursor.proofs.EntryLemmas.{no_comma, first_parts, no_close, last_parts, read_numbers}
use Rattle.span_cursor.proofs.entry.span_at.Goals as goal

pub returns-in_err-first : goal.returns-in_err-first
returns-in_err-first c = rw c.from_residual.ensures (λ span rest ok is. no_comma c.args.text.now rest span ok is c.in_err-first.ensures)

pub returns-in_err-last : goal.returns-in_err-last
returns-in_err-last c = rw c.from_residual-in_err-last.ensures (λ span rest ok is.
    no_close c.args.text.now rest span ok is c.in_ok-first.first.now c.in_ok-first.rest.now c.in_ok-first.ensures.0 c.in_ok-first.ensures.1 c.in_err-last.ensures)

pub returns-in_err-start : goal.returns-in_err-start
returns-in_err-start c = rw c.from_residual-in_err-start.ensures (λ span rest ok is.
    c.in_err-start.ensures span.start (first_parts c.args.text.now rest span ok is c.in_ok-first.first.now c.in_ok-first.rest.now c.in_ok-first.ensures.0 c.in_ok-first.ensures.1).0)

pub returns-in_err-end : goal.returns-in_err-end
returns-in_err-end c = rw c.from_residual-in_err-end.ensures (λ span rest ok is.
    c.in_err-end.ensures span.end (last_parts c.args.text.now rest span ok is c.in_ok-first.first.now c.in_ok-first.rest.now c.in_ok-last.last.now c.in_ok-last.rest.now c.in_ok-first.ensures.0 c.in_ok-first.ensures.1 c.in_ok-last.ensures.0 c.in_ok-last.ensures.1).0)

pub returns-then-start-eq0 : goal.returns-then-start-eq0
returns-then-start-eq0 c = λ span rest ok is.
    let same = read_numbers c.args.text.now rest span ok is c.in_ok-first.first.now c.in_ok-first.rest.now c.in_ok-last.last.now c.in_ok-last.rest.now c.in_ok-start.start c.in_ok-end.end
    c.in_ok-first.ensures.0 c.in_ok-first.ensures.1 c.in_ok-last.ensures.0 c.in_ok-last.ensures.1 c.in_ok-start.ensures c.in_ok-end.ensures in
    let starts = same.0 in
    let low = ok.positive in
    omega (arith, low, starts, c.if-start-eq0.true)

pub returns-then-end-start : goal.returns-then-end-start
returns-then-end-start c = λ span rest ok is.
    let same = read_numbers c.args.text.now rest span ok is c.in_ok-first.first.now c.in_ok-first.rest.now c.in_ok-last.last.now c.in_ok-last.rest.now c.in_ok-start.start c.in_ok-end.end
    c.in_ok-first.ensures.0 c.in_ok-first.ensures.1 c.in_ok-last.ensures.0 c.in_ok-last.ensures.1 c.in_ok-start.ensures c.in_ok-end.ensures in
    let starts = same.0 in
    let ends = same.1 in
    let order = ok.ordered in
    omega (arith, order, starts, ends, c.if-end-start.true)

pub returns-then-end-gt-MAX_BOUND : goal.returns-then-end-gt-MAX_BOUND
returns-then-end-gt-MAX_BOUND c = λ span rest ok is.
    let same = read_numbers c.args.text.now rest span ok is c.in_ok-first.first.now c.in_ok-first.rest.now c.in_ok-last.last.now c.in_ok-last.rest.now c.in_ok-start.start c.in_ok-end.end
    c.in_ok-first.ensures.0 c.in_ok-first.ensures.1 c.in_ok-last.ensures.0 c.in_ok-last.ensures.1 c.in_ok-start.ensures c.in_ok-end.ensures in
    let ends = same.1 in
    let high = ok.small in
    omega (arith, high, ends, c.if-end-gt-MAX_BOUND.true)
