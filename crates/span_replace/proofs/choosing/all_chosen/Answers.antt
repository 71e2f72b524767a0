use Rattle.std.proofs.Common.{◌≡◌, ◌+◌, ◌*◌, ◌≤◌, arith, refl, sym, ap, subst, ◌∙◌, List, [], ◌∷◌, Some, length, length-append}
use Rattle.span_types.specs.Fibonacci.{looks_limit}
use Rattle.span_types.specs.Places.{IsSpan, IsSpanOr}
use Rattle.span_types.specs.declared.tuple.Span.{Span}
use Rattle.span_replace.specs.Search.{cursor_past, search_cost}
use Rattle.span_replace.proofs.SpanOrder.{one}
use Rattle.span_replace.proofs.Picks.{Picks, apart-of, finds-same, paid-first, paid-most, paid-next, picks-all, picks-first, picks-prefix, picks-more, picks-step}
use Rattle.span_replace.proofs.choosing.all_chosen.Goals as goal

pub loop-next-init : goal.loop-next-init
loop-next-init g c =
    let a = c.args.answers.now.automaton in
    let s = c.args.answers.now.text in
    let none : length c.new-spans.result.items ≡ 0 = ap length c.new-spans.ensures.items in
    let next = c.next_left-next.result in
    record {
      automaton = c.next_left-next.ensures.automaton;
      text = c.next_left-next.ensures.text;
      few = omega (arith, none);
      index = c.next_left-next.ensures.index;
      so_far = subst (λ (z : List Span). Picks c.args.choice a s z next) (sym c.new-spans.ensures.items)
          (picks-first a s c.requires.one c.requires.short c.args.choice next (finds-same c.args.choice a a s s _ _ next refl refl c.requires.start c.next_left-next.ensures.span));
      paid = paid-first (search_cost c.args.choice + 2) (search_cost c.args.choice) c.args.looks.now c.next_left-next.new.looks (length c.new-spans.result.items) (looks_limit 1 (length s)) (omega (arith, c.next_left-next.ensures.cost)) none;
    }

pub loop-next-preserved : goal.loop-next-preserved
loop-next-preserved g c =
    let a = c.args.answers.now.automaton in
    let s = c.args.answers.now.text in
    let at = c.loop-next in
    let spans = at.spans.items in
    let q = c.in-Some.span in
    let next = c.next_after-next.result in
    let one_more : length c.push.new.self.items ≡ length spans + 1 = ap length c.in_ok-push.ensures.items ∙ length-append spans (q ∷ []) in
    let iq : IsSpan q = subst IsSpanOr c.in-Some.is at.invariant.index in
    let before = subst (Picks c.args.choice a s spans) c.in-Some.is at.invariant.so_far in
    let finds = finds-same c.args.choice at.answers.automaton a at.answers.text s _ (Some (one (cursor_past c.args.choice q))) next at.invariant.automaton at.invariant.text refl c.next_after-next.ensures.span in
    record {
      automaton = c.next_after-next.ensures.automaton ∙ at.invariant.automaton;
      text = c.next_after-next.ensures.text ∙ at.invariant.text;
      few = omega (arith, one_more, at.invariant.few, c.if-len-eq-MAX_SPANS.false, c.len.ensures);
      index = c.next_after-next.ensures.index;
      so_far = subst (λ (z : List Span). Picks c.args.choice a s z next) (sym c.in_ok-push.ensures.items) (picks-step a s c.requires.one c.requires.short c.args.choice spans q next iq before finds);
      paid = paid-next (search_cost c.args.choice + 2) (search_cost c.args.choice) c.args.looks.now at.looks c.next_after-next.new.looks (length spans) (length c.push.new.self.items) (looks_limit 1 (length s)) at.invariant.paid
          (subst (λ x. c.next_after-next.new.looks ≤ at.looks + (search_cost c.args.choice + 2) * looks_limit 1 (length x)) at.invariant.text c.next_after-next.ensures.cost) one_more;
    }

pub returns-then-len-eq-MAX_SPANS-clause-choice : goal.returns-then-len-eq-MAX_SPANS-clause-choice
returns-then-len-eq-MAX_SPANS-clause-choice g c all answers =
    let a = c.args.answers.now.automaton in
    let s = c.args.answers.now.text in
    let p = subst (Picks c.args.choice a s c.loop-next.spans.items) c.in-Some.is c.loop-next.invariant.so_far in
    let more = picks-more c.args.choice a s c.loop-next.spans.items all answers c.in-Some.span p in
    omega (arith, more, c.if-len-eq-MAX_SPANS.true, c.len.ensures)

pub returns-then-len-eq-MAX_SPANS-clause-cost : goal.returns-then-len-eq-MAX_SPANS-clause-cost
returns-then-len-eq-MAX_SPANS-clause-cost g c all answers =
    let at = c.loop-next in
    paid-most (search_cost c.args.choice + 2) (search_cost c.args.choice) c.args.looks.now at.looks (length at.spans.items) _ (looks_limit 1 (length c.args.answers.now.text)) at.invariant.paid
    (picks-prefix c.args.choice c.args.answers.now.automaton c.args.answers.now.text at.spans.items all answers at.next at.invariant.so_far) at.invariant.few

pub returns-in_err-push-clause-cost : goal.returns-in_err-push-clause-cost
returns-in_err-push-clause-cost g c all answers =
    let at = c.loop-next in
    paid-most (search_cost c.args.choice + 2) (search_cost c.args.choice) c.args.looks.now at.looks (length at.spans.items) _ (looks_limit 1 (length c.args.answers.now.text)) at.invariant.paid
    (picks-prefix c.args.choice c.args.answers.now.automaton c.args.answers.now.text at.spans.items all answers at.next at.invariant.so_far) at.invariant.few

pub returns-clause-cost : goal.returns-clause-cost
returns-clause-cost g c all answers =
    let at = c.loop-next in
    paid-most (search_cost c.args.choice + 2) (search_cost c.args.choice) c.args.looks.now at.looks (length at.spans.items) _ (looks_limit 1 (length c.args.answers.now.text)) at.invariant.paid
    (picks-prefix c.args.choice c.args.answers.now.automaton c.args.answers.now.text at.spans.items all answers at.next at.invariant.so_far) at.invariant.few

pub returns-clause-choice : goal.returns-clause-choice
returns-clause-choice g c all answers =
    let a = c.args.answers.now.automaton in
    let s = c.args.answers.now.text in
    let e = picks-all c.args.choice a s c.loop-next.spans.items all answers (subst (Picks c.args.choice a s c.loop-next.spans.items) c.in_default.is c.loop-next.invariant.so_far) in
    (sym e, omega (arith, ap length e, c.loop-next.invariant.few))

pub returns-clause-apart : goal.returns-clause-apart
returns-clause-apart g c =
    let a = c.args.answers.now.automaton in
    let s = c.args.answers.now.text in
    apart-of a s c.requires.one c.requires.short c.args.choice c.loop-next.spans.items (subst (Picks c.args.choice a s c.loop-next.spans.items) c.in_default.is c.loop-next.invariant.so_far) c.requires.list
