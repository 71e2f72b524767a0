use Rattle.std.proofs.Common.{◌≡◌, ◌+◌, ◌∷◌, [], ap, length, length-append, arith}
use Rattle.span_types.specs.Fibonacci.{looks_limit}
use Rattle.list_all.proofs.Taken.{taken-none, taken-next, taken-all, taken-page, taken-looks, looks-next, looks-most}
use Rattle.list_all.proofs.single.first_answers.Goals as goal

pub loop-given-init : goal.loop-given-init
loop-given-init g c = record {
  taken = rw c.new-tuples.ensures.items (taken-none c.args.answers.now c.requires.start);
  count = ap length c.new-tuples.ensures.items;
  paid = omega arith;
}

pub loop-given-preserved : goal.loop-given-preserved
loop-given-preserved g c =
    let at = c.loop-given in
    let pushed = c.in_ok-push-in-Some.ensures.items in
    let more : length c.push.new.self.items ≡ length at.tuples.items + 1 = rw pushed (omega (arith, length-append at.tuples.items (c.in-Some.tuple ∷ []))) in
    record {
      taken = rw pushed (taken-next c.args.answers.now at.answers at.tuples.items at.invariant.taken c.next.new.self c.in-Some.tuple c.in-Some.ensures.answer c.in-Some.ensures.listing);
      count = omega (arith, more, at.invariant.count);
      paid = looks-next c.args.looks.now at.looks c.next.new.looks (length at.tuples.items) (length c.push.new.self.items) (looks_limit c.args.answers.now.automaton.variables (length c.args.answers.now.text)) at.invariant.paid
          (taken-looks c.args.answers.now at.answers at.tuples.items at.invariant.taken c.next.new.looks at.looks c.in-Some.ensures.cost) more;
    }

pub returns-in_err-push-in-Some-clause-most : goal.returns-in_err-push-in-Some-clause-most
returns-in_err-push-in-Some-clause-most g c =
    let at = c.loop-given in
    looks-most c.args.looks.now at.looks c.next.new.looks (length at.tuples.items) c.args.limit (looks_limit c.args.answers.now.automaton.variables (length c.args.answers.now.text)) at.invariant.paid
    (taken-looks c.args.answers.now at.answers at.tuples.items at.invariant.taken c.next.new.looks at.looks c.in-Some.ensures.cost) (omega (arith, at.invariant.count, c.loop-given-test.true))

pub returns-in-None-clause-page : goal.returns-in-None-clause-page
returns-in-None-clause-page g c =
    let at = c.loop-given in
    taken-all c.args.answers.now at.answers at.tuples.items at.invariant.taken c.requires.list.0 c.requires.list.1 c.args.limit c.in-None.ensures.answer (omega (arith, at.invariant.count, c.loop-given-test.true))

pub returns-in-None-clause-most : goal.returns-in-None-clause-most
returns-in-None-clause-most g c =
    let at = c.loop-given in
    looks-most c.args.looks.now at.looks c.next.new.looks (length at.tuples.items) c.args.limit (looks_limit c.args.answers.now.automaton.variables (length c.args.answers.now.text)) at.invariant.paid
    (taken-looks c.args.answers.now at.answers at.tuples.items at.invariant.taken c.next.new.looks at.looks c.in-None.ensures.cost) (omega (arith, at.invariant.count, c.loop-given-test.true))

pub returns-clause-page : goal.returns-clause-page
returns-clause-page g c =
    let at = c.loop-given in
    rw c.is_some-more.ensures
    (taken-page c.args.answers.now at.answers at.tuples.items at.invariant.taken c.requires.list.0 c.requires.list.1 c.args.limit c.next-2.result c.next-2.ensures.answer (omega (arith, at.invariant.count, c.loop-given-test.false, at.auto._given-end)))
