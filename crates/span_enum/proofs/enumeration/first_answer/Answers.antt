use Rattle.span_enum.proofs.Base.{Begins, IsFirst, None, [], ap, arith, blanks, false, refl, subst, sym, true≢false, ◌∙◌}
use Rattle.span_enum.proofs.Roots.{fresh-begins, input-text, text-short}
use Rattle.span_enum.proofs.Runs.{run-from_accepted}
use Rattle.span_enum.proofs.Tuples.{none-member}
use Rattle.span_enum.proofs.Answerings.{answer-found, first-ended}
use Rattle.span_enum.proofs.enumeration.first_answer.Given.{Over}
use Rattle.span_enum.proofs.enumeration.first_answer.Goals.{After-len-count}
use Rattle.span_enum.proofs.enumeration.first_answer.Goals as goal

pub returns-then-not-has_first-clause-answer : goal.returns-then-not-has_first-clause-answer
returns-then-not-has_first-clause-answer g c =
    let input = c.args.input.now in
    let text = input-text input c.requires.input (text-short input _ _ c.requires.fresh) in (
      record {
        none = none-member input.dfa.now c.requires.input.automaton _ text None tt (λ run. true≢false (sym (c.if-not-has_first.ensures.1 (run-from_accepted input.dfa.now c.requires.input.automaton input.finals c.requires.input.all _ run))));
        trail = c.requires.fresh;
      },
      omega arith,
    )

-- the walk is before the first letter
begins : (g : Over) (c : After-len-count g) → Begins c.args.input.now (record { state = 0; next = c.len-count.result; quiet = false }) c.len-count.result [] c.args.trail.now.marks.items c.args.trail.now.ahead.items
begins g c = fresh-begins c.args.input.now c.args.trail.now.marks.items c.args.trail.now.ahead.items c.len-count.result c.requires.fresh c.len-count.ensures.value (c.if-not-has_first.ensures.0 refl)

pub finish-requires : goal.finish-requires
finish-requires g c =
    let low = text-short c.args.input.now _ _ c.requires.fresh in
    (omega (arith, c.requires.input.narrow), (omega (arith, c.requires.input.narrow), (c.requires.input, (c.requires.end, (omega (arith, low, c.requires.end), (([], begins g (goal.at.finish-requires g c).After-len-count), c.requires.room))))))

pub returns-clause-answer : goal.returns-clause-answer
returns-clause-answer g c =
    let input = c.args.input.now in
    let fresh = c.requires.fresh in
    let text = input-text input c.requires.input (text-short input _ _ fresh) in
    let b = begins g (goal.at.returns-clause-answer g c).After-len-count in
    answer-found input c.requires.input text None tt _ _ [] _ _ c.args.end _ _ _ _ c.none-none.result c.finish.result b (c.none-none.ensures ∙ ap blanks c.variables.ensures.value) c.requires.end
    (λ w r e first best. first-ended input c.requires.input text w r e (subst (λ x. IsFirst input.dfa.now 0 x input.finals w r) (sym b.behind.leads.parts) first) best) c.finish.ensures.finishes
