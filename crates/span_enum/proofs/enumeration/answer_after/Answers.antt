use Rattle.span_enum.proofs.Base.{HasRoom, NoEndAfter, Some, ap, arith, blanks, length, whole_text, write_mark, write_word, ◌++◌, ◌+◌, ◌∙◌}
use Rattle.span_enum.proofs.Roots.{input-text}
use Rattle.span_enum.proofs.Answerings.{answer-found, next-ended, none-ended, trail-same}
use Rattle.span_enum.proofs.enumeration.answer_after.Goals as goal

pub returns-in-Some-clause-answer : goal.returns-in-Some-clause-answer
returns-in-Some-clause-answer g c =
    let found = c.in-Some.ensures in
    let trail = trail-same c.args.input.now c.args.t.now c.in-Some.found.tuple c.args.trail.now.marks.items c.args.trail.now.ahead.items found.same c.requires.trail in
    (record { first = found.first; trail = trail; state = found.state }, omega arith)

pub returns-in_err-lowered-clause-answer : goal.returns-in_err-lowered-clause-answer
returns-in_err-lowered-clause-answer g c =
    let input = c.args.input.now in
    let text = input-text input c.requires.input (omega (arith, c.requires.end, c.requires.low)) in
    rw c.from_residual.ensures (
      record {
        none = none-ended input c.requires.input text c.args.t.now (rw c.requires.end at c.in_default.ensures) (record { size = c.requires.tuple; valid = c.count-count.ensures.tuple }) c.in_err-lowered.ensures.lowers;
        trail = c.in_err-lowered.ensures.trail;
      },
      omega arith,
    )

pub finish-requires : goal.finish-requires
finish-requires g c =
    let room : HasRoom c.args.input.now.dfa.now.variables c.lower_to-turn.new.trail.marks.capacity c.lower_to-turn.new.trail.ahead.capacity = record {
      marks_fit = omega (arith, c.requires.room.marks_fit, c.lower_to-turn.ensures.marks_room, c.in_ok-lowered.ensures.marks_room);
      ahead_fits = omega (arith, c.requires.room.ahead_fits, c.lower_to-turn.ensures.ahead_room, c.in_ok-lowered.ensures.ahead_room);
    } in
    (omega (arith, c.requires.input.narrow), (omega (arith, c.requires.input.narrow), (c.requires.input, (c.requires.end, (c.requires.low, ((c.lower_to-turn.ensures.turned.word, c.lower_to-turn.ensures.turned.begins), room))))))

pub returns-clause-answer : goal.returns-clause-answer
returns-clause-answer g c =
    let input = c.args.input.now in
    let text = input-text input c.requires.input (omega (arith, c.requires.end, c.requires.low)) in
    let l = c.in_ok-lowered.lowered in
    let turned = c.lower_to-turn.ensures.turned in
    let tuple = c.count-count.ensures.tuple in
    let noend : NoEndAfter input c.args.t.now (length (whole_text input) + 1) = rw c.requires.end at c.in_default.ensures in
    answer-found input c.requires.input text (Some c.args.t.now) (record { size = c.requires.tuple; valid = tuple }) _ _ turned.word _ _ c.args.end _ _ _ _ c.with_mark-marks.result c.finish.result turned.begins
    (c.with_mark-marks.ensures.value ∙ ap (write_mark l.mark l.at) c.cut_at.ensures ∙ turned.written tuple.spans ∙ ap (λ k. write_word 1 turned.word (blanks k)) c.requires.tuple) c.requires.end
    (λ w r e first best. next-ended input c.requires.input text c.args.t.now noend (turned.word ++ w) r e (turned.next w r first) best) c.finish.ensures.finishes
