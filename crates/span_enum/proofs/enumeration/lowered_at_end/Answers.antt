use Rattle.span_enum.proofs.Base.{Some, ap, arith, reached, whole_text, word_over, write_mark, ◌∙◌, ◌≡◌}
use Rattle.span_enum.proofs.Roots.{input-text}
use Rattle.span_enum.proofs.Runs.{run-within}
use Rattle.span_enum.proofs.Answerings.{lowered-end}
use Rattle.span_enum.proofs.enumeration.lowered_at_end.Goals as goal

pub greatest_end-requires : goal.greatest_end-requires
greatest_end-requires g c =
    let input = c.args.input.now in
    let run : reached input.dfa.now 0 (word_over c.args.t.now 1 (whole_text input)) ≡ Some c.in_ok-q.q = rw c.in_ok-q.was at c.requires.state in
    run-within input.dfa.now c.requires.input.automaton 0 c.in_ok-q.q (word_over c.args.t.now 1 (whole_text input)) c.requires.input.automaton.has_start run

pub returns : goal.returns
returns g c =
    let text = input-text c.args.input.now c.requires.input (omega (arith, c.requires.end, c.requires.low)) in
    let greatest = rw c.end_limit.ensures at c.in_ok-mark.ensures in
    let found = lowered-end c.args.input.now c.requires.input text c.args.t.now c.with_mark.result (record { size = c.requires.tuple; valid = c.count-count.ensures.tuple }) c.in_ok-q.q c.in_ok-mark.mark
    (rw c.in_ok-q.was at c.requires.state) (rw c.requires.end at greatest) (rw c.requires.end at (c.with_mark.ensures.value ∙ ap (write_mark c.in_ok-mark.mark c.args.end) c.cut_at.ensures)) in
    rw c.in_ok-q.was (record { first = found.0; same = found.1; state = found.2 })
