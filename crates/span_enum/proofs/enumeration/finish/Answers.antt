use Rattle.span_enum.proofs.Base.{IsGreatestMark, ap, is_final, states_of, subst, sym, true, write-nothing, ◌<◌, ◌∙◌, ◌≡◌}
use Rattle.span_enum.proofs.enumeration.finish.Goals as goal

pub with_end-requires-clause-ends : goal.with_end-requires-clause-ends
with_end-requires-clause-ends g c =
    let input = c.args.input.now in
    let found = c.in-Some.ensures.completes c.requires.finish.0 c.requires.finish.1 in
    let final : is_final input.dfa.now found.state ≡ true = sym (c.requires.input.all found.state (subst (λ n. n < states_of input.dfa.now) found.ends c.in-Some.ensures.within)) ∙ found.first.goal in
    ap (is_final input.dfa.now) found.ends ∙ final

pub returns-in-Some-clause-finishes : goal.returns-in-Some-clause-finishes
returns-in-Some-clause-finishes g c = record {
  written = c.complete-state.new.out;
  mark = c.with_end.ensures.0;
  completes = c.in-Some.ensures.completes;
  greatest = λ q e. subst (λ n. IsGreatestMark c.args.input.now.dfa.now n 256 1 65536 c.with_end.ensures.0 0) e c.with_end.ensures.2;
  tuple_is = c.with_end.ensures.1;
}

pub returns-in-None-clause-finishes : goal.returns-in-None-clause-finishes
returns-in-None-clause-finishes g c = record {
  written = c.complete-state.new.out;
  mark = 0;
  completes = c.complete-state.ensures.completes;
  greatest = λ q e. (rw c.in-None.is at e);
  tuple_is = sym (write-nothing c.args.end c.complete-state.new.out);
}
