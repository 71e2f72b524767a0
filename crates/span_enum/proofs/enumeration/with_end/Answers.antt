use Rattle.span_enum.proofs.Base.{ends_of, get_or}
use Rattle.std.proofs.lemmas.Bool.{some_since}
use Rattle.std.proofs.lemmas.Option.{MatchOption-at_some}
use Rattle.span_enum.proofs.Runs.{final-end, fit-end, member-one}
use Rattle.span_enum.proofs.enumeration.with_end.Goals as goal

-- a final state may end with some mark
pub unwrap-requires : goal.unwrap-requires
unwrap-requires c =
    let mark = get_or (ends_of c.args.dfa.now c.args.q) 0 0 in
    let step = final-end c.args.dfa.now c.args.q c.requires.ends in
    some_since c.greatest_end.result _ _ c.greatest_end.ensures (λ none. none mark (fit-end c.args.dfa.now c.states-states.ensures.automaton c.args.q mark 0 step) 0 step member-one)
