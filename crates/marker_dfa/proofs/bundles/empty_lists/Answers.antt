use Rattle.std.proofs.Common.{arith}
use Rattle.marker_dfa.specs.Bundled.{automaton_in}
use Rattle.marker_dfa.proofs.BySource.{none_more, none_end}
use Rattle.marker_dfa.proofs.bundles.empty_lists.Goals as goal

pub loop-state-preserved : goal.loop-state-preserved
loop-state-preserved c = rw c.in_ok-push.ensures.items (none_more c.loop-state._state c.loop-state.lists.items c.new.result c.new.ensures.items c.loop-state.invariant)

pub returns : goal.returns
returns c = none_end (automaton_in c.args.nfa.now) c.loop-state._state c.loop-state.lists.items (omega (arith, c.loop-state-test.false, c.loop-state.auto._state-end)) c.loop-state.invariant
