use Rattle.session_state.proofs.Names.{Appends, length, take, ◌-◌, ◌≡◌, ◌≤◌}
use Rattle.session_state.proofs.sending.offer.Given as goal

abbrev pub invariant-loop-done : goal.invariant-loop-done
invariant-loop-done g l = record {
  within : l.done ≤ length l.piece;
  so_far : Appends (g.K.Sink.written l.fn.out) (g.K.Sink.written l.out) (take l.done l.piece);
  faults : g.K.Sink.faults l.out ≡ g.K.Sink.faults l.fn.out;
  wants : g.K.Sink.wants l.out ≡ g.K.Sink.wants l.fn.out;
}

abbrev pub decreases-loop-done : goal.decreases-loop-done
decreases-loop-done g l = length l.piece - l.done
