use Rattle.session_state.proofs.Names.{ap, Appends, arith, drop, length, length-drop, List, subst, take, take_all, ℕ, ◌-◌, ◌∙◌, ◌≡◌}
use Rattle.session_state.proofs.Facts.{more_of_piece}
use Rattle.session_state.proofs.sending.offer.Goals as goal

pub loop-done-preserved : goal.loop-done-preserved
loop-done-preserved g c =
    let piece = c.args.piece.now in
    let done = c.loop-done.done in
    let whole : take (length piece - done) (drop done piece) ≡ drop done piece = take_all (length piece - done) (drop done piece) (omega (arith, length-drop done piece)) in
    let wrote : Appends (g.K.Sink.written c.loop-done.out) (g.K.Sink.written c.write.new.self) (take c.in-Ok.count (drop done piece)) =
    subst (λ (l : List ℕ). Appends (g.K.Sink.written c.loop-done.out) (g.K.Sink.written c.write.new.self) (take c.in-Ok.count l)) whole c.in-Ok.ensures.bytes in
    record {
      within = omega (arith, c.in-Ok.ensures.bound, ap length whole, length-drop done piece, c.loop-done-test.true);
      so_far = more_of_piece _ _ _ piece done c.in-Ok.count c.loop-done.invariant.so_far wrote;
      faults = c.in-Ok.ensures.cause.kept.0 ∙ c.loop-done.invariant.faults;
      wants = c.in-Ok.ensures.cause.kept.1 ∙ c.loop-done.invariant.wants;
    }
