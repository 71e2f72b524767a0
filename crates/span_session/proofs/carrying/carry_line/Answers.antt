use Rattle.span_session.proofs.Facts.{line_done, line_stopped}
use Rattle.span_session.proofs.carrying.carry_line.Goals as goal

pub returns-clause-done : goal.returns-clause-done
returns-clause-done g c =
    let e = c.send_out.ensures in
    line_done _ _ _ _ _ _ _ c.args.io.now.out.now _ _ _ c.send_out.result e.told e.quiet e.written e.sound c.in_ok-told.ensures.done

pub returns-clause-stopped : goal.returns-clause-stopped
returns-clause-stopped g c =
    let e = c.send_out.ensures in
    line_stopped _ _ _ _ _ _ _ c.args.io.now.out.now _ _ _ c.send_out.result e.told e.quiet e.written e.later.0 e.later.1 e.fault e.want e.no_shelf c.in_ok-told.ensures.done
