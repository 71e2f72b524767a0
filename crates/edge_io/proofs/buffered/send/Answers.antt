use Rattle.std.proofs.Common.{◌≡◌, arith}
use Rattle.edge_io.proofs.Known.{rest_kept}
use Rattle.edge_io.proofs.buffered.send.Goals as goal

pub returns-clause-kept : goal.returns-clause-kept
returns-clause-kept g c =
    rest_kept (g.K.Sink.written c.args.sink.now) (g.K.Sink.written c.send_from-done.new.sink) c.args.kept.now.items c.deref.result.now c.rotate_left.new.self.items c.truncate.new.self.items c.send_from-done.new.sent _
    c.deref.ensures.value c.send_from-done.ensures.bytes c.rotate_left.ensures.items c.truncate.ensures.items (omega (arith, c.len.ensures, c.rotate_left.ensures.len))
