use Rattle.std.proofs.Common.{◌≡◌, ◌+◌, ◌-◌, ◌∙◌, ◌++◌, take, drop, length, arith, sym, ap, subst, List, ℕ, length-drop}
use Rattle.std.proofs.lemmas.List.{length-take, take_rest}
use Rattle.std.proofs.Math.Seq.{take-add}
use Rattle.std.specs.Io.KnownBytes.{Appends}
use Rattle.edge_io.proofs.Known.{appends_twice}
use Rattle.edge_io.proofs.buffered.send_from.Goals as goal

pub loop-sent-preserved : goal.loop-sent-preserved
loop-sent-preserved g c =
    let bytes = c.args.bytes.now in
    let sent = c.loop-sent.sent in
    let n = c.in_ok-sent.field-0 in
    let rest = take_rest bytes sent in
    let now = g.K.Sink.written c.write.new.self in
    let step : Appends (g.K.Sink.written c.loop-sent.sink) now (take n (drop sent bytes)) =
    subst (λ (l : List ℕ). Appends (g.K.Sink.written c.loop-sent.sink) now (take n l)) rest c.in_ok-sent.ensures.bytes in record {
      bound = omega (arith, c.in_ok-sent.ensures.bound, ap length rest, length-drop sent bytes, c.loop-sent.invariant.bound);
      out = subst (λ (l : List ℕ). Appends (g.K.Sink.written c.args.sink.now) now l) (sym (take-add sent n bytes))
          (appends_twice (g.K.Sink.written c.args.sink.now) (g.K.Sink.written c.loop-sent.sink) now (take sent bytes) (take n (drop sent bytes)) c.loop-sent.invariant.out step);
      faults = c.in_ok-sent.ensures.cause.kept.0 ∙ c.loop-sent.invariant.faults;
      wants = c.in_ok-sent.ensures.cause.kept.1 ∙ c.loop-sent.invariant.wants;
    }
