use Rattle.std.proofs.Common.{◌≡◌, ℕ, ◌+◌, ◌-◌, ◌^◌, ◌≤◌, List, length}
use Rattle.std.specs.Io.KnownBytes.{Consumes}
use Rattle.span_language.specs.Runs.{outside}
use Rattle.session_state.specs.SessionState.{IsSessionModel}
use Rattle.span_session.specs.Lending.{IsSameIo, IsSameMeters}
use Rattle.span_talk.specs.Talk.{AreServed}
use Rattle.script_driver.specs.Position.{conversation}
use Rattle.script_driver.specs.Progress.{IsTalking}
use Rattle.span_talk.proofs.hearing.hear_all.Given as goal

abbrev pub invariant-pieces : goal.invariant-pieces
invariant-pieces g l = record {
  same_io : IsSameIo l.fn.io l.io;
  same_meters : IsSameMeters l.fn.meters l.meters;
  so_far : (bytes : List ℕ) × Consumes (g.C.Client.left l.fn.client) (g.C.Client.left l.client) bytes × (l.heard ≡ length bytes)
      × IsTalking bytes l.states (outside (g.K.Sink.written l.fn.io.out.now) (g.F.Shelf.files l.fn.io.shelf.now) l.fn.meters.looks.now l.fn.meters.pairs.now l.fn.meters.places.now) l.progress.kept.items
      (conversation l.progress.number l.progress.refused l.progress.session (outside (g.K.Sink.written l.io.out.now) (g.F.Shelf.files l.io.shelf.now) l.meters.looks.now l.meters.pairs.now l.meters.places.now));
  model : IsSessionModel l.progress.session;
  next : l.progress.number ≤ 1 + l.heard;
  kept : length l.progress.kept.items ≤ 65537;
  served : AreServed (g.C.Client.left l.fn.client) l.states (outside (g.K.Sink.written l.fn.io.out.now) (g.F.Shelf.files l.fn.io.shelf.now) l.fn.meters.looks.now l.fn.meters.pairs.now l.fn.meters.places.now) (g.C.Client.moments l.fn.client) (g.C.Client.moments l.client);
  client_faults : g.C.Client.faults l.client ≡ g.C.Client.faults l.fn.client;
  faults : g.K.Sink.faults l.io.out.now ≡ g.K.Sink.faults l.fn.io.out.now;
  wants : g.K.Sink.wants l.io.out.now ≡ g.K.Sink.wants l.fn.io.out.now;
  shelf_faults : g.F.Shelf.faults l.io.shelf.now ≡ g.F.Shelf.faults l.fn.io.shelf.now;
  gone : g.K.Sink.kept l.fn.io.out.now ≡ 0 → g.K.Sink.kept l.io.out.now ≡ 0;
}

abbrev pub decreases-pieces : goal.decreases-pieces
decreases-pieces g l = 2 ^ 62 - l.heard
