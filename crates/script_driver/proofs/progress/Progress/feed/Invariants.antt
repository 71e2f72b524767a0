use Rattle.std.proofs.Common.{◌≡◌, ℕ, ◌+◌, ◌≤◌, List, ◌++◌, length}
use Rattle.span_language.specs.Runs.{outside}
use Rattle.session_state.specs.SessionState.{IsSessionModel}
use Rattle.span_session.specs.Lending.{IsSameIo, IsSameMeters}
use Rattle.script_driver.specs.Position.{conversation}
use Rattle.script_driver.specs.Progress.{Hears}
use Rattle.script_driver.proofs.progress.Progress.feed.Given as goal

abbrev pub invariant-lines : goal.invariant-lines
invariant-lines g l = record {
  same_io : IsSameIo l.fn.io l.io;
  same_meters : IsSameMeters l.fn.meters l.meters;
  so_far : (read : List ℕ) × (l.piece ≡ read ++ l.rest)
      × Hears read l.fn.self.kept.items (conversation l.fn.self.number l.fn.self.refused l.fn.self.session (outside (g.K.Sink.written l.fn.io.out.now) (g.F.Shelf.files l.fn.io.shelf.now) l.fn.meters.looks.now l.fn.meters.pairs.now l.fn.meters.places.now))
      l.self.kept.items (conversation l.self.number l.self.refused l.self.session (outside (g.K.Sink.written l.io.out.now) (g.F.Shelf.files l.io.shelf.now) l.meters.looks.now l.meters.pairs.now l.meters.places.now));
  model : IsSessionModel l.self.session;
  next : l.self.number + length l.rest ≤ l.fn.self.number + length l.piece;
  kept : length l.self.kept.items ≤ 65537;
  faults : g.K.Sink.faults l.io.out.now ≡ g.K.Sink.faults l.fn.io.out.now;
  wants : g.K.Sink.wants l.io.out.now ≡ g.K.Sink.wants l.fn.io.out.now;
  shelf_faults : g.F.Shelf.faults l.io.shelf.now ≡ g.F.Shelf.faults l.fn.io.shelf.now;
  gone : g.K.Sink.kept l.fn.io.out.now ≡ 0 → g.K.Sink.kept l.io.out.now ≡ 0;
}

abbrev pub decreases-lines : goal.decreases-lines
decreases-lines g l = length l.rest
