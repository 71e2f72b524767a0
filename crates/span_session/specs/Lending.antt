-- What is observable through records of references, and what is the same in them before and after a call: each refers to
-- the same value. The value may change.
use Rattle.std.specs.Prelude.{◌≡◌, ℕ, List, Option}
use Rattle.edge_io.specs.Files.{Files}
use Rattle.session_state.specs.Carried.{Outlet, outlet}
use Rattle.session_state.specs.LineState.{LineState, seen}
use Rattle.session_state.specs.SessionState.{SessionModel}
use Rattle.span_language.specs.Runs.{Outside, outside}
use Rattle.span_session.specs.declared.lending.Io.{Io}
use Rattle.span_session.specs.declared.lending.Meters.{Meters}

-- the same sink and the same file store
pub record IsSameIo {K F : Type 0} (old new : Io K F) : Type 0 where
  pub out : new.out.ghost_name ≡ old.out.ghost_name
  pub shelf : new.shelf.ghost_name ≡ old.shelf.ghost_name

-- the same counters
pub record IsSameMeters {P T L : Type 0} (old new : Meters P T L) : Type 0 where
  pub pairs : new.pairs.ghost_name ≡ old.pairs.ghost_name
  pub places : new.places.ghost_name ≡ old.places.ghost_name
  pub looks : new.looks.ghost_name ≡ old.looks.ghost_name

-- the sink, by what it has written, and its failures and allocation failures
abbrev pub outlet_through : {K F : Type 0} → (K → Option (List ℕ)) → (K → ℕ) → (K → ℕ) → Io K F → Outlet
outlet_through written faults wants io = outlet (written io.out.now) (faults io.out.now) (wants io.out.now)

-- what is observable of the environment
abbrev pub outside_through : {K F P T L : Type 0} → (K → Option (List ℕ)) → (F → Option Files) → Io K F → Meters P T L → Outside
outside_through written files io meters =
    outside (written io.out.now) (files io.shelf.now) meters.looks.now meters.pairs.now meters.places.now

-- a session with this model as the caller of a line sees it
abbrev pub seen_through : {K F P T L : Type 0} → (F → Option Files) → (F → ℕ) → SessionModel → Io K F → Meters P T L → LineState
seen_through files faults model io meters =
    seen model (files io.shelf.now) (faults io.shelf.now) meters.looks.now meters.pairs.now meters.places.now
