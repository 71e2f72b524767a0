-- The state of a run between commands.
use Rattle.std.specs.Prelude.{ℕ, Option}
use Rattle.edge_io.specs.Files.{Files}
use Rattle.span_language.specs.State.{World, world}
use Rattle.span_language.specs.Allowance.{Counters, counters}
use Rattle.session_state.specs.declared.session.SessionState.{SessionState}
use Rattle.session_state.specs.SessionState.{state_of}

-- the session's state, the files if they are observable, the number of failures of the file store, and the counters of
-- table lookups, node constructions and computed tables
pub record CommandState : Type 0 where
  pub session : SessionState
  pub files : Option Files
  pub faults : ℕ
  pub looks : ℕ
  pub pairs : ℕ
  pub places : ℕ

abbrev pub at : SessionState → Option Files → ℕ → ℕ → ℕ → ℕ → CommandState
at session files faults looks pairs places = record { session = session; files = files; faults = faults; looks = looks; pairs = pairs; places = places }

abbrev pub world_at : CommandState → World
world_at s = world (state_of s.session) s.files

abbrev pub counters_at : CommandState → Counters
counters_at s = counters s.looks s.pairs
