-- A state between commands, as callers of a session see it.
use Rattle.std.specs.Prelude.{◌≡◌, ℕ, Bool, true, List, ◌+◌, ◌*◌, ◌≤◌, Option}
use Rattle.edge_io.specs.Files.{Files}
use Rattle.slp_model.specs.Thin.{IsCompactionOf}
use Rattle.query_book.specs.Renumbering.{ranked}
use Rattle.span_language.specs.State.{World, world}
use Rattle.span_language.specs.Allowance.{Counters, counters}
use Rattle.span_language.specs.Counts.{IsOnce, PlacesOfBoth}
use Rattle.span_language.specs.declared.told.Told.{Told}
use Rattle.session_state.specs.SessionState.{IsCompact, SessionModel, nodes_of, pairs_of, model_of, tables_in}
use Rattle.session_state.specs.CommandState.{CommandState}

-- the model of the session, the files if they are observable, the number of failures of the file store, and the
-- counters
pub record LineState : Type 0 where
  pub model : SessionModel
  pub files : Option Files
  pub faults : ℕ
  pub looks : ℕ
  pub pairs : ℕ
  pub places : ℕ

abbrev pub seen : SessionModel → Option Files → ℕ → ℕ → ℕ → ℕ → LineState
seen model files faults looks pairs places =
    record { model = model; files = files; faults = faults; looks = looks; pairs = pairs; places = places }

abbrev pub line_state : CommandState → LineState
line_state s = seen (model_of s.session) s.files s.faults s.looks s.pairs s.places

abbrev pub world_in : LineState → World
world_in s = world s.model.state s.files

abbrev pub counters_in : LineState → Counters
counters_in s = counters s.looks s.pairs

-- the store has the kept nodes, and each query has the tables and the counting tables that it had for these
pub record KeepsTables (old new : SessionModel) : Type 0 where
  pub keep : List Bool
  pub thin : IsCompactionOf old.store keep new.store
  pub covered : new.covered ≡ ranked keep old.covered
  pub counted : new.counted ≡ ranked keep old.counted

-- the effect of a line on nodes, pairs and tables, if it may register a query, compact or ask for counting tables. Only an
-- accepted line that compacts drops nodes, and apart from pairs it drops at most the 256 bytes. Each node that is left is
-- then reachable from a document or a version, and keeps its tables.
pub record Tallies (registers compacts asks : Type 0) (told : Told) (old new : LineState) : Type 0 where
  pub queries : ℕ
  pub registered : IsOnce registers told queries
  pub compactions : ℕ
  pub compacted : IsOnce compacts told compactions
  pub dropped : ℕ
  pub none_dropped : compactions ≡ 0 → dropped ≡ 0
  pub nodes : nodes_of old.model ≤ nodes_of new.model + dropped
  pub reached : compactions ≡ 1 → IsCompact new.model
  pub kept : compactions ≡ 1 → KeepsTables old.model new.model
  pub pairs : pairs_of new.model + dropped + old.pairs ≤ pairs_of old.model + new.pairs + 256 * compactions
  pub counts : Bool
  pub asked : counts ≡ true → asks
  pub placed : PlacesOfBoth counts queries dropped (nodes_of new.model) (tables_in old.model) (tables_in new.model) old.places new.places
