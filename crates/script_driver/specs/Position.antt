-- The position of a run between two lines.
use Rattle.std.specs.Prelude.{◌≡◌, ℕ, ◌+◌, ◌*◌, ◌≤◌, Bool, List, length}
use Rattle.std.specs.Io.KnownBytes.{Appends}
use Rattle.span_language.specs.State.{world}
use Rattle.span_language.specs.Allowance.{IsPaid}
use Rattle.span_language.specs.Runs.{Outside, Runs, Sum, start}
use Rattle.span_language.specs.Counts.{PlacesSoFar}
use Rattle.session_state.specs.SessionState.{SessionModel, nodes_of, pairs_of, tables_in}

-- the number of the next line, whether one was rejected, the session's model, and what is observable of the environment
pub record ConversationState : Type 0 where
  pub number : ℕ
  pub refused : Bool
  pub model : SessionModel
  pub now : Outside

abbrev pub conversation : ℕ → Bool → SessionModel → Outside → ConversationState
conversation number refused model now = record { number = number; refused = refused; model = model; now = now }

-- these lines ran, their output was written, and they resulted in this state
pub record ReachesState (lines : List (List ℕ)) (most : ℕ) (before : Outside) (p : ConversationState) : Type 0 where
  pub counted : p.number ≡ 1 + length lines
  pub sum : Sum
  pub ran : Runs (start most before) 1 lines sum (world p.model.state p.now.files)
  pub refused_is : sum.refused ≡ p.refused
  pub wrote : Appends before.written p.now.written sum.output
  pub paid : IsPaid sum.cost before.counters p.now.counters
  pub dropped : ℕ
  pub placed : PlacesSoFar sum.counted sum.queries dropped (nodes_of p.model) (tables_in p.model) before.places p.now.places
  pub grown : pairs_of p.model + dropped + before.counters.pairs ≤ p.now.counters.pairs + 256 * sum.compactions
