-- The state of a session, and its model.
use Rattle.std.specs.Prelude.{ℕ, ◌++◌, ◌+◌, ◌<◌, ◌≤◌, List, length, Option}
use Rattle.std.specs.List.{AllByRecursion}
use Rattle.slp_model.specs.declared.NodeId.{NodeId}
use Rattle.slp_model.specs.declared.Node.{Node}
use Rattle.slp_model.specs.Nodes.{pair_count}
use Rattle.slp_model.specs.Thin.{AnyReaches}
use Rattle.doc_book.specs.Texts.{AreLive, plain}
pub use Rattle.doc_book.specs.Docs.{roots_of}
pub use Rattle.doc_versions.specs.Texts.{AreKept, plain_versions, version_roots}
use Rattle.query_book.specs.Book.{queries_of}
use Rattle.query_book.specs.Serving.{Serves, Tabled, counted_of, covered_of}
use Rattle.span_language.specs.State.{State, Named}
use Rattle.session_state.specs.declared.session.SessionState.{SessionState}

-- the plain state that it represents
abbrev pub state_of : SessionState → State
state_of h = record { most_states = h.book.states; documents = plain h.store h.docs; queries = queries_of h.book; versions = plain_versions h.store h.versions }

-- the invariant between commands: the roots of the documents and of the versions are in the store, and the tables are
-- those of its nodes
pub record IsConsistent (h : SessionState) : Type 0 where
  pub live : AreLive h.store h.docs
  pub kept : AreKept h.store h.versions
  pub serves : Serves h.store h.book

-- the model of a session: its plain state, the nodes of its store, the roots of its documents and of its versions, and
-- for each query the number of nodes that have tables, and of those that have counting tables
pub record SessionModel : Type 0 where
  pub state : State
  pub store : List Node
  pub roots : List (Option NodeId)
  pub covered : Named ℕ
  pub counted : Named ℕ

abbrev pub model_of : SessionState → SessionModel
model_of h = record { state = state_of h; store = h.store; roots = roots_of h.docs ++ version_roots h.versions; covered = covered_of h.book; counted = counted_of h.book }

-- both numbers for each query
abbrev pub tables_in : SessionModel → Tabled
tables_in s = record { covered = s.covered; counted = s.counted }

-- the number of nodes, and the number of those that are pairs
abbrev pub nodes_of : SessionModel → ℕ
nodes_of s = length s.store

abbrev pub pairs_of : SessionModel → ℕ
pairs_of s = pair_count s.store

-- what holds of every session: a store has at most 256 nodes that are no pairs, and each table and each counting table is
-- that of a node
pub record IsSessionModel (s : SessionModel) : Type 0 where
  pub few : nodes_of s ≤ 256 + pairs_of s
  pub within : AllByRecursion (λ p. p.1 ≤ nodes_of s) s.covered
  pub counts_within : AllByRecursion (λ p. p.1 ≤ nodes_of s) s.counted

-- each node is reachable from a document, or from a document of a version
abbrev pub IsCompact : SessionModel → Type 0
IsCompact s = (j : ℕ) → j < nodes_of s → AnyReaches s.store s.roots j
