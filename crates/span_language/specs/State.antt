-- The state that the lines of a script change.
use Rattle.std.specs.Prelude.{ℕ, List, [], Option, refl}
pub use Rattle.name_map.specs.Named.{Named, is_same, value_of, put, taken_out}
use Rattle.span_types.specs.Query.{Query}
use Rattle.std.specs.Coded.{Coded, code_by, coded_ℕ, coded_list, coded×}
use Rattle.span_types.specs.Codes.{query_code}
use Rattle.edge_io.specs.Files.{Files}

-- documents with their texts
abbrev pub Documents : Type 0
Documents = Named (List ℕ)

-- the state of a session: how many states the automaton of a query may have, documents, queries and versions
pub record State : Type 0 where
  pub most_states : ℕ
  pub documents : Documents
  pub queries : Named Query
  pub versions : Named Documents

abbrev documents_code : Coded Documents
documents_code = coded_list (coded× (coded_list coded_ℕ) (coded_list coded_ℕ))

-- a state is encoded as its number and its three lists
abbrev pub state_code : Coded State
state_code = code_by (ℕ × (Documents × (Named Query × Named Documents)))
    (coded× coded_ℕ (coded× documents_code (coded× (coded_list (coded× (coded_list coded_ℕ) query_code)) (coded_list (coded× (coded_list coded_ℕ) documents_code)))))
    (λ s. (s.most_states, (s.documents, (s.queries, s.versions)))) (λ p. record { most_states = p.0; documents = p.1.0; queries = p.1.1.0; versions = p.1.1.1 }) (λ _. refl)

-- the state, and the files if they are observable
pub record World : Type 0 where
  pub state : State
  pub files : Option Files

-- a state with the files outside, if they are known
abbrev pub world : State → Option Files → World
world state files = record { state = state; files = files }

-- no documents, queries and versions
abbrev pub nothing : ℕ → State
nothing most = record { most_states = most; documents = []; queries = []; versions = [] }

-- the state with other documents
abbrev pub with_documents : State → Documents → State
with_documents st documents = record { most_states = st.most_states; documents = documents; queries = st.queries; versions = st.versions }

-- the state with other queries
abbrev pub with_queries : State → Named Query → State
with_queries st queries = record { most_states = st.most_states; documents = st.documents; queries = queries; versions = st.versions }

-- the state with other versions
abbrev pub with_versions : State → Named Documents → State
with_versions st versions = record { most_states = st.most_states; documents = st.documents; queries = st.queries; versions = versions }
