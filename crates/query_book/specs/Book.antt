-- A registry of queries.
use Rattle.std.specs.Prelude.{◌≡◌, ℕ, cond, List, [], ◌∷◌, map, Option, Some, None}
use Rattle.span_types.specs.Query.{Query, query_of}
use Rattle.query_book.specs.declared.entry.Entry.{Entry}
use Rattle.query_book.specs.declared.entry.TabledQuery.{TabledQuery}
use Rattle.query_book.specs.declared.refusal.BookRefusal.{BookRefusal}
use Rattle.query_book.specs.declared.refusal.BookRefusal.TheVariants.{NoSuchQuery}
use Rattle.query_book.specs.Named.{Named, is_same, value_of}

-- what contracts see of a registry: the maximum number of states of a query's automaton, and the entries, in the order in
-- which their names were added
pub record Book : Type 0 where
  pub states : ℕ
  pub entries : List Entry

-- the entry of this name and this query
abbrev pub entry : List ℕ × TabledQuery → Entry
entry p = record { name = p.0; tabled = p.1 }

-- the entries of queries by name
abbrev pub entries_of : Named TabledQuery → List Entry
entries_of ps = map entry ps

-- the registry of queries by name
abbrev pub book_of : ℕ → Named TabledQuery → Book
book_of most ps = record { states = most; entries = entries_of ps }

-- the queries by name
abbrev pub queries_in : List Entry → Named Query
queries_in es = map (λ e. (e.name, query_of e.tabled.query.tree)) es

abbrev pub queries_of : Book → Named Query
queries_of book = queries_in book.entries

-- no query has the name, and the rejection is that
pub record IsMissing (queries : Named Query) (name : List ℕ) (why : BookRefusal) : Type 0 where
  pub none : value_of queries name ≡ None
  pub refusal : why ≡ NoSuchQuery

-- the query with this name and its tables
abbrev pub tabled_in : List Entry → List ℕ → Option TabledQuery
tabled_in [] name = None
tabled_in (e ∷ es) name = cond (is_same name e.name) (Some e.tabled) (tabled_in es name)

abbrev pub tabled_of : Book → List ℕ → Option TabledQuery
tabled_of book name = tabled_in book.entries name

-- an existing name keeps its index and gets the entry, and a new name goes last
abbrev pub with_entry : List Entry → Entry → List Entry
with_entry [] x = x ∷ []
with_entry (e ∷ es) x = cond (is_same x.name e.name) (x ∷ es) (e ∷ with_entry es x)

-- the entries without the one with this name
abbrev pub without_entry : List Entry → List ℕ → List Entry
without_entry [] name = []
without_entry (e ∷ es) name = cond (is_same name e.name) es (e ∷ without_entry es name)
