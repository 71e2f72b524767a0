-- Which nodes of a store have tables in a registry.
use Rattle.std.specs.Prelude.{◌≡◌, ◌⊎◌, ℕ, ◌+◌, ◌≤◌, List, [], ◌∷◌, length, map, Some, IfSome}
use Rattle.std.specs.List.{AllByRecursion}
use Rattle.slp_model.specs.declared.Node.{Node}
use Rattle.state_tables.specs.Dictionary.{AreTables, count_of}
use Rattle.query_book.specs.declared.entry.Entry.{Entry}
use Rattle.query_book.specs.declared.entry.TabledQuery.{TabledQuery}
use Rattle.query_book.specs.Named.{Named}
use Rattle.query_book.specs.Book.{Book, tabled_of}
use Rattle.query_book.specs.Counting.{AreFirstCounts, counted, counts_in}

-- the query's tables are those of the first nodes of the list, and so are its counting tables, if it has some
pub record IsServed (ns : List Node) (t : TabledQuery) : Type 0 where
  pub covered : count_of t.tables ≤ length ns
  pub tables : AreTables t.query.dfa ns t.tables
  pub counts : IfSome t.counts (AreFirstCounts t.query.dfa ns)

-- in each query the tables and the counting tables are those of first nodes of the list
abbrev pub AreServed : List Node → List Entry → Type 0
AreServed ns es = AllByRecursion (λ e. IsServed ns e.tabled) es

abbrev pub Serves : List Node → Book → Type 0
Serves ns book = AreServed ns book.entries

-- the number of nodes with tables in each query, by name
abbrev pub covered_in : List Entry → Named ℕ
covered_in es = map (λ e. (e.name, count_of e.tabled.tables)) es

abbrev pub covered_of : Book → Named ℕ
covered_of book = covered_in book.entries

-- the number of nodes with counting tables in each query, by name
abbrev pub counted_in : List Entry → Named ℕ
counted_in es = map (λ e. (e.name, counted e.tabled)) es

abbrev pub counted_of : Book → Named ℕ
counted_of book = counted_in book.entries

-- for each query, by name, the number of nodes that have tables, and of those that have counting tables
pub record Tabled : Type 0 where
  pub covered : Named ℕ
  pub counted : Named ℕ

-- both numbers for each query
abbrev pub tables_of : Book → Tabled
tables_of book = record { covered = covered_of book; counted = counted_of book }

-- the query of this name, if there is one, has the counting tables of n nodes
abbrev pub HasCounts : ℕ → Book → List ℕ → Type 0
HasCounts n book name = (t : TabledQuery) → tabled_of book name ≡ Some t → counts_in t ≡ Some n

-- the query of this name, if there is one, has the tables of n nodes
abbrev pub HasTables : ℕ → Book → List ℕ → Type 0
HasTables n book name = (t : TabledQuery) → tabled_of book name ≡ Some t → count_of t.tables ≡ n

-- the same number for each name
abbrev pub all_at : ℕ → Named ℕ → Named ℕ
all_at n ps = map (λ p. (p.0, n)) ps

-- the sum of the numbers
abbrev pub sum_of : Named ℕ → ℕ
sum_of [] = 0
sum_of (p ∷ ps) = p.1 + sum_of ps

-- in each query all nodes of the list have their tables
pub record Covers (ns : List Node) (book : Book) : Type 0 where
  pub serves : Serves ns book
  pub all : covered_of book ≡ all_at (length ns) (covered_of book)

-- in the query of this name, if there is one, all nodes of the list have their tables
pub record CoversQuery (ns : List Node) (book : Book) (name : List ℕ) : Type 0 where
  pub serves : Serves ns book
  pub tables : HasTables (length ns) book name

-- each number is unchanged or n
abbrev pub ArePartlyAt : ℕ → Named ℕ → Named ℕ → Type 0
ArePartlyAt n [] [] = Unit {0}
ArePartlyAt n [] (q ∷ qs) = ⊥
ArePartlyAt n (p ∷ ps) [] = ⊥
ArePartlyAt n (p ∷ ps) (q ∷ qs) = (q.0 ≡ p.0) × ((q.1 ≡ p.1) ⊎ (q.1 ≡ n)) × ArePartlyAt n ps qs
