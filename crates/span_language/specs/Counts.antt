-- The number of queries that an accepted command registers, whether it compacts, whether it asks for counting tables, and
-- the resulting bounds on nodes and computed tables.
use Rattle.std.specs.Prelude.{◌≡◌, ◌⊎◌, ℕ, ◌+◌, ◌*◌, ◌≤◌, Bool, false, List, length}
use Rattle.script_syntax.specs.declared.form.ListStart.{ListStart}
use Rattle.script_syntax.specs.declared.form.ListStart.TheVariants.{At}
use Rattle.script_syntax.specs.declared.form.Command.{Command}
use Rattle.script_syntax.specs.declared.form.Command.TheVariants as form
use Rattle.query_book.specs.Serving.{sum_of}
pub use Rattle.query_book.specs.Serving.{Tabled}
use Rattle.span_types.specs.Query.{Query}
use Rattle.span_types.specs.Rel.{names_of}
use Rattle.span_enum.specs.Members.{Tuple}
use Rattle.span_cursor.specs.Tuples.{TupleText}
use Rattle.span_language.specs.State.{Named, World}
use Rattle.span_language.specs.Step.{IsAsked}
use Rattle.span_language.specs.declared.told.Told.{Told}
use Rattle.span_language.specs.declared.told.Told.TheVariants.{Accepted}

-- the command registers a query
abbrev pub Registers : Command → Type 0
Registers (form.Query name formula) = Unit {0}
Registers (form.UnionQuery name left right) = Unit {0}
Registers (form.JoinQuery name left right) = Unit {0}
Registers (form.ProjectQuery name source keep) = Unit {0}
Registers _ = ⊥

-- the command drops the unreachable nodes
abbrev pub Compacts : Command → Type 0
Compacts form.Compact = Unit {0}
Compacts _ = ⊥

-- the listing starts at the answer with a number
abbrev pub IsNumbered : ListStart → Type 0
IsNumbered (At m) = Unit {0}
IsNumbered _ = ⊥

-- the command asks for counting tables: it is of the form `count`, `rank` or `list .. at`, and isn't rejected before they
-- are needed
abbrev pub AsksForCounts : World → Command → Type 0
AsksForCounts old (form.Count query name) = (q : Query) × (text : List ℕ) × IsAsked old query name q text
AsksForCounts old (form.Rank query name word) = (q : Query) × (text : List ℕ) × (tuple : Tuple) × IsAsked old query name q text × TupleText word (names_of q) tuple
AsksForCounts old (form.List query name start n) = IsNumbered start × ((q : Query) × (text : List ℕ) × IsAsked old query name q text)
AsksForCounts old _ = ⊥

-- one if the command was accepted and is of the kind, otherwise none
abbrev pub IsOnce : Type 0 → Told → ℕ → Type 0
IsOnce kind Accepted count = (kind × (count ≡ 1)) ⊎ ((kind → ⊥) × (count ≡ 0))
IsOnce kind _ count = count ≡ 0

-- The bound on the tables that a line computed, if there are at most n nodes and this many were dropped. Together with
-- the tables that the queries had, they are at most the tables that the queries have now. A query that was replaced or
-- removed counts one table for each node.
abbrev pub Places : ℕ → ℕ → ℕ → Named ℕ → Named ℕ → ℕ → ℕ → Type 0
Places count dropped nodes old new before after = (n : ℕ) → nodes ≤ n
    → after + sum_of old + n * length new ≤ before + sum_of new + (n + dropped) * length old + n * count

-- the number of tables computed by a line in which the run was stopped: each query has at most one for each node
abbrev pub PlacesPart : ℕ → ℕ → Named ℕ → ℕ → ℕ → Type 0
PlacesPart few nodes old before after = (n : ℕ) → few ≤ n → nodes ≤ n → after + sum_of old ≤ before + n * length old

-- The bound on the tables of both kinds that a line computed. The counting tables come last, and there are none unless the
-- line asks for them.
pub record PlacesOfBoth (asks : Bool) (count dropped nodes : ℕ) (old new : Tabled) (before after : ℕ) : Type 0 where
  pub between : ℕ
  pub tables : Places count dropped nodes old.covered new.covered before between
  pub counting : Places count dropped nodes old.counted new.counted between after
  pub unasked : asks ≡ false → after ≡ between

-- the same for a line in which the run was stopped
pub record PlacesPartOfBoth (asks : Bool) (few nodes : ℕ) (old : Tabled) (before after : ℕ) : Type 0 where
  pub between : ℕ
  pub tables : PlacesPart few nodes old.covered before between
  pub counting : PlacesPart few nodes old.counted between after
  pub unasked : asks ≡ false → after ≡ between

-- the bound on the tables of both kinds that the lines so far have computed, when they registered this many queries and
-- dropped this many nodes, and the bound if none asked for counting tables
pub record PlacesSoFar (asked : Bool) (queries dropped nodes : ℕ) (t : Tabled) (before now : ℕ) : Type 0 where
  pub both : (n : ℕ) → nodes ≤ n → now + n * (length t.covered + length t.counted) ≤ before + (sum_of t.covered + sum_of t.counted) + 2 * ((n + dropped) * queries)
  pub unasked : asked ≡ false → (n : ℕ) → nodes ≤ n → now + n * length t.covered ≤ before + sum_of t.covered + (n + dropped) * queries
