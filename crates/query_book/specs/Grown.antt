-- The effect of computing tables.
use Rattle.std.specs.Prelude.{◌≡◌, ℕ, ◌+◌, Bool, false, List, length}
use Rattle.slp_model.specs.declared.Node.{Node}
use Rattle.query_book.specs.Book.{Book, queries_of}
use Rattle.query_book.specs.Serving.{ArePartlyAt, Serves, counted_of, covered_of, sum_of}

-- the queries are the same, and each has the tables that it had or those of all nodes; the same holds of the counting
-- tables, which are new only if they were asked for. Each new table was counted, those of the first kind first.
pub record GrowsTables (asked : Bool) (ns : List Node) (old new : Book) (before after : ℕ) : Type 0 where
  pub serves : Serves ns new
  pub states : new.states ≡ old.states
  pub queries : queries_of new ≡ queries_of old
  pub between : ℕ
  pub tables : ArePartlyAt (length ns) (covered_of old) (covered_of new)
  pub tables_paid : between + sum_of (covered_of old) ≡ before + sum_of (covered_of new)
  pub counts : ArePartlyAt (length ns) (counted_of old) (counted_of new)
  pub counts_paid : after + sum_of (counted_of old) ≡ between + sum_of (counted_of new)
  pub unasked : asked ≡ false → after ≡ between

-- only counting tables are new
pub record GrowsCounts (ns : List Node) (old new : Book) (before after : ℕ) : Type 0 where
  pub serves : Serves ns new
  pub states : new.states ≡ old.states
  pub queries : queries_of new ≡ queries_of old
  pub tables : covered_of new ≡ covered_of old
  pub counts : ArePartlyAt (length ns) (counted_of old) (counted_of new)
  pub counts_paid : after + sum_of (counted_of old) ≡ before + sum_of (counted_of new)
